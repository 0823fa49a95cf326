-- A formed expression or type is the only one of its tokens, but for its places.
use Rattle.std.proofs.Common.{◌≡◌, ℕ, map, refl, ap, sym, ◌∙◌}
use Rattle.chi_grammar.specs.declared.room.Room.{Room}
use Rattle.chi_grammar.specs.Rules.{part, spelling}
use Rattle.chi_grammar.specs.Trees.{Is}
use Rattle.chi_tree.specs.declared.type_tree.TypeTree.{TypeTree}
use Rattle.chi_tree.specs.declared.expr.Expr.{Expr}
use Rattle.chi_tree.specs.Parts as s
use Rattle.chi_tree.specs.Rules.{grammar}
use Rattle.chi_tree_spell.specs.Expressions.{spelled_expr, spelled_type}
use Rattle.chi_tree.specs.View.{Built, type_of, expr_of}
use Rattle.chi_tree_spell.specs.Words.{token_of}
use Rattle.chi_tree_spell.proofs.ProgramSpelling.{type_spelling, expr_spelling}
use Rattle.chi_tree_laws.specs.Levels as level
use Rattle.chi_tree_laws.specs.Expressions.{FormedType, FormedExpr}
use Rattle.chi_tree_laws.specs.Unplaced.{unplaced_type, unplaced_expr}
use Rattle.chi_tree_laws.proofs.ExprLaw.{formed_types, formed_exprs}
use Rattle.chi_tree_laws.proofs.UnplacedShown.{shown_type, shown_expr}
use Rattle.chi_tree_laws.proofs.Blind.{blind}
use Rattle.chi_tree_laws.proofs.OneBuilt.{one_built}

-- there is room for so many levels of expressions
abbrev room_for : ℕ → Room
room_for d = record { blocks = 0; expressions = d }

-- two that the grammar builds of the same tokens

built_exprs : (room other : Room) (t u : Built) (e f : Expr) → Is grammar room (part s.Expr) t → Is grammar other (part s.Expr) u
    → expr_of t ≡ e → expr_of u ≡ f → spelled_expr e ≡ spelled_expr f → unplaced_expr e ≡ unplaced_expr f
built_exprs room other t u e f p q at_t at_u same =
    let spelt : map token_of (spelling t) ≡ map token_of (spelling u) =
    sym (expr_spelling room t p) ∙ ap spelled_expr at_t ∙ same ∙ ap spelled_expr (sym at_u) ∙ expr_spelling other u q in
    ap unplaced_expr (sym at_t) ∙ shown_expr t ∙ ap expr_of (one_built blind (part s.Expr) refl tt room other t u p q spelt)
    ∙ sym (shown_expr u) ∙ ap unplaced_expr at_u

built_types : (room other : Room) (t u : Built) (e f : TypeTree) → Is grammar room (part s.AnyType) t → Is grammar other (part s.AnyType) u
    → type_of t ≡ e → type_of u ≡ f → spelled_type e ≡ spelled_type f → unplaced_type e ≡ unplaced_type f
built_types room other t u e f p q at_t at_u same =
    let spelt : map token_of (spelling t) ≡ map token_of (spelling u) =
    sym (type_spelling room t p) ∙ ap spelled_type at_t ∙ same ∙ ap spelled_type (sym at_u) ∙ type_spelling other u q in
    ap unplaced_type (sym at_t) ∙ shown_type t ∙ ap type_of (one_built blind (part s.AnyType) refl tt room other t u p q spelt)
    ∙ sym (shown_type u) ∙ ap unplaced_type at_u

-- the laws

pub one_expr : (c d : ℕ) (e f : Expr) → FormedExpr level.Expr c e → FormedExpr level.Expr d f
    → spelled_expr e ≡ spelled_expr f → unplaced_expr e ≡ unplaced_expr f
one_expr c d e f p q same =
    let t : (t : Built) × Is grammar (room_for c) (part s.Expr) t × (expr_of t ≡ e) = (formed_exprs (room_for c) e).0 p in
    let u : (u : Built) × Is grammar (room_for d) (part s.Expr) u × (expr_of u ≡ f) = (formed_exprs (room_for d) f).0 q in
    built_exprs (room_for c) (room_for d) t.0 u.0 e f t.1 u.1 t.2 u.2 same

pub one_type : (c d : ℕ) (e f : TypeTree) → FormedType c e → FormedType d f
    → spelled_type e ≡ spelled_type f → unplaced_type e ≡ unplaced_type f
one_type c d e f p q same =
    let t : (t : Built) × Is grammar (room_for c) (part s.AnyType) t × (type_of t ≡ e) = (formed_types (room_for c) e).0 p in
    let u : (u : Built) × Is grammar (room_for d) (part s.AnyType) u × (type_of u ≡ f) = (formed_types (room_for d) f).0 q in
    built_types (room_for c) (room_for d) t.0 u.0 e f t.1 u.1 t.2 u.2 same
