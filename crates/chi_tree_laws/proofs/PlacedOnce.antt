-- Of programs, expressions or types that are formed, have the same tokens, and whose places agree with these, there is one.
use Rattle.std.proofs.Common.{◌≡◌, ℕ, List, [], ◌∷◌, ◌++◌, map, refl, ap, sym, ◌∙◌}
use Rattle.chi_token.specs.declared.place.Place.{Place}
use Rattle.chi_token.specs.declared.place.Spanned.{Spanned}
use Rattle.chi_tree.specs.declared.definition.Program.{Program}
use Rattle.chi_tree.specs.declared.expr.Expr.{Expr}
use Rattle.chi_tree.specs.declared.type_tree.TypeTree.{TypeTree}
use Rattle.chi_tree_spell.specs.Expressions.{marked_expr, marked_type}
use Rattle.chi_tree_spell.specs.Marks.{Mark, Agree}
use Rattle.chi_tree_spell.specs.Marks as marks
use Rattle.chi_tree_spell.specs.Statements.{IsLastPlace, last, later, AgreesWith}
use Rattle.chi_tree_laws.specs.Definitions.{FormedProgram}
use Rattle.chi_tree_laws.specs.Expressions.{FormedType, FormedExpr}
use Rattle.chi_tree_laws.specs.Levels as level
use Rattle.chi_tree_laws.specs.Unplaced.{unplaced_expr, unplaced_type}
use Rattle.chi_tree_laws.specs.UnplacedStatements.{unplaced}
use Rattle.chi_tree_laws.proofs.Readers.{Reader, Fit, Gives, each}
use Rattle.chi_tree_laws.proofs.Refilled.{refilled_expr, refilled_type}
use Rattle.chi_tree_laws.proofs.ExprPlaces.{type_again, expr_again}
use Rattle.chi_tree_laws.proofs.RefilledStatements.{refilled_item}
use Rattle.chi_tree_laws.proofs.StatementPlaces.{items_again}

abbrev place_of : Spanned → Place
place_of x = x.place

fit_of : (ms : List Mark) (xs : List Spanned) → Agree ms xs → Fit ms (map place_of xs)
fit_of [] [] marks.none = marks.none
fit_of [] (x ∷ xs) h = elim h [ ]
fit_of (m ∷ ms) [] h = elim h [ ]
fit_of (m ∷ ms) (x ∷ xs) (marks.more r h) = marks.more r.place (fit_of ms xs h)

-- made again of the places of the same tokens, two trees are the same where they are it without their places
pub one_again : {A : Type 0} (f g : Reader A) (ms ns : List Mark) (x y : A) → Gives f ms x → Gives g ns y → f ≡ g
    → (xs : List Spanned) → Agree ms xs → Agree ns xs → x ≡ y
one_again {A} f g ms ns x y h k e xs a b =
    let ps = map place_of xs in
    let both : ◌≡◌ {A = A × List Place} (x, []) (y, []) =
    sym (h.given ps [] (fit_of ms xs a)) ∙ ap (λ (r : Reader A). r (ps ++ [])) e ∙ k.given ps [] (fit_of ns xs b) in
    ap (λ (z : A × List Place). z.0) both

no_last : (p : Place) → IsLastPlace [] p → ⊥
no_last p h = elim h [ ]

one_last : (xs : List Spanned) (p q : Place) → IsLastPlace xs p → IsLastPlace xs q → p ≡ q
one_last [] p q h k = elim h [ ]
one_last (x ∷ []) p q last last = refl
one_last (x ∷ []) p q last (later h) = absurd (no_last q h)
one_last (x ∷ []) p q (later h) k = absurd (no_last p h)
one_last (x ∷ y ∷ ys) p q (later h) (later k) = one_last (y ∷ ys) p q h k

pub one_placed : (b c d e : ℕ) (program other : Program) (tokens : List Spanned) → FormedProgram b c program → FormedProgram d e other
    → AgreesWith program tokens → AgreesWith other tokens → unplaced program ≡ unplaced other → program ≡ other
one_placed b c d e program other tokens p q agrees agrees_too bare =
    let made = ap (λ (x : Program). each (map refilled_item x.items)) bare in
    let same = one_again _ _ _ _ program.items other.items (items_again p) (items_again q) made tokens agrees.nodes agrees_too.nodes in
    let place = one_last tokens program.last other.last agrees.last agrees_too.last in
    (λ i. record { items = same i; last = place i })

pub one_placed_expr : (c d : ℕ) (e f : Expr) (tokens : List Spanned) → FormedExpr level.Expr c e → FormedExpr level.Expr d f
    → Agree (marked_expr e) tokens → Agree (marked_expr f) tokens → unplaced_expr e ≡ unplaced_expr f → e ≡ f
one_placed_expr c d e f tokens p q agrees agrees_too bare =
    one_again _ _ _ _ e f (expr_again p) (expr_again q) (ap refilled_expr bare) tokens agrees agrees_too

pub one_placed_type : (c d : ℕ) (t u : TypeTree) (tokens : List Spanned) → FormedType c t → FormedType d u
    → Agree (marked_type t) tokens → Agree (marked_type u) tokens → unplaced_type t ≡ unplaced_type u → t ≡ u
one_placed_type c d t u tokens p q agrees agrees_too bare =
    one_again _ _ _ _ t u (type_again p) (type_again q) (ap refilled_type bare) tokens agrees agrees_too
