-- What the shape of a tree is that a run gives, and views that need no more than it.
use Rattle.std.proofs.Common.{◌≡◌, ℕ, ◌≤◌, Ok, Err, Result, IsErrAnd, Some, None, List, length, refl, sym, subst, ◌∙◌}
use Rattle.chi_grammar.specs.declared.fault.ParseFault.{ParseFault}
use Rattle.chi_grammar.specs.declared.room.Room.{Room}
use Rattle.chi_grammar.specs.Rules.{node, pair, part, Rule, ◌▸◌}
use Rattle.chi_token.specs.declared.sign.Sign.TheVariants.{Colon, Comma}
use Rattle.chi_grammar.specs.RuleRuns.{Done, Fail, RuleRuns}
use Rattle.chi_grammar.specs.RuleRuns as runs
use Rattle.chi_grammar.specs.Reads.{Reads}
use Rattle.chi_grammar.proofs.Exits.{run_at}
use Rattle.chi_grammar.proofs.At.{At-ordered, At-inside}
use Rattle.chi_token.specs.declared.place.Place.{Place}
use Rattle.chi_token.specs.declared.place.Spanned.{Spanned}
use Rattle.chi_tree.specs.declared.expr.Expr.{Expr}
use Rattle.chi_tree.specs.declared.expr.Expr.TheVariants as expr
use Rattle.chi_tree.specs.declared.type_tree.Name.{Name}
use Rattle.chi_tree.specs.declared.type_tree.TypeTree.{TypeTree}
use Rattle.chi_tree.specs.Parts.{Part}
use Rattle.chi_tree.specs.Parts as s
use Rattle.chi_tree.specs.Rules.{grammar, nested, name, sign}
use Rattle.chi_tree.specs.Tables.{table}
use Rattle.chi_parse_expr.specs.Values.{value_of}
use Rattle.chi_parse_expr.specs.Passing.{Passes, PassesTo}
use Rattle.chi_tree.specs.View.{Built, entry_of, expr_of, optional, called, carried_of, type_of, formal_in, name_in, blank}

-- a part is no empty tree
pub optional_part : {tokens : List Spanned} {room : Room} {i j : ℕ} {t : Built} {T : Type 0} {p : Part}
    → RuleRuns grammar table tokens room (part p) i (Done t j) → (x : T) → optional t x ≡ Some x
optional_part (runs.part h) x = refl

pub called_part : {tokens : List Spanned} {room : Room} {i j : ℕ} {t : Built} {p : Part}
    → RuleRuns grammar table tokens room (part p) i (Done t j) → (n : Name) (es : List Expr) → called n t es ≡ expr.Call n es
called_part (runs.part h) n es = refl

pub carried_type : {tokens : List Spanned} {room : Room} {i j : ℕ} {t : Built}
    → RuleRuns grammar table tokens room (nested (part s.AnyType)) i (Done t j) → carried_of (node s.Carried t) ≡ Some (type_of t)
carried_type (runs.deeper e (runs.part h)) = refl

pub formal_name : {tokens : List Spanned} {room : Room} {i j : ℕ} {t : Built}
    → RuleRuns grammar table tokens room name i (Done t j) → (c : Built) → formal_in (pair c t) ≡ record { ty = None; name = name_in t }
formal_name (runs.word e f) c = refl

pub blank_list : {tokens : List Spanned} {room : Room} {i j : ℕ} {t : Built}
    → RuleRuns grammar table tokens room (nested (part s.BlankItems)) i (Done t j) → (place : Place) (of : TypeTree) (w : Built)
    → blank place of (pair w t) ≡ expr.EmptyList place of
blank_list (runs.deeper e (runs.part h)) place of w = refl

pub blank_set : {tokens : List Spanned} {room : Room} {i j : ℕ} {t : Built}
    → RuleRuns grammar table tokens room (nested (part s.BlankElements)) i (Done t j) → (place : Place) (of : TypeTree) (w : Built)
    → blank place of (pair w t) ≡ expr.EmptySet place of
blank_set (runs.deeper e (runs.part h)) place of w = refl

pub entry_shows : {tokens : List Spanned} {room : Room} {i j k end : ℕ} {w t : Built} → RuleRuns grammar table tokens room (sign Comma) i (Done w j)
    → RuleRuns grammar table tokens room (sign Colon ▸ part s.Expr) k (Done t end) → (key : Built)
    → entry_of (node s.MoreEntry (pair w (pair key t))) ≡ record { key = expr_of key; value = value_of t }
entry_shows w (runs.both p q) key = refl

-- an answer under one view is one under another that shows the same
pub reads_same : {T : Type 0} (tokens : List Spanned) (v w : Built → T) (room : Room) (r : Rule Spanned Part) (at : ℕ) (result : Result (T × ℕ) ParseFault)
    → ((u : Built) → v u ≡ w u) → Reads grammar table tokens w room r at result → Reads grammar table tokens v room r at result
reads_same tokens v w room r at (Ok p) same q =
    record { tree = q.tree; runs = q.runs; shows = same q.tree ∙ q.shows; ordered = q.ordered; inside = q.inside }
reads_same tokens v w room r at (Err fault) same q = q

-- what was gone over

pub passed : {tokens : List Spanned} {room : Room} {r : Rule Spanned Part} {at end : ℕ} {t : Built} → at ≤ length tokens
    → RuleRuns grammar table tokens room r at (Done t end) → PassesTo tokens room r at end
passed {t = t} inside run =
    record { tree = t; runs = run; ordered = At-ordered (run_at grammar table _ run); inside = At-inside (run_at grammar table _ run) inside }

pub not_passed : (tokens : List Spanned) (room : Room) (r : Rule Spanned Part) (at : ℕ) (result : Result ℕ ParseFault) (fault : ParseFault)
    → IsErrAnd result (λ e. e ≡ fault) → RuleRuns grammar table tokens room r at (Fail fault) → Passes tokens room r at result
not_passed tokens room r at (Ok end) fault e run = absurd e
not_passed tokens room r at (Err f) fault e run = subst (λ x. RuleRuns grammar table tokens room r at (Fail x)) (sym e) run
