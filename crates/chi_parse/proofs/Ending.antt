-- Which expressions are targets, and which elements end in `end`.
use Rattle.std.proofs.Common.{◌≡◌, ℕ, zero, suc, ◌-◌, Bool, true, false, Some, None, Option, List, [], ◌∷◌, length, slice_get, if◌then◌else◌, refl, sym, ap, ◌∙◌, arith}
use Rattle.chi_tree.specs.declared.expr.Expr.{Expr, Expr-F, out-Expr, out-roll-Expr}
use Rattle.chi_tree.specs.declared.expr.Expr.TheVariants as expr
use Rattle.chi_tree.specs.declared.expr.Postfix.{Postfix}
use Rattle.chi_tree.specs.declared.statement.Element.{Element, out-Element}
use Rattle.chi_tree.specs.declared.statement.Target.{Target}
use Rattle.chi_token.specs.declared.place.Spanned.{Spanned}
use Rattle.chi_tree.specs.Statements.{last_place, last_ends, ends_element, is_some}

pub last_ends-some : (xs : List Element) (n : ℕ) (x : Element) → n ≡ length xs - 1 → slice_get xs n ≡ Some x → last_ends xs ≡ ends_element (out-Element x)
last_ends-some [] n x k e = cc
last_ends-some (y ∷ []) zero x k e = cc
last_ends-some (y ∷ []) (suc n) x k e = absurd (omega (arith, k))
last_ends-some (y ∷ z ∷ ys) zero x k e = absurd (omega (arith, k))
last_ends-some (y ∷ z ∷ ys) (suc n) x k e = last_ends-some (z ∷ ys) n x (omega (arith, k)) e

pub last_ends-none : (xs : List Element) (n : ℕ) → n ≡ length xs - 1 → slice_get xs n ≡ None → last_ends xs ≡ false
last_ends-none [] n k e = refl
last_ends-none (y ∷ []) zero k e = cc
last_ends-none (y ∷ []) (suc n) k e = absurd (omega (arith, k))
last_ends-none (y ∷ z ∷ ys) zero k e = absurd (omega (arith, k))
last_ends-none (y ∷ z ∷ ys) (suc n) k e = last_ends-none (z ∷ ys) n (omega (arith, k)) e

-- an expression with parts, as its variant
pub out_part : (base : Expr) (steps : List Postfix) → out-Expr (expr.Part base steps) ≡ Expr-F.Part base steps
out_part base steps = ap out-Expr (sym (expr.rolls-Part base steps)) ∙ out-roll-Expr (Expr-F.Part base steps)

pub kept_where : (b : Bool) (target : Option Target) → is_some target ≡ true → is_some (if b then target else None) ≡ b
kept_where true target e = e
kept_where false target e = refl

pub last_place-some : (xs : List Spanned) (n : ℕ) (x : Spanned) → n ≡ length xs - 1 → slice_get xs n ≡ Some x → last_place xs ≡ x.place
last_place-some [] n x k e = cc
last_place-some (y ∷ []) zero x k e = cc
last_place-some (y ∷ []) (suc n) x k e = absurd (omega (arith, k))
last_place-some (y ∷ z ∷ ys) zero x k e = absurd (omega (arith, k))
last_place-some (y ∷ z ∷ ys) (suc n) x k e = last_place-some (z ∷ ys) n x (omega (arith, k)) e

-- a list without a last element is empty
pub no_last : {A : Type 0} (xs : List A) (n : ℕ) → n ≡ length xs - 1 → slice_get xs n ≡ None → length xs ≡ 0
no_last [] n k e = refl
no_last (y ∷ []) zero k e = cc
no_last (y ∷ []) (suc n) k e = absurd (omega (arith, k))
no_last (y ∷ z ∷ ys) zero k e = absurd (omega (arith, k))
no_last (y ∷ z ∷ ys) (suc n) k e = let none = no_last (z ∷ ys) n (omega (arith, k)) e in absurd (omega (arith, none))
