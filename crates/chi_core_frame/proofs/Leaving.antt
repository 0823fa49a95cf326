-- What is left of elements, once the next one is taken.
use Rattle.std.proofs.Common.{◌≡◌, ℕ, zero, suc, ◌+◌, List, [], ◌∷◌, Some, None, drop, refl, sym, ap, ◌∙◌, arith, slice_get}
use Rattle.chi_value.specs.declared.value.Value.{Value}

pub next_left : (all rest : List Value) (taken : ℕ) (x : Value) → drop taken all ≡ rest → slice_get all taken ≡ Some x → rest ≡ x ∷ drop (taken + 1) all
next_left all rest taken x is at = sym is ∙ at_place all taken at
  where
    at_place : (all : List Value) (n : ℕ) → slice_get all n ≡ Some x → drop n all ≡ x ∷ drop (n + 1) all
    at_place [] n e = absurd (cc)
    at_place (y ∷ ys) zero e = let same : y ≡ x = cc in ap (λ y. y ∷ ys) same
    at_place (y ∷ ys) (suc n) e = let same : suc n + 1 ≡ suc (n + 1) = omega arith in at_place ys n e ∙ ap (λ k. x ∷ drop k (y ∷ ys)) (sym same)

pub none_left : (all rest : List Value) (taken : ℕ) → drop taken all ≡ rest → slice_get all taken ≡ None → rest ≡ []
none_left all rest taken is at = sym is ∙ past all taken at
  where
    past : (all : List Value) (n : ℕ) → slice_get all n ≡ None → drop n all ≡ []
    past [] zero e = refl
    past [] (suc n) e = refl
    past (y ∷ ys) zero e = absurd (cc)
    past (y ∷ ys) (suc n) e = past ys n e
