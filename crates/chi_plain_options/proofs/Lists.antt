-- Facts on numbers and lists that several pages need.
use Rattle.std.proofs.Common.{◌≡◌, ◌≢◌, ℕ, zero, suc, ◌<◌, ◌≤◌, List, [], ◌∷◌, true, false, length, get_or, ◌⊎◌, inl, inr, ap, refl, arith}
use Rattle.std.specs.Prelude.{nat_lt}
use Rattle.std.proofs.lemmas.Bool.{false≢true}

pub eq-cases : (x y : ℕ) → (x ≡ y) ⊎ (x ≢ y)
eq-cases zero zero = inl refl
eq-cases zero (suc y) = inr (λ e. cc)
eq-cases (suc x) zero = inr (λ e. cc)
eq-cases (suc x) (suc y) = by_rest (eq-cases x y)
  where
    by_rest : (x ≡ y) ⊎ (x ≢ y) → (suc x ≡ suc y) ⊎ (suc x ≢ suc y)
    by_rest (inl e) = inl (ap suc e)
    by_rest (inr d) = inr (λ e. d (omega (arith, e)))

pub none-of : {A : Type 0} (xs : List A) → length xs ≤ 0 → xs ≡ []
none-of [] h = refl
none-of (x ∷ xs) h = absurd (omega arith)

pub lt-true : (n : ℕ) → nat_lt 0 n ≡ true → 0 < n
lt-true zero e = absurd (false≢true e)
lt-true (suc n) e = omega arith

pub lt-false : (n : ℕ) → nat_lt 0 n ≡ false → n ≤ 0
lt-false n e = grind arith

-- within a list it doesn't matter what is read past it
pub get_or-within : {A : Type 0} (xs : List A) (k : ℕ) (x y : A) → k < length xs → get_or xs k x ≡ get_or xs k y
get_or-within [] k x y h = absurd (omega arith)
get_or-within (z ∷ zs) zero x y h = refl
get_or-within (z ∷ zs) (suc k) x y h = get_or-within zs k x y (omega arith)
