-- Places in lists.
use Rattle.std.proofs.Common.{◌≢◌, ℕ, zero, suc, ◌<◌, List, [], ◌∷◌, None, length, refl, arith}
use Rattle.std.specs.Prelude.{slice_get}

pub at_place : {A : Type 0} (xs : List A) (n : ℕ) → slice_get xs n ≢ None → n < length xs
at_place [] n h = absurd (h refl)
at_place (x ∷ xs) zero h = omega arith
at_place (x ∷ xs) (suc n) h = omega (arith, at_place xs n h)
