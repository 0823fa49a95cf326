-- Facts on lists: elements by their places, once one is set.
use Rattle.std.proofs.Common.{◌≡◌, ℕ, zero, suc, ◌<◌, List, [], ◌∷◌, length, Some, refl, ap, arith}
use Rattle.std.specs.Prelude.{slice_get, slice_set}

pub set_there : {A : Type 0} (xs : List A) (k : ℕ) (x : A) → k < length xs → slice_get (slice_set xs k x) k ≡ Some x
set_there [] k x h = absurd (omega (arith, h))
set_there (y ∷ xs) zero x h = refl
set_there (y ∷ xs) (suc k) x h = set_there xs k x (omega (arith, h))

pub set_elsewhere : {A : Type 0} (xs : List A) (k j : ℕ) (x : A) → (j ≡ k → ⊥) → slice_get (slice_set xs k x) j ≡ slice_get xs j
set_elsewhere [] k j x other = refl
set_elsewhere (y ∷ xs) zero zero x other = absurd (other refl)
set_elsewhere (y ∷ xs) zero (suc j) x other = refl
set_elsewhere (y ∷ xs) (suc k) zero x other = refl
set_elsewhere (y ∷ xs) (suc k) (suc j) x other = set_elsewhere xs k j x (λ same. other (ap suc same))
