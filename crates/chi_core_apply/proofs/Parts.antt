-- Parts of tuples.
use Rattle.std.proofs.Common.{◌≡◌, ◌≢◌, ℕ, zero, suc, ◌<◌, List, [], ◌∷◌, Some, None, length, slice_get, ap, refl, ◌∙◌, arith}
use Rattle.std.specs.Option.{option_and_then}
use Rattle.chi_value.specs.declared.value.Value.{Value}
use Rattle.chi_core.specs.Reading.{parts_of, part_of}

pub at_place : {A : Type 0} (xs : List A) (n : ℕ) → slice_get xs n ≢ None → n < length xs
at_place [] n h = absurd (h refl)
at_place (x ∷ xs) zero h = omega arith
at_place (x ∷ xs) (suc n) h = omega (arith, at_place xs n h)

pub parts_there : (v : Value) (k : ℕ) → part_of v k ≢ None → parts_of v ≢ None
parts_there v k h e = h (ap (option_and_then (λ parts. slice_get parts k)) e)

pub part_there : (v : Value) (k : ℕ) (parts : List Value) → parts_of v ≡ Some parts → part_of v k ≢ None → k < length parts
part_there v k parts e h = at_place parts k (λ a. h (ap (option_and_then (λ parts. slice_get parts k)) e ∙ a))

pub part_is : (v : Value) (k : ℕ) (parts : List Value) (x : Value) → parts_of v ≡ Some parts → slice_get parts k ≡ Some x → part_of v k ≡ Some x
part_is v k parts x e at = ap (option_and_then (λ parts. slice_get parts k)) e ∙ at

pub ruleset parts = (parts_there, part_there, part_is)
