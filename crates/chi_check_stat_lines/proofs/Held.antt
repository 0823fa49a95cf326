-- Private to proofs. What is made where a rule of the whole is broken.
use Rattle.std.proofs.Common.{◌≡◌, ℕ, Bool, true, false, not, List, [], ◌∷◌, ◌++◌, Option, Some, None, refl, ap}
use Rattle.std.specs.Prelude.{if◌then◌else◌}
use Rattle.chi_token.specs.declared.place.Place.{Place}
use Rattle.chi_check_types.specs.declared.fault.Fault.{Fault}
use Rattle.chi_check_types.specs.Faults.{are_none}
use Rattle.chi_check_types.specs.Typed.{broken_if, unless}
use Rattle.chi_check_stat_lines.specs.Stated.{one}

module _ {A : Type 0} where
  pub held_made : (fs : List Fault) (m : Option A) → (if are_none fs then m else None) ≡ (if not (are_none fs) then None else m)
  held_made [] m = refl
  held_made (f ∷ fs) m = refl

  pub held_if : (broken : Bool) (rule : ℕ) (place : Place) (m : Option A) → (if are_none (broken_if broken rule place) then m else None) ≡ (if broken then None else m)
  held_if true rule place m = refl
  held_if false rule place m = refl

  pub one_unless : (fs : List Fault) (a : A) → one (unless fs a).made ≡ (if not (are_none fs) then None else one (Some a))
  one_unless [] a = refl
  one_unless (f ∷ fs) a = refl
