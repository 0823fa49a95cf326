-- Private to proofs. What is made where no rule is broken.
use Rattle.std.proofs.Common.{◌≡◌, ℕ, Bool, true, false, not, List, [], ◌∷◌, ◌++◌, Option, Some, None, refl}
use Rattle.std.specs.Prelude.{if◌then◌else◌}
use Rattle.chi_token.specs.declared.place.Place.{Place}
use Rattle.chi_check_types.specs.declared.fault.Fault.{Fault}
use Rattle.chi_check_types.specs.Faults.{are_none}
use Rattle.chi_check_types.specs.Typed.{broken_if, unless}

module _ {A : Type 0} where
  pub faults_unless : (fs : List Fault) (a : A) → (unless fs a).faults ≡ fs
  faults_unless [] a = refl
  faults_unless (f ∷ fs) a = refl

  pub made_ruled : (fs ds : List Fault) (a : A) → (unless (fs ++ ds) a).made ≡ (if are_none fs then (unless ds a).made else None)
  made_ruled [] ds a = refl
  made_ruled (f ∷ fs) ds a = refl

  pub made_unless : (broken : Bool) (rule : ℕ) (place : Place) (fs : List Fault) (a : A) → (unless (broken_if broken rule place ++ fs) a).made ≡ (if not broken then (unless fs a).made else None)
  made_unless true rule place fs a = refl
  made_unless false rule place fs a = refl

  pub made_deep : (broken : Bool) (rule : ℕ) (place : Place) (a : A) → (unless (broken_if broken rule place) a).made ≡ (if broken then None else Some a)
  made_deep true rule place a = refl
  made_deep false rule place a = refl
