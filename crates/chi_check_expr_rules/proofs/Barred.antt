-- Private to proofs. A node with further rules of its own.
use Rattle.std.proofs.Common.{◌≡◌, not, List, [], ◌∷◌, ◌++◌, Some, None, refl}
use Rattle.std.specs.Prelude.{if◌then◌else◌}
use Rattle.chi_check_types.specs.declared.fault.Fault.{Fault}
use Rattle.chi_check_types.specs.Faults.{are_none}
use Rattle.chi_check_types.specs.Typed.{Typed, unless}
use Rattle.chi_check_expr_rules.specs.Nodes.{barred}

module _ {A : Type 0} where
  pub made_barred : (fs : List Fault) (t : Typed A) → (barred fs t).made ≡ (if not (are_none fs) then None else t.made)
  made_barred [] t = refl
  made_barred (f ∷ fs) t = refl

  pub faults_barred : (fs : List Fault) (t : Typed A) → (barred fs t).faults ≡ fs ++ t.faults
  faults_barred [] t = refl
  faults_barred (f ∷ fs) t = refl

  pub made_unless_barred : (fs : List Fault) (a : A) → (unless fs a).made ≡ (if not (are_none fs) then None else Some a)
  made_unless_barred [] a = refl
  made_unless_barred (f ∷ fs) a = refl
