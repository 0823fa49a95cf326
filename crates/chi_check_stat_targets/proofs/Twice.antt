-- Private to proofs. Two faults, one after the other.
use Rattle.std.proofs.Common.{◌≡◌, List, [], ◌∷◌, Option}
use Rattle.chi_check_types.specs.declared.fault.Fault.{Fault}
use Rattle.chi_check_types.specs.Faults.{first_of}
use Rattle.chi_check_types.proofs.Firsts.{first_of_append}

pub first_of_two : (kept : Option Fault) (f g : Fault) → first_of kept (f ∷ g ∷ []) ≡ first_of (first_of kept (f ∷ [])) (g ∷ [])
first_of_two kept f g = first_of_append kept (f ∷ []) (g ∷ [])
