-- Private to proofs. A dictionary whose keys have no type in common.
use Rattle.std.proofs.Common.{◌≡◌, List, ◌∷◌, Option, Some, None, refl}
use Rattle.chi_token.specs.declared.place.Place.{Place}
use Rattle.chi_types.specs.declared.ty.Ty.{Ty}
use Rattle.chi_check_types.specs.declared.meant.Made.{Made}
use Rattle.chi_check_types.specs.declared.rules.TheConstants.{JOINED_PARTS}
use Rattle.chi_check_types.specs.Faults.{fault}
use Rattle.chi_check_expr_rules.specs.Containers.{values_rule, dict_joined}

pub unjoined_faults : (place : Place) (keys values : List Made) (key value : Option Ty) → key ≡ None
    → (dict_joined place keys values key value).faults ≡ fault JOINED_PARTS place ∷ values_rule place value
unjoined_faults place keys values None value e = refl
unjoined_faults place keys values (Some k) value e = absurd (cc)
