-- The type that two types have in common.
use Rattle.std.specs.Prelude.{Option, None, Some, ◌||◌, if◌then◌else◌}
use Rattle.chi_types.specs.declared.ty.Ty.{Ty, out-Ty}
use Rattle.chi_types.specs.declared.ty.Ty.TheVariants as ty
use Rattle.chi_types.specs.Same.{same}
use Rattle.chi_types.specs.Fits.{widens}

-- the first where they are the same; real where one is int and the other real
abbrev pub joined : Ty → Ty → Option Ty
joined a b =
    if same a b then Some a
    else if widens (out-Ty a) (out-Ty b) || widens (out-Ty b) (out-Ty a) then Some ty.Real
    else None
