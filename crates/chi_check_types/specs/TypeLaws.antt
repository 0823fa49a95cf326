-- What holds of the rules of types.
use Rattle.std.specs.Prelude.{◌≡◌, ℕ, Option, Some}
use Rattle.chi_types.specs.declared.ty.Ty.{out-Ty}
use Rattle.chi_core.specs.SoundTypes.{SoundType}
use Rattle.chi_check_types.specs.declared.meant.Meant.{Meant}
use Rattle.chi_check_types.specs.Typed.{Typed}

-- the type is sound, in a program with so many enumerations
abbrev pub IsSound : ℕ → Meant → Type 0
IsSound enumerations m = SoundType enumerations (out-Ty m.ty)

-- where it comes to a type, that is sound
abbrev pub ComesToSound : ℕ → Typed Meant → Type 0
ComesToSound enumerations typed = (m : Meant) → typed.made ≡ Some m → IsSound enumerations m
