-- What holds of all types.
use Rattle.std.specs.Prelude.{Option, None, Some, IsTrue}
use Rattle.chi_types.specs.declared.ty.Ty.{Ty}
use Rattle.chi_types.specs.Same.{same}

-- no type on both sides, or the same one
abbrev pub SameJoined : Option Ty → Option Ty → Type 0
SameJoined None None = Unit {0}
SameJoined (Some a) (Some b) = IsTrue (same a b)
SameJoined _ _ = ⊥
