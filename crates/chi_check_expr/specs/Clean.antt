-- What has to hold of the visible names.
use Rattle.std.specs.Prelude.{◌≡◌, ℕ, List, Some}
use Rattle.chi_types.specs.declared.ty.Ty.{Ty}
use Rattle.chi_value.specs.declared.shape.Shape.{Shape}
use Rattle.chi_check_types.specs.declared.known.NameKind.{NameKind}
use Rattle.chi_check_types.specs.declared.known.Known.TheVariants as known
use Rattle.chi_check_types.specs.Defaults.{shape_of}
use Rattle.chi_check_types.specs.Names.{Names, known_in}

-- each visible name that should have a type has one
abbrev pub Clean : Names → Type 0
Clean names = (name : List ℕ) (kind : NameKind) → known_in names name ≡ Some (known.Untyped kind) → ⊥

-- each visible type has defaults
abbrev pub HaveDefaults : Names → Type 0
HaveDefaults names = (name : List ℕ) (t : Ty) → known_in names name ≡ Some (known.Kind t) → (s : Shape) × (shape_of t ≡ Some s)
