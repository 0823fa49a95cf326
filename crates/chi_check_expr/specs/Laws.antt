-- What holds of what trees come to.
use Rattle.std.specs.Prelude.{◌≡◌, ◌↔◌, [], Option, Some, None}
use Rattle.chi_check_types.specs.Typed.{Typed}

-- it comes to something exactly where no rule is broken
abbrev pub IsExact : {A : Type 0} → Typed A → Type 0
IsExact {A} t = (t.faults ≡ []) ↔ ((a : A) × (t.made ≡ Some a))
