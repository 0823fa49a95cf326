-- What holds of what a whole program comes to.
use Rattle.std.specs.Prelude.{◌≡◌, [], Some}
use Rattle.chi_check_types.specs.Typed.{Typed}

-- where no rule is broken it comes to something
abbrev pub IsWhole : {A : Type 0} → Typed A → Type 0
IsWhole {A} t = t.faults ≡ [] → (a : A) × (t.made ≡ Some a)
