-- How a text grows by what a piece shows. Private to proofs.
use Rattle.std.specs.Prelude.{ℕ, Result, Option, Some, None, List}
use Rattle.chi_value.specs.declared.text.fault.TextFault.{TextFault}
use Rattle.chi_value.specs.Limit.{Appends}

-- a text grew within the limit by what is shown, or was refused
abbrev pub Grows : Result (Unit {0}) TextFault → List ℕ → List ℕ → Option (List ℕ) → Type 0
Grows result old new (Some more) = Appends result old new more
Grows result old new None = ⊥
