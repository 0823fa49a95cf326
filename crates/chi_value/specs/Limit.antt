-- How long a text may be.
use Rattle.std.specs.Prelude.{◌≡◌, ℕ, ◌+◌, ◌<◌, ◌≤◌, List, ◌++◌, length, Result, Ok, Err}
use Rattle.chi_value.specs.declared.text.limit.TheConstants.{MOST_TEXT}
use Rattle.chi_value.specs.declared.text.fault.TextFault.{TextFault}
use Rattle.chi_value.specs.declared.text.fault.TextFault.TheVariants as fault

-- the fault of the limit stands only where a text would be longer than it may be
abbrev pub PastLimit : TextFault → ℕ → Type 0
PastLimit fault.Limit size = MOST_TEXT < size
PastLimit fault.NoMemory size = Unit {0}

-- a text grew within the limit by more bytes, or was refused
abbrev pub Appends : Result (Unit {0}) TextFault → List ℕ → List ℕ → List ℕ → Type 0
Appends (Ok done) old new more = (new ≡ old ++ more) × (length new ≤ MOST_TEXT)
Appends (Err fault) old new more = PastLimit fault (length old + length more)
