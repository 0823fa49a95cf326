-- Private to proofs: one constant after another.
use Rattle.std.specs.Prelude.{◌≡◌, ℕ, List, Some, slice_get}
use Rattle.chi_value.specs.declared.value.Value.{Value}
use Rattle.chi_code.specs.declared.code.Code.{Code}
use Rattle.chi_code.specs.declared.instr.Instr.TheVariants as i
use Rattle.chi_machine_constants.specs.declared.setting.Next.{Next}
use Rattle.chi_machine_constants.specs.declared.setting.Next.TheVariants as next
use Rattle.chi_machine_constants.specs.Settings.{IsBroken, LeadsTo}

-- the next constant is set, and from there the code goes on; or none is left; or a fault ends the run
abbrev pub Moved : Code → ℕ → ℕ → List Value → Next → List Value → Type 0
Moved code seed a before (next.Set place) values = LeadsTo code seed a before place values
Moved code seed a before next.Over values = (slice_get code.instrs a ≡ Some i.Done) × (values ≡ before)
Moved code seed a before (next.Broken kind line) values = IsBroken code seed a before kind line
