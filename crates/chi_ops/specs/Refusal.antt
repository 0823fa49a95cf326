-- What a refused call tells of the operation.
use Rattle.std.specs.Prelude.{◌≡◌}
use Rattle.chi_ops.specs.declared.fault.OpFault.{OpFault}
use Rattle.chi_ops.specs.declared.fault.OpFault.TheVariants as fault
use Rattle.chi_ops.specs.Outcome.{Outcome, faults, index_fault, key_fault, empty_fault, limit_fault, step_fault}

-- the operation has that very fault; want of memory tells nothing
abbrev pub Refuses : OpFault → Outcome → Type 0
Refuses fault.Index outcome = outcome ≡ faults index_fault
Refuses fault.Key outcome = outcome ≡ faults key_fault
Refuses fault.Empty outcome = outcome ≡ faults empty_fault
Refuses fault.Limit outcome = outcome ≡ faults limit_fault
Refuses fault.SliceStep outcome = outcome ≡ faults step_fault
Refuses fault.NoMemory outcome = Unit {0}
