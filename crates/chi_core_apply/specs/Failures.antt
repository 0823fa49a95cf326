-- Why operands have no value.
use Rattle.std.specs.Prelude.{◌≡◌}
use Rattle.chi_value.specs.declared.defaults.DefaultFault.{DefaultFault}
use Rattle.chi_value.specs.declared.defaults.DefaultFault.TheVariants as default
use Rattle.chi_ops.specs.declared.fault.OpFault.{OpFault}
use Rattle.chi_ops.specs.declared.fault.OpFault.TheVariants as operation
use Rattle.chi_core.specs.declared.fault.FaultKind.TheVariants.{TooManyChannels, IndexRange, KeyMissing, EmptyPop, TooLarge, SliceStep}
use Rattle.chi_core.specs.Answer.{Answer, Fails}
use Rattle.chi_core_apply.specs.declared.failure.Failure.{Failure}
use Rattle.chi_core_apply.specs.declared.failure.Failure.TheVariants.{Fault, NoMemory}

-- it is what an answer comes to, unless memory was wanting
abbrev pub IsFailure : {A : Type 0} → Failure → Answer A → Type 0
IsFailure (Fault kind) it = it ≡ Fails kind
IsFailure NoMemory it = Unit {0}

-- what refuses a default
abbrev pub failure_of_default : DefaultFault → Failure
failure_of_default default.TooManyChannels = Fault TooManyChannels
failure_of_default default.NoMemory = NoMemory

-- what refuses an operation on containers
abbrev pub failure_of_operation : OpFault → Failure
failure_of_operation operation.Index = Fault IndexRange
failure_of_operation operation.Key = Fault KeyMissing
failure_of_operation operation.Empty = Fault EmptyPop
failure_of_operation operation.Limit = Fault TooLarge
failure_of_operation operation.SliceStep = Fault SliceStep
failure_of_operation operation.NoMemory = NoMemory
