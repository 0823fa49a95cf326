-- Why something has no value, or isn't done.
use Rattle.std.specs.Prelude.{◌≡◌}
use Rattle.chi_ops.specs.declared.fault.OpFault.{OpFault}
use Rattle.chi_core_apply.specs.declared.failure.Failure.{Failure}
use Rattle.chi_core_apply.specs.declared.failure.Failure.TheVariants as failure
use Rattle.chi_core_apply.specs.Failures.{failure_of_operation}
use Rattle.chi_core.specs.Answer as answer
use Rattle.chi_core.specs.Answer.{Answer, Fails}
use Rattle.chi_core_frame.specs.declared.stop.Stop.{Stop}
use Rattle.chi_core_frame.specs.declared.stop.Stop.TheVariants.{Fault, Spent, NoMemory}

-- it is what an answer comes to, unless memory was wanting
abbrev pub Stops : {A : Type 0} → Stop → Answer A → Type 0
Stops (Fault kind) it = it ≡ Fails kind
Stops Spent it = it ≡ answer.Spent
Stops NoMemory it = Unit {0}

-- why operands have no value
abbrev pub stop_of_failure : Failure → Stop
stop_of_failure (failure.Fault kind) = Fault kind
stop_of_failure failure.NoMemory = NoMemory

-- what refuses an operation on containers
abbrev pub stop_of_operation : OpFault → Stop
stop_of_operation fault = stop_of_failure (failure_of_operation fault)
