-- No operator and no insertion costs anything of the bound by itself.
use Rattle.std.proofs.Common.{◌≡◌, ◌≢◌}
use Rattle.chi_ops.specs.declared.fault.OpFault.{OpFault}
use Rattle.chi_core_apply.specs.declared.failure.Failure.{Failure}
use Rattle.chi_core_apply.specs.declared.failure.Failure.TheVariants as failure
use Rattle.chi_core_apply.specs.Failures.{failure_of_operation}
use Rattle.chi_core_frame.specs.declared.stop.Stop.{Stop}
use Rattle.chi_core_frame.specs.declared.stop.Stop.TheVariants.{Spent}
use Rattle.chi_core_frame.specs.Stops.{stop_of_failure, stop_of_operation}

pub never_spent : (f : Failure) (stop : Stop) → stop ≡ stop_of_failure f → stop ≢ Spent
never_spent (failure.Fault kind) stop is e = absurd (cc)
never_spent failure.NoMemory stop is e = absurd (cc)

pub insertion_unspent : (f : OpFault) (stop : Stop) → stop ≡ stop_of_operation f → stop ≢ Spent
insertion_unspent f stop is = never_spent (failure_of_operation f) stop is
