use Rattle.std.proofs.Common.{◌≡◌, drop}
use Rattle.chi_xper_runs.specs.Constants.{constants, set_after}
use Rattle.chi_xper_machines.proofs.constants.set_constants.Given as goal

abbrev pub invariant-loop-c : goal.invariant-loop-c
invariant-loop-c l = constants l.fn.core l.seed ≡ set_after l.fn.core l.seed l.values.items (drop l.c-index l.fn.core.consts)
