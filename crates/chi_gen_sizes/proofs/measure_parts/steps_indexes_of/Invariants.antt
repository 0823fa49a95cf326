use Rattle.std.proofs.Common.{take, ◌≡◌}
use Rattle.chi_code.specs.Aims.{step_indexes}
use Rattle.chi_code.specs.Sizes.{sizes}
use Rattle.chi_gen_sizes.proofs.measure_parts.steps_indexes_of.Given as goal

abbrev pub invariant-loop-step : goal.invariant-loop-step
invariant-loop-step l = l.count ≡ sizes (step_indexes (take l.step-index l.steps))
