use Rattle.std.proofs.Common.{take, ◌≡◌}
use Rattle.chi_code.specs.Sizes.{into_size}
use Rattle.chi_gen_sizes.proofs.measure_parts.into_of.Given as goal

abbrev pub invariant-loop-step : goal.invariant-loop-step
invariant-loop-step l = l.count ≡ into_size (take l.step-index l.steps)
