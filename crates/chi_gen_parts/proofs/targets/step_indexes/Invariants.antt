use Rattle.std.proofs.Common.{take}
use Rattle.chi_code.specs.Aims.{step_indexes}
use Rattle.chi_gen_parts.specs.Added.{AddsExprs}
use Rattle.chi_gen_parts.proofs.targets.step_indexes.Given as goal

abbrev pub invariant-loop-step : goal.invariant-loop-step
invariant-loop-step l = AddsExprs (step_indexes (take l.step-index l.steps)) l.fn.code.items l.code.items
