use Rattle.std.proofs.Common.{◌≡◌, ◌+◌, drop}
use Rattle.chi_exec_law.specs.Instructions.{step_count}
use Rattle.chi_exec_steps.proofs.assigning.step_count.Given as goal

abbrev pub invariant-loop-step : goal.invariant-loop-step
invariant-loop-step l = l.count + step_count (drop l.step-index l.steps) ≡ step_count l.steps
