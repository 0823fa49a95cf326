use Rattle.std.proofs.Common.{take, map, ◌≡◌}
use Rattle.chi_code.specs.Aims.{aim_step}
use Rattle.chi_gen_parts.proofs.targets.aim_steps.Given as goal

abbrev pub invariant-loop-step : goal.invariant-loop-step
invariant-loop-step l = l.done.items ≡ map aim_step (take l.step-index l.steps)
