use Rattle.std.proofs.Common.{◌≡◌, ◌≢◌, drop}
use Rattle.chi_core.specs.Answer.{Amiss, through}
use Rattle.chi_core.specs.Spots.{read_step}
use Rattle.chi_plain_eval.specs.Surroundings.{value_in}
use Rattle.chi_plain_open.proofs.targets.read_steps.Given as goal

abbrev pub invariant-loop-step : goal.invariant-loop-step
invariant-loop-step l =
    let each = read_step (value_in l.surroundings l.variables) in
    (through each (drop l.step-index l.steps) l.value l.view ≢ Amiss)
    × (through each l.steps l.fn.first l.fn.view ≡ through each (drop l.step-index l.steps) l.value l.view)
