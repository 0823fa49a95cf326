use Rattle.std.proofs.Common.{◌≡◌, ◌≢◌, drop}
use Rattle.chi_core.specs.Answer.{Amiss, through}
use Rattle.chi_plain_eval.specs.Surroundings.{value_in}
use Rattle.chi_plain_costs.specs.Tried.{tried_target}
use Rattle.chi_plain_costs.proofs.trying.try_targets.Given as goal

abbrev pub invariant-loop-target : goal.invariant-loop-target
invariant-loop-target l =
    let each = tried_target (value_in l.scene l.variables) in
    (through each (drop l.target-index l.targets) tt l.view ≢ Amiss)
    × (through each l.targets tt l.fn.view ≡ through each (drop l.target-index l.targets) tt l.view)
