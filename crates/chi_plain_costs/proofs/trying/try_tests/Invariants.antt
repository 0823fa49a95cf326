use Rattle.std.proofs.Common.{◌≡◌, ◌≢◌, drop}
use Rattle.chi_core.specs.Answer.{Amiss}
use Rattle.chi_plain_eval.specs.Surroundings.{value_in}
use Rattle.chi_plain_costs.specs.Tried.{tried_tests}
use Rattle.chi_plain_costs.proofs.trying.try_tests.Given as goal

abbrev pub invariant-loop-branch : goal.invariant-loop-branch
invariant-loop-branch l =
    let m = value_in l.scene l.variables in
    (tried_tests m (drop l.branch-index l.branches) l.view ≢ Amiss)
    × (tried_tests m l.branches l.fn.view ≡ tried_tests m (drop l.branch-index l.branches) l.view)
