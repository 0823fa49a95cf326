use Rattle.std.proofs.Common.{◌≡◌, ◌≢◌, drop}
use Rattle.chi_core.specs.Answer.{Amiss}
use Rattle.chi_plain_eval.specs.Surroundings.{value_in}
use Rattle.chi_xper.specs.Items.{chosen}
use Rattle.chi_xper.proofs.blocks.choose.Given as goal

abbrev pub invariant-loop-branch : goal.invariant-loop-branch
invariant-loop-branch l =
    let m = value_in l.scene l.variables in
    (l.term ≡ l.fn.course.term)
    × (chosen m l.variables (drop l.branch-index l.branches) l.otherwise (drop 1 l.term) l.view ≢ Amiss)
    × (chosen m l.variables l.branches l.otherwise (drop 1 l.fn.course.term) l.fn.course.view ≡ chosen m l.variables (drop l.branch-index l.branches) l.otherwise (drop 1 l.term) l.view)
