use Rattle.std.proofs.Common.{drop}
use Rattle.chi_plain_eval.specs.Surroundings.{value_in}
use Rattle.chi_xper.proofs.Choosing.{choose_first}
use Rattle.chi_xper.proofs.blocks.choose.Goals as goal

pub value_of-requires : goal.value_of-requires
value_of-requires c =
    choose_first (value_in c.args.scene.now c.args.course.now.variables) c.args.course.now.variables c.args.branches.now c.args.otherwise.now (drop 1 c.loop-branch.term) c.loop-branch.view
    c.loop-branch.branch-index c.branch-item.result c.loop-branch-test.true c.branch-item.is c.loop-branch.invariant.1
