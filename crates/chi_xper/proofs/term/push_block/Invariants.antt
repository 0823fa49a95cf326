use Rattle.std.proofs.Common.{◌≡◌, ◌≤◌, ◌++◌, length, drop}
use Rattle.std.specs.Prelude.{map}
use Rattle.chi_xper.specs.Items.{Do}
use Rattle.chi_xper.specs.Tasks.{todo}
use Rattle.chi_xper.proofs.term.push_block.Given as goal

abbrev pub invariant-loop-left : goal.invariant-loop-left
invariant-loop-left l =
    (l.left ≤ length l.block) × (todo l.tasks.items ≡ map Do (drop l.left l.block) ++ todo l.fn.tasks.items)

abbrev pub decreases-loop-left : goal.decreases-loop-left
decreases-loop-left l = l.left
