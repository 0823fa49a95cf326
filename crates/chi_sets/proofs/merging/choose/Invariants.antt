use Rattle.std.proofs.Common.{◌≡◌, ◌+◌, ◌++◌, true, length}
use Rattle.chi_value.specs.Order.{order}
use Rattle.chi_sets.specs.Chosen.{chosen}
use Rattle.chi_sets.specs.Sets.{is_ascending}
use Rattle.chi_sets.proofs.merging.choose.Given as goal

abbrev pub invariant-loop-x : goal.invariant-loop-x
invariant-loop-x l = record {
  whole : l.kept.items ++ chosen order l.common l.left l.right ≡ chosen order l.common l.fn.a l.fn.b;
  left_up : is_ascending l.left ≡ true;
  right_up : is_ascending l.right ≡ true;
}

abbrev pub decreases-loop-x : goal.decreases-loop-x
decreases-loop-x l = length l.left + length l.right
