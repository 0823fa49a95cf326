use Rattle.std.proofs.Common.{◌≡◌, ◌+◌, true, length}
use Rattle.chi_sets.specs.Sets.{is_ascending, is_subset}
use Rattle.chi_sets.proofs.merging.is_subset.Given as goal

abbrev pub invariant-loop-x : goal.invariant-loop-x
invariant-loop-x l = record {
  whole : is_subset l.left l.right ≡ is_subset l.fn.a l.fn.b;
  left_up : is_ascending l.left ≡ true;
  right_up : is_ascending l.right ≡ true;
}

abbrev pub decreases-loop-x : goal.decreases-loop-x
decreases-loop-x l = length l.left + length l.right
