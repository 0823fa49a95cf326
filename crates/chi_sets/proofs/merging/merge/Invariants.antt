use Rattle.std.proofs.Common.{◌≡◌, ◌+◌, ◌++◌, true, length}
use Rattle.chi_sets.specs.Ascending.{ascends, in_order}
use Rattle.chi_sets.specs.By.{order_by}
use Rattle.chi_sets.proofs.merging.merge.Given as goal

abbrev pub invariant-loop-x : goal.invariant-loop-x
invariant-loop-x l = record {
  whole : l.merged.items ++ in_order (order_by l.by) (l.left ++ l.right) ≡ in_order (order_by l.by) (l.fn.a ++ l.fn.b);
  left_up : ascends (order_by l.by) l.left ≡ true;
  right_up : ascends (order_by l.by) l.right ≡ true;
}

abbrev pub decreases-loop-x : goal.decreases-loop-x
decreases-loop-x l = length l.left + length l.right
