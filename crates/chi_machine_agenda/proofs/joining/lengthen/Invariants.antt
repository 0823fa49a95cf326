use Rattle.std.proofs.Common.{◌≡◌, ◌≤◌, length}
use Rattle.chi_machine_agenda.specs.Joined.{SameLeft}
use Rattle.chi_machine_agenda.proofs.joining.lengthen.Given as goal

abbrev pub invariant-loop-more : goal.invariant-loop-more
invariant-loop-more l = record {
  kept : SameLeft l.fn.left.items l.left.items;
  more : length l.fn.left.items ≤ length l.left.items;
  count : length l.left.items ≡ l._more;
}
