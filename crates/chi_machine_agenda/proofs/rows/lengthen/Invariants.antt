use Rattle.std.proofs.Common.{◌≡◌, ◌≤◌, length}
use Rattle.chi_machine_agenda.specs.Joined.{SameRows}
use Rattle.chi_machine_agenda.proofs.rows.lengthen.Given as goal

abbrev pub invariant-loop-more : goal.invariant-loop-more
invariant-loop-more l = record {
  kept : SameRows l.fn.rows.items l.rows.items;
  more : length l.fn.rows.items ≤ length l.rows.items;
  count : length l.rows.items ≡ l._more;
}
