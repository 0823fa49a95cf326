use Rattle.std.proofs.Common.{◌≡◌, ◌≤◌, length}
use Rattle.chi_machine_agenda.specs.Joined as joined
use Rattle.chi_machine_agenda.proofs.joining.still.Given as goal

abbrev pub invariant-loop-left : goal.invariant-loop-left
invariant-loop-left l = record {
  same : joined.still l.finished.items l.numbers l.left ≡ joined.still l.finished.items l.numbers l.count;
  within : l.left ≤ length l.numbers;
}

abbrev pub decreases-loop-left : goal.decreases-loop-left
decreases-loop-left l = l.left
