use Rattle.chi_machine_agenda.specs.Joined.{numbers_at, IsWatched}
use Rattle.chi_machine_agenda.proofs.Watching.{AreSeenBelow}
use Rattle.chi_machine_agenda.proofs.joining.look_all.Given as goal

abbrev pub invariant-loop-i : goal.invariant-loop-i
invariant-loop-i l = record {
  watched : IsWatched l.finished.items l.fn.watchers l.watchers;
  seen : AreSeenBelow l.finished.items l.numbers l.left.items (numbers_at l.fn.watchers l.pid) l.i l.watchers;
}
