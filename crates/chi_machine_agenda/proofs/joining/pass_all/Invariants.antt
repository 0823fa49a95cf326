use Rattle.std.proofs.Common.{◌≡◌, drop}
use Rattle.chi_machine_agenda.specs.Joined.{lowered, freed, AreLeft, AreRoomy}
use Rattle.chi_machine_agenda.proofs.joining.pass_all.Given as goal

abbrev pub invariant-loop-pid : goal.invariant-loop-pid
invariant-loop-pid l = record {
  left : lowered l.finished.items l.numbers (drop l.pid-index l.pids) l.left.items ≡ lowered l.finished.items l.numbers l.pids l.fn.left.items;
  ready : freed l.finished.items l.numbers (drop l.pid-index l.pids) l.left.items l.ready ≡ freed l.finished.items l.numbers l.pids l.fn.left.items l.fn.ready;
  within : AreLeft l.numbers l.left.items;
  room : AreRoomy l.left.items l.ready;
}
