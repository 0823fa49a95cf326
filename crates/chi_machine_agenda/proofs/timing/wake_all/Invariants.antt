use Rattle.std.proofs.Common.{◌≡◌, length}
use Rattle.chi_machine_agenda.specs.Timed.{due_count}
use Rattle.chi_machine_agenda.proofs.Times.{AreWaking}
use Rattle.chi_machine_agenda.proofs.timing.wake_all.Given as goal

abbrev pub invariant-loop-due : goal.invariant-loop-due
invariant-loop-due g l = record {
  waking : AreWaking l.clock l.fn.ready l.ready l.fn.dues l.dues;
  ready : length l.ready ≡ length l.fn.ready;
  dues : length l.dues ≡ length l.fn.dues;
}

abbrev pub decreases-loop-due : goal.decreases-loop-due
decreases-loop-due g l = due_count l.dues
