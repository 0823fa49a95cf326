use Rattle.std.proofs.Common.{◌≡◌, length, drop}
use Rattle.chi_machine_agenda.specs.Asking.{told_all}
use Rattle.chi_machine_agenda.specs.Asking.{asks}
use Rattle.chi_machine_agenda.proofs.marking.ask_all.Given as goal

abbrev pub invariant-loop-party : goal.invariant-loop-party
invariant-loop-party l = record {
  told : told_all (asks l.waiting l.clock) (drop l.party-index l.parties) l.ready ≡ told_all (asks l.waiting l.clock) l.parties l.fn.ready;
  room : length l.ready ≡ length l.fn.ready;
}
