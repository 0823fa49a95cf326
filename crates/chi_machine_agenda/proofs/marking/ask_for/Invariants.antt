use Rattle.std.proofs.Common.{◌≡◌, length, drop}
use Rattle.chi_machine_agenda.specs.Asking.{told_for}
use Rattle.chi_machine_agenda.specs.Asking.{asks}
use Rattle.chi_machine_agenda.proofs.marking.ask_for.Given as goal

abbrev pub invariant-loop-offer : goal.invariant-loop-offer
invariant-loop-offer l = record {
  told : told_for (asks l.waiting l.clock) l.waiting (drop l.offer-index l.offers) l.ready ≡ told_for (asks l.waiting l.clock) l.waiting l.offers l.fn.ready;
  room : length l.ready ≡ length l.fn.ready;
}
