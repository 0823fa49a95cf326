use Rattle.std.proofs.Common.{◌≡◌, true, length, drop}
use Rattle.chi_machine_agenda.specs.Asking.{told_all}
use Rattle.chi_machine_agenda.proofs.marking.free_all.Given as goal

abbrev pub invariant-loop-party : goal.invariant-loop-party
invariant-loop-party l = record {
  told : told_all (λ p. true) (drop l.party-index l.parties) l.ready ≡ told_all (λ p. true) l.parties l.fn.ready;
  room : length l.ready ≡ length l.fn.ready;
}
