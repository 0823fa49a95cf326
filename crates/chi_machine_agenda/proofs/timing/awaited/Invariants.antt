use Rattle.chi_machine_agenda.specs.Timed.{AwaitsBelow}
use Rattle.chi_machine_agenda.proofs.timing.awaited.Given as goal

abbrev pub invariant-loop-offer : goal.invariant-loop-offer
invariant-loop-offer l = AwaitsBelow l.clock l.offers l.offer-index l.least
