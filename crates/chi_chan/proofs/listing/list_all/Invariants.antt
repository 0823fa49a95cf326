use Rattle.chi_chan.specs.declared.offers.Offer.TheVariants.{Send, Receive}
use Rattle.chi_chan.specs.Kept.{Stood}
use Rattle.chi_chan.proofs.listing.list_all.Given as goal

abbrev pub invariant-loop-number : goal.invariant-loop-number
invariant-loop-number l = record {
  senders : Stood Send l.pid l.offers l.number l.fn.senders l.senders;
  receivers : Stood Receive l.pid l.offers l.number l.fn.receivers l.receivers;
}
