use Rattle.chi_chan.specs.declared.offers.Offer.TheVariants.{Send, Receive}
use Rattle.chi_chan.specs.Kept.{Left}
use Rattle.chi_chan.proofs.listing.unlist.Given as goal

abbrev pub invariant-loop-offer : goal.invariant-loop-offer
invariant-loop-offer l = record {
  senders : Left Send l.pid l.offers l.offer-index l.fn.senders l.senders;
  receivers : Left Receive l.pid l.offers l.offer-index l.fn.receivers l.receivers;
}
