use Rattle.chi_plain_options.specs.Listing.{KeepsParties}
use Rattle.chi_plain_options.proofs.Listings.{PartyBelow}
use Rattle.chi_plain_options.proofs.listing.list_in.Given as goal

abbrev pub invariant-loop-offer : goal.invariant-loop-offer
invariant-loop-offer l = KeepsParties l.initial.parties l.parties × PartyBelow l.parties l.fn.pid l.fn.offers l.offer-index
