use Rattle.chi_plain_options.specs.Listing.{Keeps}
use Rattle.chi_plain_options.proofs.Listings.{ReachesBelow}
use Rattle.chi_plain_options.proofs.listing.reach_in.Given as goal

abbrev pub invariant-loop-offer : goal.invariant-loop-offer
invariant-loop-offer l = Keeps l.initial.reached.items l.reached.items × ReachesBelow l.fn.parties l.fn.offers l.reached.items l.offer-index
