use Rattle.chi_plain_options.specs.Listing.{KeepsLists}
use Rattle.chi_plain_options.proofs.Listings.{ListedForBelow}
use Rattle.chi_plain_options.proofs.listing.list_for.Given as goal

abbrev pub invariant-loop-other : goal.invariant-loop-other
invariant-loop-other l = KeepsLists l.initial.joiners l.joiners × ListedForBelow l.joiners l.fn.pid l.fn.waited l.other-index
