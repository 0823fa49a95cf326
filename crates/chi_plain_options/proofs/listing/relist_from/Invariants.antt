use Rattle.chi_plain_options.specs.Listing.{KeepsLists, KeepsParties}
use Rattle.chi_plain_options.proofs.Listings.{ListedBelow}
use Rattle.chi_plain_options.proofs.listing.relist_from.Given as goal

abbrev pub invariant-loop-pid : goal.invariant-loop-pid
invariant-loop-pid l = KeepsParties l.initial.parties l.parties × KeepsLists l.initial.joiners l.joiners × ListedBelow l.parties l.joiners l.fn.config.instances l.fn.from l.pid
