use Rattle.chi_plain_options.specs.Listing.{Keeps}
use Rattle.chi_plain_options.proofs.Listings.{CoversBelow}
use Rattle.chi_plain_options.proofs.listing.cover_from.Given as goal

abbrev pub invariant-loop-pid : goal.invariant-loop-pid
invariant-loop-pid l =
    Keeps l.initial.covered.items l.covered.items × CoversBelow l.fn.parties l.fn.joiners l.fn.config.instances l.fn.from l.pid l.covered.items
