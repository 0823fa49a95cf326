use Rattle.std.proofs.Common.{◌≡◌, ◌≤◌, ◌*◌, length}
use Rattle.chi_plain_options.specs.Scanning.{MOST_PAIRS, offered_below}
use Rattle.chi_plain_options.proofs.choices.offered_count.Given as goal

abbrev pub invariant-loop-offer : goal.invariant-loop-offer
invariant-loop-offer l =
    (l.count ≡ length (offered_below l.fn.config l.fn.pid l.offers l.offer-index)) × (l.count ≤ l.offer-index * MOST_PAIRS)
