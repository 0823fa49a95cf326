use Rattle.std.proofs.Common.{◌≡◌, ◌≤◌, length}
use Rattle.chi_plain_open.specs.Offered.{receivers_below}
use Rattle.chi_plain_open.proofs.offer.receiver_count.Given as goal

abbrev pub invariant-loop-offer : goal.invariant-loop-offer
invariant-loop-offer l = (l.count ≡ length (receivers_below l.fn.channel l.offers l.offer-index)) × (l.count ≤ l.offer-index)
