use Rattle.std.proofs.Common.{◌≡◌, ◌≤◌, length}
use Rattle.chi_plain_open.specs.Offered.{receivers_below}
use Rattle.chi_plain_open.proofs.offer.receiver_at.Given as goal

abbrev pub invariant-loop-number : goal.invariant-loop-number
invariant-loop-number l = (l.seen ≡ length (receivers_below l.fn.channel l.offers l.number)) × (l.seen ≤ l.i)
