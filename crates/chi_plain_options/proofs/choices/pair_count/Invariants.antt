use Rattle.std.proofs.Common.{◌≡◌, ◌≤◌, ◌*◌, length, take}
use Rattle.chi_core.specs.declared.limits.TheConstants.{MOST_OFFERS}
use Rattle.chi_plain_options.specs.Scanning.{pairs_among}
use Rattle.chi_plain_options.proofs.choices.pair_count.Given as goal

abbrev pub invariant-loop-other : goal.invariant-loop-other
invariant-loop-other l =
    (l.count ≡ length (pairs_among l.fn.config l.fn.pid 0 l.fn.channel (take l.other-index l.other-items))) × (l.count ≤ l.other-index * MOST_OFFERS)
