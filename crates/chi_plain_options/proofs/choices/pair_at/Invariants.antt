use Rattle.std.proofs.Common.{◌≡◌, ◌≤◌, length, take}
use Rattle.chi_plain_options.specs.Scanning.{pairs_among}
use Rattle.chi_plain_options.proofs.choices.pair_at.Given as goal

abbrev pub invariant-loop-other : goal.invariant-loop-other
invariant-loop-other l =
    (l.seen ≡ length (pairs_among l.fn.config l.fn.pid l.fn.alternative l.fn.channel (take l.other-index l.other-items))) × (l.seen ≤ l.fn.i)
