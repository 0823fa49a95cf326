-- The number so far, with the digits that are left after it, is the whole.
use Rattle.std.proofs.Common.{◌≡◌, ◌<◌, ◌^◌, drop}
use Rattle.chi_num.specs.Decimal.{followed_by}
use Rattle.chi_num.proofs.read.digits.followed_by.Given as goal

abbrev pub invariant-loop-digit : goal.invariant-loop-digit
invariant-loop-digit l =
    (followed_by l.whole (drop l.digit-index l.digits) ≡ followed_by l.fn.number l.digits) × (l.whole < 2 ^ 64)
