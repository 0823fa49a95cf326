-- The digits so far, and those of what is left.
use Rattle.std.proofs.Common.{◌≡◌, ◌+◌, ◌-◌, ◌*◌, ◌^◌, ◌<◌}
use Rattle.chi_dist.specs.Exponential.{log_digits}
use Rattle.chi_dist.proofs.exponential.log_digits.Given as goal

abbrev pub invariant-loop-digit : goal.invariant-loop-digit
invariant-loop-digit l =
    (log_digits 40 l.fn.number ≡ l.digits * 2 ^ (40 - l._digit) + log_digits (40 - l._digit) l.rest) × (l.digits < 2 ^ l._digit)
