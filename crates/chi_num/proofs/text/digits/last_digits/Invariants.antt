-- The digits so far, and those of the places that are left, are all of them.
use Rattle.std.proofs.Common.{◌≡◌, ◌++◌}
use Rattle.chi_num.specs.Decimal.{last_digits}
use Rattle.chi_num.proofs.text.digits.last_digits.Given as goal

abbrev pub invariant-loop-place : goal.invariant-loop-place
invariant-loop-place l = l.digits.items ++ last_digits l.place l.number ≡ last_digits l.count l.number
