-- Division of ints: the quotient is rounded down, and the remainder is what is left.
use Rattle.std.specs.Prelude.{◌≡◌, ℤ, pos, negsuc, ◌-ℤ◌, ◌*ℤ◌, ◌≤ℤ◌, ◌<ℤ◌}
use Rattle.chi_num.specs.Rounding.{IsFloor}

-- what is left of a after b times the quotient a / b rounded down
pub record IsRemainder (a b r : ℤ) : Type 0 where
  pub quotient : ℤ
  pub floor : IsFloor a b quotient
  pub rest : r ≡ a -ℤ (b *ℤ quotient)

-- r lies from 0 to before b, on b's side of 0
abbrev pub LiesBefore : ℤ → ℤ → Type 0
LiesBefore (pos b) r = (pos 0 ≤ℤ r) × (r <ℤ pos b)
LiesBefore (negsuc b) r = (negsuc b <ℤ r) × (r ≤ℤ pos 0)
