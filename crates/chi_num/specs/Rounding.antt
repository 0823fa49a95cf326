-- The whole numbers next to a fraction, whose divisor isn't 0.
use Rattle.std.specs.Prelude.{◌*◌, ◌≤◌, ℤ, pos, negsuc, ◌-ℤ◌, ◌*ℤ◌, ◌≤ℤ◌, unsigned_abs}

-- r is at most number / divisor
abbrev pub IsAtMost : ℤ → ℤ → ℤ → Type 0
IsAtMost number (pos divisor) r = (r *ℤ pos divisor) ≤ℤ number
IsAtMost number (negsuc divisor) r = number ≤ℤ (r *ℤ negsuc divisor)

-- r is at least number / divisor
abbrev pub IsAtLeast : ℤ → ℤ → ℤ → Type 0
IsAtLeast number (pos divisor) r = number ≤ℤ (r *ℤ pos divisor)
IsAtLeast number (negsuc divisor) r = (r *ℤ negsuc divisor) ≤ℤ number

-- r is at most a half away from number / divisor
abbrev pub IsNear : ℤ → ℤ → ℤ → Type 0
IsNear number divisor r = 2 * unsigned_abs ((r *ℤ divisor) -ℤ number) ≤ unsigned_abs divisor

-- number / divisor rounded down: the greatest whole number that is at most it
pub record IsFloor (number divisor r : ℤ) : Type 0 where
  pub at_most : IsAtMost number divisor r
  pub greatest : (s : ℤ) → IsAtMost number divisor s → s ≤ℤ r

-- number / divisor rounded up: the least whole number that is at least it
pub record IsCeiling (number divisor r : ℤ) : Type 0 where
  pub at_least : IsAtLeast number divisor r
  pub least : (s : ℤ) → IsAtLeast number divisor s → r ≤ℤ s

-- number / divisor rounded to the nearest whole number, and of two such the one farther from zero
pub record IsNearest (number divisor r : ℤ) : Type 0 where
  pub near : IsNear number divisor r
  pub farther : (s : ℤ) → IsNear number divisor s → unsigned_abs s ≤ unsigned_abs r
