-- What a page owes in a loop: what was written with what is still to be written is the whole, and what was written is within the
-- limit.
use Rattle.std.proofs.Common.{◌≡◌, ℕ, ◌<◌, ◌≤◌, List, ◌++◌, length, length-append, ap, arith}

pub record Holds (written left whole : List ℕ) (most : ℕ) : Type 0 where
  pub same : written ++ left ≡ whole
  pub within : length written ≤ most

-- what is too long as far as it goes is too long as a whole
pub longer : (most : ℕ) (front back whole : List ℕ) → front ++ back ≡ whole → most < length front → most < length whole
longer most front back whole same low = omega (arith, length-append front back, ap length same)
