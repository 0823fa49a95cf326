-- Rounding to the nearest whole number where the divisor is a count.
use Rattle.std.specs.Prelude.{ℕ, ◌+◌, ◌*◌, ◌/◌, ℤ, pos}
use Rattle.chi_num.specs.Rounding as rounding

-- r is n / d, rounded to the nearest whole number; of two such, the one farther from zero
abbrev pub IsNearest : ℤ → ℕ → ℤ → Type 0
IsNearest n d r = rounding.IsNearest n (pos d) r

-- the size of n / d, rounded
abbrev pub nearest : ℕ → ℕ → ℕ
nearest n d = (2 * n + d) / (2 * d)
