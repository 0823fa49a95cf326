-- Exponential draws: what a mean and a draw give, by a logarithm of forty binary digits.
use Rattle.std.specs.Prelude.{ℕ, zero, suc, ◌+◌, ◌-◌, ◌*◌, ◌/◌, ◌^◌, nat_lt, ℤ, pos, unsigned_abs, if◌then◌else◌}
use Rattle.std.specs.Int.Count.{count_leading_zeros}

-- the number n with 2 ^ n at most x and 2 ^ (n + 1) above it, for x from 1 to 2 ^ 64
abbrev pub exponent : ℕ → ℕ
exponent x = 64 - count_leading_zeros 65 x

-- What 2 ^ n is multiplied by to make x, from 1 to before 2, in parts of 2 ^ 63.
abbrev pub leading : ℕ → ℕ
leading x = x * 2 ^ 63 / 2 ^ exponent x

-- the square of a number of such parts, rounded down; the logarithm of the number has the next binary digit 1 where it
-- is 2 or more, and goes on with half of it then, rounded down
abbrev pub square : ℕ → ℕ
square y = y * y / 2 ^ 63

abbrev pub log_digit : ℕ → ℕ
log_digit y = if nat_lt (square y) (2 ^ 64) then 0 else 1

abbrev pub log_rest : ℕ → ℕ
log_rest y = if nat_lt (square y) (2 ^ 64) then square y else square y / 2

-- so many binary digits of the logarithm to base 2 as one number, the first digit highest
unfoldable pub log_digits : ℕ → ℕ → ℕ
log_digits zero y = 0
log_digits (suc count) y = log_digit y * 2 ^ count + log_digits count (log_rest y)

-- the logarithm to base 2 in parts of 2 ^ 40, cut off
abbrev pub log_parts : ℕ → ℕ
log_parts x = exponent x * 2 ^ 40 + log_digits 40 (leading x)

-- how far the logarithm of a draw and one lies below 64, in parts of 2 ^ 40
abbrev pub log_below : ℕ → ℕ
log_below word = 64 * 2 ^ 40 - log_parts (word + 1)

-- the natural logarithm of 2, in units
abbrev pub log_of_two : ℕ
log_of_two = 693_147_181

-- by how many units a draw multiplies each unit of the mean, and the greatest such number
abbrev pub log_units : ℕ → ℕ
log_units word = log_below word * log_of_two / 2 ^ 40

abbrev pub most_units : ℕ
most_units = 64 * log_of_two

-- the greatest mean, in units
abbrev pub most_mean : ℤ
most_mean = pos 100_000_000_000_000_000

-- the units that a mean, in units, and a draw give
abbrev pub exponential_units : ℤ → ℕ → ℤ
exponential_units mean word = pos (unsigned_abs mean * log_units word / 1_000_000_000)
