-- Exponential draws: a greater draw gives no greater number, and the least draw the greatest.
use Rattle.std.proofs.Common.{◌≡◌, ℕ, suc, ◌+◌, ◌*◌, ◌/◌, ◌^◌, ◌<◌, ◌≤◌, ℤ, pos, ◌≤ℤ◌, arith}
use Rattle.std.specs.Prelude.{unsigned_abs}
use Rattle.std.proofs.Math.Nat.{mul-le-mul_left}
use Rattle.std.proofs.lemmas.Int.{ints}
use Rattle.chi_dist.specs.Exponential.{exponent, log_units, most_units, exponential_units}
use Rattle.chi_dist.proofs.Logarithm.{div_order, exponent_told, units_order, units_most}

pub exponent_of_draw : (word : ℕ) → word < 2 ^ 64 → (2 ^ exponent (word + 1) ≤ word + 1) × (word + 1 < 2 ^ (exponent (word + 1) + 1))
exponent_of_draw word below =
    let told = exponent_told (word + 1) (omega arith) (omega (arith, below)) in
    let next : exponent (word + 1) + 1 ≡ suc (exponent (word + 1)) = omega arith in
    rw next told

scaled : (n a b : ℕ) → a ≤ b → pos (n * a / 1_000_000_000) ≤ℤ pos (n * b / 1_000_000_000)
scaled n a b le =
    let order : n * a / 1_000_000_000 ≤ n * b / 1_000_000_000 = div_order 1_000_000_000 (n * a) (n * b) (omega arith) (mul-le-mul_left n le) in
    omega (arith, ints, order)

pub exponential_order : (mean : ℤ) (word other : ℕ) → word ≤ other → other < 2 ^ 64 → exponential_units mean other ≤ℤ exponential_units mean word
exponential_order mean word other le below = scaled (unsigned_abs mean) (log_units other) (log_units word) (units_order word other le below)

pub exponential_least : (mean : ℤ) (word : ℕ) → pos 0 ≤ℤ exponential_units mean word
exponential_least mean word = omega (arith, ints)

pub exponential_most : (mean : ℤ) (word : ℕ) → exponential_units mean word ≤ℤ pos (unsigned_abs mean * most_units / 1_000_000_000)
exponential_most mean word = scaled (unsigned_abs mean) (log_units word) most_units (units_most word)
