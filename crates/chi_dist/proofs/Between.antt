-- The share of a whole that a draw picks lies below it.
use Rattle.std.proofs.Common.{◌≡◌, ℕ, ◌*◌, ◌/◌, ◌^◌, ◌<◌, ℤ, pos, negsuc, ◌+ℤ◌, ◌-ℤ◌, ◌<ℤ◌, ◌≤ℤ◌, FitsSigned, w64, to_z, of_z, refl, ap, ◌∙◌, arith}
use Rattle.std.specs.Prelude.{unsigned_abs}
use Rattle.std.specs.Int.{saturate_signed}
use Rattle.std.proofs.Math.Nat.{div-lt_iff_lt-mul, mul-lt-mul_of_pos_right}
use Rattle.std.proofs.lemmas.Int.{ints, to_z-of_z}
use Rattle.chi_dist.specs.Draws.{between}

share_below : (word whole : ℕ) → word < 2 ^ 64 → 0 < whole → word * whole / 2 ^ 64 < whole
share_below word whole below some =
    let most : word * whole < 2 ^ 64 * whole = mul-lt-mul_of_pos_right below some in
    (div-lt_iff_lt-mul {x = word * whole} {y = whole} (omega arith)).1 (omega (arith, most))

-- what is picked lies from a to before b
pub between_least : (a b : ℤ) (word : ℕ) → a ≤ℤ between a b word
between_least a b word = omega (arith, ints)

pub between_most : (a b : ℤ) (word : ℕ) → word < 2 ^ 64 → a <ℤ b → between a b word <ℤ b
between_most a b word below less =
    let share = share_below word (unsigned_abs (b -ℤ a)) below (omega (arith, ints, less)) in omega (arith, ints, less, share)

-- so it lies in the range of its bounds
saturated : (z : ℤ) → FitsSigned w64 z → saturate_signed w64 z ≡ z
saturated (pos n) f = ap pos (omega (arith, f))
saturated (negsuc n) f = ap negsuc (omega (arith, f))

pub not_clamped : (a b r : ℤ) (share word : ℕ) → FitsSigned w64 a → FitsSigned w64 b → word < 2 ^ 64 → a <ℤ b
    → share ≡ word * unsigned_abs (to_z w64 (of_z w64 b) -ℤ to_z w64 (of_z w64 a)) / 2 ^ 64 → r ≡ saturate_signed w64 (to_z w64 (of_z w64 a) +ℤ pos share)
    → to_z w64 (of_z w64 r) ≡ between a b word
not_clamped a b r share word f g below less e is =
    let fits : FitsSigned w64 (between a b word) = omega (arith, ints, f, g, between_least a b word, between_most a b word below less) in
    let same : r ≡ between a b word = is ∙ rw (to_z-of_z w64 a f, e, to_z-of_z w64 a f, to_z-of_z w64 b g) (saturated (between a b word) fits) in
    rw (same, to_z-of_z w64 (between a b word) fits) refl
