-- Logarithms by binary digits: their ranges and their order.
use Rattle.std.proofs.Common.{◌≡◌, ℕ, zero, suc, ◌+◌, ◌-◌, ◌*◌, ◌/◌, ◌^◌, ◌<◌, ◌≤◌, ◌⊎◌, inl, inr, Bool, true, false, nat_lt, refl, sym, ap, ◌∙◌, rules, arith}
use Rattle.std.specs.Prelude.{if◌then◌else◌}
use Rattle.std.specs.Int.Count.{count_leading_zeros}
use Rattle.std.proofs.Math.Nat.{pow-suc, mul-le-mul_right, div-mul-le_self, pow-le-pow_right}
use Rattle.std.proofs.lemmas.Bool.{cases_lt}
use Rattle.std.proofs.lemmas.Nat.{le-div, mul-le, leading_top, pow_pos}
use Rattle.chi_dist.specs.Exponential.{exponent, leading, square, log_digit, log_rest, log_digits, log_parts, log_below, log_of_two, log_units, most_units}

pub div_order : (k a b : ℕ) → 0 < k → a ≤ b → a / k ≤ b / k
div_order k a b some le = le-div (a / k) b k some (omega (arith, div-mul-le_self a k, le))

pub power_order : (i j : ℕ) → i ≤ j → 2 ^ i ≤ 2 ^ j
power_order i j le = pow-le-pow_right {n = 2} (omega arith) le

-- ---- digits

square_order : (y z : ℕ) → y ≤ z → square y ≤ square z
square_order y z le = div_order (2 ^ 63) (y * y) (z * z) (omega arith) (mul-le y y z z le le)

digit_most : (b : Bool) → (if b then 0 else 1) ≤ 1
digit_most true = omega arith
digit_most false = omega arith

pub log_digit_most : (y : ℕ) → log_digit y ≤ 1
log_digit_most y = digit_most (nat_lt (square y) (2 ^ 64))

one_more_below : (digit p rest : ℕ) → digit ≤ 1 → rest < p → digit * p + rest < p * 2
one_more_below digit p rest most below = omega (arith, mul-le-mul_right p most)

pub digits_below : (count y : ℕ) → log_digits count y < 2 ^ count
unfolding log_digits
digits_below zero y = omega arith
digits_below (suc count) y =
    rw (pow-suc 2 count) (one_more_below (log_digit y) (2 ^ count) (log_digits count (log_rest y)) (log_digit_most y) (digits_below count (log_rest y)))

module _ (count y z : ℕ) (le : y ≤ z) (order : (y z : ℕ) → y ≤ z → log_digits count y ≤ log_digits count z) where
  by_digits : (a b : Bool) → nat_lt (square y) (2 ^ 64) ≡ a → nat_lt (square z) (2 ^ 64) ≡ b
      → (if a then 0 else 1) * 2 ^ count + log_digits count (if a then square y else square y / 2)
      ≤ (if b then 0 else 1) * 2 ^ count + log_digits count (if b then square z else square z / 2)
  by_digits true true e f = omega (arith, order (square y) (square z) (square_order y z le))
  by_digits true false e f = omega (arith, digits_below count (square y))
  by_digits false true e f =
      let past : 2 ^ 64 ≤ square y = search (rules, e) in
      let below : square z < 2 ^ 64 = search (rules, f) in
      absurd (omega (arith, past, below, square_order y z le))
  by_digits false false e f =
      omega (arith, order (square y / 2) (square z / 2) (div_order 2 (square y) (square z) (omega arith) (square_order y z le)))

pub digits_order : (count y z : ℕ) → y ≤ z → log_digits count y ≤ log_digits count z
unfolding log_digits
digits_order zero y z le = omega arith
digits_order (suc count) y z le =
    by_digits count y z le (λ y z le. digits_order count y z le) (nat_lt (square y) (2 ^ 64)) (nat_lt (square z) (2 ^ 64)) refl refl

-- ---- the whole part

not_past : (x i j : ℕ) → i < j → x < 2 ^ suc i → 2 ^ j ≤ x → ⊥
not_past x i j less under over = omega (arith, under, over, power_order (suc i) j less)

no_less : (x i j : ℕ) → 2 ^ i ≤ x → x < 2 ^ suc j → i ≤ j
no_less x i j over under = elim (cases_lt j i) as (λ _. i ≤ j) [ inl less ↦ absurd (not_past x j i less under over) | inr more ↦ more ]

pub exponent_of : (x n : ℕ) → 0 < x → x < 2 ^ 65 → 2 ^ n ≤ x → x < 2 ^ suc n → exponent x ≡ n
exponent_of x n some below least most =
    let top = leading_top 65 x some below in
    let here : exponent x ≡ top.0 = omega (arith, top.1) in
    omega (arith, here, no_less x n top.0 least top.3, no_less x top.0 n top.2 most)

pub exponent_told : (x : ℕ) → 0 < x → x < 2 ^ 65 → (2 ^ exponent x ≤ x) × (x < 2 ^ suc (exponent x))
exponent_told x some below =
    let top = leading_top 65 x some below in
    let here : exponent x ≡ top.0 = omega (arith, top.1) in
    rw here (top.2, top.3)

-- ---- the logarithm

-- so much of a whole part is more than all digits
less_whole : (n m d e : ℕ) → n < m → d < 2 ^ 40 → n * 2 ^ 40 + d ≤ m * 2 ^ 40 + e
less_whole n m d e less few = omega arith

same_whole : (n m d e : ℕ) → n ≡ m → d ≤ e → n * 2 ^ 40 + d ≤ m * 2 ^ 40 + e
same_whole n m d e same le = omega arith

leading_order : (x z n m : ℕ) → x ≤ z → n ≡ m → x * 2 ^ 63 / 2 ^ n ≤ z * 2 ^ 63 / 2 ^ m
leading_order x z n m le same = rw same (div_order (2 ^ m) (x * 2 ^ 63) (z * 2 ^ 63) (pow_pos m) (omega arith))

pub parts_order : (x z : ℕ) → 0 < x → x ≤ z → z < 2 ^ 65 → log_parts x ≤ log_parts z
parts_order x z some le below =
    let first = exponent_told x some (omega arith) in
    let second = exponent_told z (omega arith) below in
    let whole : exponent x ≤ exponent z = no_less z (exponent x) (exponent z) (omega (arith, first.0, le)) second.1 in
    elim (cases_lt (exponent x) (exponent z)) as (λ _. log_parts x ≤ log_parts z) [
      | inl less ↦ less_whole (exponent x) (exponent z) (log_digits 40 (leading x)) (log_digits 40 (leading z)) less (digits_below 40 (leading x))
      | inr more ↦
          let same : exponent x ≡ exponent z = omega (arith, whole, more) in
          same_whole (exponent x) (exponent z) (log_digits 40 (leading x)) (log_digits 40 (leading z)) same
          (digits_order 40 (leading x) (leading z) (leading_order x z (exponent x) (exponent z) le same))
    ]

less_left : (p q : ℕ) → p ≤ q → 64 * 2 ^ 40 - q ≤ 64 * 2 ^ 40 - p
less_left p q le = omega arith

pub units_order : (word other : ℕ) → word ≤ other → other < 2 ^ 64 → log_units other ≤ log_units word
units_order word other le below =
    let order : log_parts (word + 1) ≤ log_parts (other + 1) = parts_order (word + 1) (other + 1) (omega arith) (omega arith) (omega arith) in
    let left : log_below other ≤ log_below word = less_left (log_parts (word + 1)) (log_parts (other + 1)) order in
    div_order (2 ^ 40) (log_below other * log_of_two) (log_below word * log_of_two) (omega arith) (mul-le-mul_right log_of_two left)

most_left : (p : ℕ) → (64 * 2 ^ 40 - p) * 693_147_181 / 2 ^ 40 ≤ 64 * 693_147_181
most_left p = omega arith

pub units_most : (word : ℕ) → log_units word ≤ most_units
units_most word = most_left (log_parts (word + 1))
