-- Logarithms as they are computed: where the first digit of a number stands, and one binary digit more.
use Rattle.std.proofs.Common.{◌≡◌, ℕ, suc, ◌+◌, ◌-◌, ◌*◌, ◌/◌, ◌%◌, ◌^◌, ◌<◌, ◌≤◌, ℤ, pos, ◌≤ℤ◌, ◌<ℤ◌, refl, sym, ap, ◌∙◌, arith}
use Rattle.std.specs.Prelude.{unsigned_abs}
use Rattle.std.specs.Int.Count.{count_leading_zeros}
use Rattle.std.proofs.Math.Nat.{pow-suc, mod-eq_of_lt, mul_assoc}
use Rattle.std.proofs.lemmas.Int.{ints}
use Rattle.std.proofs.lemmas.Nat.{leading_top, pow-add, shl-shr, shl_below, mul-lt, mul-le, div_below}
use Rattle.chi_dist.specs.Exponential.{exponent, leading, square, log_digit, log_rest, log_digits, log_parts, log_below, log_units, most_units, most_mean}
use Rattle.chi_dist.proofs.Logarithm.{exponent_of, log_digit_most, power_order}

pub square_most : (y : ℕ) → y < 2 ^ 64 → y * y / 2 ^ 63 < 2 ^ 65
square_most y below =
    let most : y * y < 2 ^ 64 * 2 ^ 64 = mul-lt y y (2 ^ 64) (2 ^ 64) below below in
    div_below (y * y) (2 ^ 63) (2 ^ 65) (omega arith) (omega (arith, most))

-- ---- the first digit of a number of 64 digits

module _ (x : ℕ) (some : 0 < x) (below : x < 2 ^ 64) where
  pub zeros_few : count_leading_zeros 64 x < 64
  zeros_few = let top = leading_top 64 x some below in omega (arith, top.1)

  pub exponent_is : exponent x ≡ 63 - count_leading_zeros 64 x
  exponent_is =
      let top = leading_top 64 x some below in
      let here : top.0 ≡ 63 - count_leading_zeros 64 x = omega (arith, top.1) in
      exponent_of x top.0 some (omega (arith, below)) top.2 top.3 ∙ here

  shifted_at : (zeros j : ℕ) → zeros + suc j ≡ 64 → exponent x ≡ j → x < 2 ^ suc j → leading x ≡ x * 2 ^ zeros % 2 ^ 64
  shifted_at zeros j all here most =
      let places : zeros + j ≡ 63 = omega (arith, all) in
      let power : 2 ^ 63 ≡ 2 ^ zeros * 2 ^ j = ap (λ n. 2 ^ n) (sym places) ∙ pow-add 2 zeros j in
      let whole : x * 2 ^ 63 ≡ x * 2 ^ zeros * 2 ^ j = ap (λ n. x * n) power ∙ sym (mul_assoc x (2 ^ zeros) (2 ^ j)) in
      let shifted : x * 2 ^ 63 / 2 ^ j ≡ x * 2 ^ zeros = ap (λ n. n / 2 ^ j) whole ∙ shl-shr (x * 2 ^ zeros) j in
      let width : suc j + zeros ≡ 64 = omega (arith, all) in
      let fits : x * 2 ^ zeros < 2 ^ 64 = rw width at (shl_below x (suc j) zeros most) in
      ap (λ n. x * 2 ^ 63 / 2 ^ n) here ∙ shifted ∙ sym (mod-eq_of_lt fits)

  pub leading_is : leading x ≡ x * 2 ^ count_leading_zeros 64 x % 2 ^ 64
  leading_is =
      let top = leading_top 64 x some below in
      shifted_at (count_leading_zeros 64 x) top.0 top.1 (exponent_of x top.0 some (omega (arith, below)) top.2 top.3) top.3

-- the logarithm of a number of 64 digits, as it is put together
pub parts_are : (x zeros shifted digits : ℕ) → 0 < x → x < 2 ^ 64 → zeros ≡ count_leading_zeros 64 x → shifted ≡ x * 2 ^ count_leading_zeros 64 x % 2 ^ 64
    → digits ≡ log_digits 40 shifted → (63 - zeros) * 2 ^ 40 + digits ≡ log_parts x
parts_are x zeros shifted digits some below z s d =
    let whole : exponent x ≡ 63 - zeros = exponent_is x some below ∙ ap (λ n. 63 - n) (sym z) in
    let same : leading x ≡ shifted = leading_is x some below ∙ sym s in
    ap (λ n. (63 - zeros) * 2 ^ 40 + n) (d ∙ ap (λ y. log_digits 40 y) (sym same)) ∙ ap (λ n. n * 2 ^ 40 + log_digits 40 (leading x)) (sym whole)

-- the last draw, whose successor has 65 digits, and whose logarithm is all of 64
last_draw : log_below (2 ^ 64 - 1) ≡ 0
unfolding log_digits count_leading_zeros
last_draw = refl

pub last_below : (word : ℕ) → word < 2 ^ 64 → (word + 1 < 2 ^ 64 → ⊥) → log_below word ≡ 0
last_below word below past =
    let last : word ≡ 2 ^ 64 - 1 = omega (arith, below, past) in
    ap (λ w. log_below w) last ∙ last_draw

-- ---- one digit more

spread : (a b p x : ℕ) → a * (p * 2) + (b * p + x) ≡ (2 * a + b) * p + x
spread a b p x = omega arith

pub digit_more : (whole digits i rest digit left : ℕ) → i < 40 → digit ≡ log_digit rest → left ≡ log_rest rest
    → whole ≡ digits * 2 ^ (40 - i) + log_digits (40 - i) rest
    → whole ≡ (2 * digits + digit) * 2 ^ (40 - (i + 1)) + log_digits (40 - (i + 1)) left
unfolding log_digits
digit_more whole digits i rest digit left below d r e =
    let k = 40 - (i + 1) in
    let next : 40 - i ≡ suc k = omega (arith, below) in
    let now : whole ≡ digits * 2 ^ suc k + log_digits (suc k) rest = e ∙ ap (λ n. digits * 2 ^ n + log_digits n rest) next in
    let power : digits * 2 ^ suc k ≡ digits * (2 ^ k * 2) = ap (λ n. digits * n) (pow-suc 2 k) in
    rw (d, r) (now ∙ ap (λ n. n + (log_digit rest * 2 ^ k + log_digits k (log_rest rest))) power ∙ spread digits (log_digit rest) (2 ^ k) (log_digits k (log_rest rest)))

pub digits_more : (digits i digit rest : ℕ) → digit ≡ log_digit rest → digits < 2 ^ i → 2 * digits + digit < 2 ^ (i + 1)
digits_more digits i digit rest d few =
    let next : i + 1 ≡ suc i = omega arith in
    let most : digit ≤ 1 = rw d (log_digit_most rest) in
    rw next (omega (arith, pow-suc 2 i, few, most))

pub digits_few : (digits i : ℕ) → i < 40 → digits < 2 ^ i → digits < 2 ^ 40
digits_few digits i below few =
    let power : 2 ^ i ≤ 2 ^ 40 = power_order i 40 (omega (arith, below)) in
    omega (arith, few, power)

last_digits : (whole digits rest : ℕ) → whole ≡ digits * 2 ^ (40 - 40) + log_digits (40 - 40) rest → digits ≡ whole
unfolding log_digits
last_digits whole digits rest e = omega (arith, e)

pub digits_last : (whole digits i rest : ℕ) → i ≡ 40 → whole ≡ digits * 2 ^ (40 - i) + log_digits (40 - i) rest → digits ≡ whole
digits_last whole digits i rest end e = last_digits whole digits rest (e ∙ ap (λ n. digits * 2 ^ (40 - n) + log_digits (40 - n) rest) end)

-- ---- the product fits

pub scaled_most : (mean factor : ℕ) → mean ≤ 100_000_000_000_000_000 → factor ≤ most_units → mean * factor ≤ 100_000_000_000_000_000 * most_units
scaled_most mean factor few most = mul-le mean factor 100_000_000_000_000_000 most_units few most
