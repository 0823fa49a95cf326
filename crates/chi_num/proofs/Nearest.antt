-- Rounding to the nearest whole number: there is one such number, and `nearest` is its size.
use Rattle.std.proofs.Common.{◌≡◌, ℕ, ◌+◌, ◌*◌, ◌<◌, ◌≤◌, Bool, true, false, suc, zero, ℤ, pos, negsuc, neg_ℤ, ◌-ℤ◌, ◌*ℤ◌, refl, ap, sym, arith, rules, int_lt, ⊎_elim, nat_abs}
use Rattle.std.proofs.Math.Nat.{mul-le-mul_right, le_antisymm}
use Rattle.std.proofs.lemmas.Bool.{cases_lt}
use Rattle.std.proofs.lemmas.Int.{ints}
use Rattle.chi_num.specs.Decimal.{signed}
use Rattle.chi_num.specs.Nearest.{IsNearest, nearest}

-- q is n / d, rounded, a tie up
pub record Rounds (n d q : ℕ) : Type 0 where
  pub least : 2 * (q * d) ≤ 2 * n + d
  pub most : 2 * n + d < 2 * (q * d) + 2 * d

pub nearest_rounds : (n d : ℕ) → 0 < d → Rounds n d (nearest n d)
nearest_rounds n d p = let some : 0 < 2 * d = omega arith in record { least = omega (arith, some); most = omega (arith, some) }

at_most : (n d p q : ℕ) → Rounds n d p → Rounds n d q → p ≤ q
at_most n d p q a b = ⊎_elim (λ lt. let more : suc q * d ≤ p * d = mul-le-mul_right d lt in absurd (omega (arith, more))) (λ le. le) (cases_lt q p)

pub nearest_is : (n d q : ℕ) → 0 < d → Rounds n d q → nearest n d ≡ q
nearest_is n d q p r =
    let here = nearest_rounds n d p in
    let up = at_most n d (nearest n d) q here r in
    let down = at_most n d q (nearest n d) r here in
    omega arith

farther_up : (n d q : ℕ) → 0 < d → Rounds n d q → (s : ℤ) → 2 * nat_abs ((s *ℤ pos d) -ℤ pos n) ≤ d → nat_abs s ≤ q
farther_up n d q p r (pos m) h =
    ⊎_elim
    (λ lt. let more : suc q * d ≤ m * d = mul-le-mul_right d lt in absurd (omega (arith, ints, more)))
    (λ le. le)
    (cases_lt q m)
farther_up n d q p r (negsuc m) h = absurd (let one : 1 * d ≤ suc m * d = mul-le-mul_right d (omega arith) in omega (arith, ints, one))

pub up : (n d q : ℕ) → 0 < d → Rounds n d q → IsNearest (pos n) d (pos q)
up n d q p r = record { near = omega (arith, ints); farther = farther_up n d q p r }

abs_neg : (z : ℤ) → nat_abs (neg_ℤ z) ≡ nat_abs z
abs_neg z = omega (arith, ints)

neg_apart : (n r : ℤ) (d : ℕ) → nat_abs ((neg_ℤ r *ℤ pos d) -ℤ neg_ℤ n) ≡ nat_abs ((r *ℤ pos d) -ℤ n)
neg_apart n (pos zero) d = omega (arith, ints)
neg_apart n (pos (suc m)) d = omega (arith, ints)
neg_apart n (negsuc m) d = omega (arith, ints)

neg_apart_left : (n s : ℤ) (d : ℕ) → nat_abs ((neg_ℤ s *ℤ pos d) -ℤ n) ≡ nat_abs ((s *ℤ pos d) -ℤ neg_ℤ n)
neg_apart_left n (pos zero) d = omega (arith, ints)
neg_apart_left n (pos (suc m)) d = omega (arith, ints)
neg_apart_left n (negsuc m) d = omega (arith, ints)

-- rounding goes the same way below zero
pub turned : (n r : ℤ) (d : ℕ) → IsNearest n d r → IsNearest (neg_ℤ n) d (neg_ℤ r)
turned n r d i = record {
  near = rw (neg_apart n r d) i.near;
  farther = λ s h. rw (abs_neg r) (rw (abs_neg s) at (i.farther (neg_ℤ s) (rw (neg_apart_left n s d) h)));
}

-- the number with that size and the sign of what is rounded
pub nearest_signed : (minus : Bool) (n d q : ℕ) → 0 < d → nearest n d ≡ q → IsNearest (signed minus n) d (signed minus q)
nearest_signed false n d q p e = up n d q p (rw (← e) (nearest_rounds n d p))
nearest_signed true n d q p e = turned (pos n) (pos q) d (up n d q p (rw (← e) (nearest_rounds n d p)))

-- there is one
pub some_nearest : (n : ℤ) (d : ℕ) → 0 < d → (r : ℤ) × IsNearest n d r
some_nearest (pos n) d p = (pos (nearest n d), nearest_signed false n d (nearest n d) p refl)
some_nearest (negsuc n) d p = (neg_ℤ (pos (nearest (suc n) d)), nearest_signed true (suc n) d (nearest (suc n) d) p refl)

-- a number above zero and one below can't both be near
apart : (n : ℤ) (d m k : ℕ) → 0 < d → 2 * nat_abs ((pos m *ℤ pos d) -ℤ n) ≤ d → 2 * nat_abs ((negsuc k *ℤ pos d) -ℤ n) ≤ d → m ≡ suc k → ⊥
apart n d m k p a b e = let one : 1 * d ≤ suc k * d = mul-le-mul_right d (omega arith) in omega (arith, ints, one, ap (λ x. x * d) e)

-- and no other
pub one_nearest : (n : ℤ) (d : ℕ) (r s : ℤ) → 0 < d → IsNearest n d r → IsNearest n d s → r ≡ s
one_nearest n d r s p a b = by_sign n d r s p a.near b.near (le_antisymm (b.farther r a.near) (a.farther s b.near))
  where
    by_sign : (n : ℤ) (d : ℕ) (r s : ℤ) → 0 < d → 2 * nat_abs ((r *ℤ pos d) -ℤ n) ≤ d → 2 * nat_abs ((s *ℤ pos d) -ℤ n) ≤ d → nat_abs r ≡ nat_abs s → r ≡ s
    by_sign n d (pos m) (pos k) p a b e = ap pos e
    by_sign n d (negsuc m) (negsuc k) p a b e = omega (arith, ints)
    by_sign n d (pos m) (negsuc k) p a b e = absurd (apart n d m k p a b e)
    by_sign n d (negsuc m) (pos k) p a b e = absurd (apart n d k m p b a (sym e))

-- what is rounded by its size and its sign
pub rounded_is : (units : ℤ) (d size : ℕ) → 0 < d → size ≡ nearest (nat_abs units) d → IsNearest units d (signed (int_lt units (pos 0)) size)
rounded_is (pos n) d size p e = let above : int_lt (pos n) (pos 0) ≡ false = search rules in rw above (nearest_signed false n d size p (sym e))
rounded_is (negsuc n) d size p e = nearest_signed true (suc n) d size p (sym e)

-- zero has no sign
pub rounded_to_nothing : (units : ℤ) (d size : ℕ) → 0 < d → size ≡ nearest (nat_abs units) d → size ≡ 0 → IsNearest units d (pos size)
rounded_to_nothing (pos n) d size p e none = nearest_signed false n d size p (sym e)
rounded_to_nothing (negsuc n) d size p e none =
    let zero_is : neg_ℤ (pos size) ≡ pos size = rw none refl in
    rw (← zero_is) (nearest_signed true (suc n) d size p (sym e))

pub is_minus : (minus : Bool) (size : ℕ) → 0 < size → int_lt (signed minus size) (pos 0) ≡ minus
is_minus false size some = search rules
is_minus true zero some = absurd (omega arith)
is_minus true (suc n) some = refl
