-- What makes a whole number the floor of a fraction, or its ceiling.
use Rattle.std.proofs.Common.{◌≡◌, ℕ, zero, suc, ◌*◌, ◌/◌, ◌<◌, ◌≤◌, ℤ, pos, negsuc, ◌*ℤ◌, neg_ℤ, ◌≤ℤ◌, ◌<ℤ◌, ◌≢◌, ◌↔◌, arith}
use Rattle.std.specs.Prelude.{unsigned_abs}
use Rattle.std.specs.Int.{int_div_euclid}
use Rattle.std.proofs.lemmas.Int.{ints}
use Rattle.std.proofs.Math.IntN.{*ℤ-negsuc}
use Rattle.std.proofs.Math.Nat.{le-div_iff_mul-le, mul-div-le, lt-mul-div-succ, div-lt_iff_lt-mul}
use Rattle.chi_num.specs.Rounding.{IsAtMost, IsAtLeast, IsFloor, IsCeiling}

-- what whole numbers lie on each side of n / d
quotient_most : (n d j : ℕ) → 0 < d → j * d ≤ n → j ≤ n / d
quotient_most n d j p h = (le-div_iff_mul-le {x = j} {y = n} p).1 h

quotient_least : (n d j : ℕ) → 0 < d → suc n ≤ suc j * d → n / d ≤ j
quotient_least n d j p h = let q : n / d < suc j = (div-lt_iff_lt-mul {x = n} {y = suc j} p).1 (omega (arith, h)) in omega arith

-- no whole number between the floor and the fraction
up_greatest : (n d : ℕ) → 0 < d → (s : ℤ) → (s *ℤ pos d) ≤ℤ pos n → s ≤ℤ pos (n / d)
up_greatest n d p (pos j) h = let q : j ≤ n / d = quotient_most n d j p (omega (arith, ints, h)) in omega (arith, ints)
up_greatest n d p (negsuc j) h = omega (arith, ints)

down_greatest : (n d : ℕ) → 0 < d → (s : ℤ) → (s *ℤ pos d) ≤ℤ negsuc n → s ≤ℤ negsuc (n / d)
down_greatest n d p (pos j) h = absurd (omega (arith, ints, h))
down_greatest n d p (negsuc j) h = let q : n / d ≤ j = quotient_least n d j p (omega (arith, ints, h)) in omega (arith, ints)

-- the quotient that leaves a remainder of 0 or more is the floor, over a positive divisor
pub IsFloor-euclid : (n : ℤ) (d : ℕ) → 0 < d → IsFloor n (pos d) (int_div_euclid n (pos d))
IsFloor-euclid (pos n) d p = record { at_most = omega (arith, ints, mul-div-le n d); greatest = up_greatest n d p }
IsFloor-euclid (negsuc n) d p = record { at_most = omega (arith, ints, lt-mul-div-succ n p); greatest = down_greatest n d p }

-- the same, of operands that equal n and d
pub IsFloor-over_size : (n r n' d' q : ℤ) (d : ℕ) → 0 < d → q ≡ int_div_euclid n' d' → n' ≡ n → d' ≡ pos d → r ≡ q → IsFloor n (pos d) r
IsFloor-over_size n r n' d' q d p eq en ed er = rw (er, eq, en, ed) (IsFloor-euclid n d p)

-- ---- both signs changed

-- over a negative divisor the floor is that of the fraction with both signs changed
at_most_turned : (n s : ℤ) (d : ℕ) → IsAtMost (neg_ℤ n) (pos (suc d)) s ↔ IsAtMost n (negsuc d) s
at_most_turned n s d = (λ h. omega (arith, ints, h, *ℤ-negsuc s d), λ h. omega (arith, ints, h, *ℤ-negsuc s d))

pub IsFloor-turned : (n r : ℤ) (d : ℕ) → IsFloor (neg_ℤ n) (pos (suc d)) r → IsFloor n (negsuc d) r
IsFloor-turned n r d h =
    record { at_most = (at_most_turned n r d).0 h.at_most; greatest = λ s q. h.greatest s ((at_most_turned n s d).1 q) }

pub IsFloor-turned_back : (n r : ℤ) (d : ℕ) → IsFloor n (negsuc d) r → IsFloor (neg_ℤ n) (pos (suc d)) r
IsFloor-turned_back n r d h =
    record { at_most = (at_most_turned n r d).1 h.at_most; greatest = λ s q. h.greatest s ((at_most_turned n s d).0 q) }

-- the floor over the size m of the divisor, of the number with its sign or the other
pub IsFloor-of_size : (n d r n' r' : ℤ) (m : ℕ) → d ≢ pos 0 → m ≡ unsigned_abs d → (pos 0 ≤ℤ d → n' ≡ n) → (d <ℤ pos 0 → n' ≡ neg_ℤ n) → r' ≡ r → IsFloor n' (pos m) r' → IsFloor n d r
IsFloor-of_size n (pos d) r n' r' m p q up down e h = rw (← e, ← up (omega (arith, ints)), ← q) h
IsFloor-of_size n (negsuc d) r n' r' m p q up down e h = rw (← e) (IsFloor-turned n r' d (rw (← down (omega (arith, ints)), ← q) h))

-- ---- the ceiling

-- a sign goes out of a product
neg-product : (s : ℤ) (d : ℕ) → neg_ℤ s *ℤ pos d ≡ neg_ℤ (s *ℤ pos d)
neg-product (pos zero) d = omega (arith, ints)
neg-product (pos (suc s)) d = omega (arith, ints)
neg-product (negsuc s) d = omega (arith, ints)

-- the ceiling is the negation of the floor of the negated number
pub IsCeiling-from_floor : (n r n' r' : ℤ) (d : ℕ) → IsFloor n' (pos d) r' → n' ≡ neg_ℤ n → r ≡ neg_ℤ r' → IsCeiling n (pos d) r
IsCeiling-from_floor n r n' r' d h en er =
    let k : IsFloor (neg_ℤ n) (pos d) r' = rw (← en) h in
    rw er (record {
      at_least = omega (arith, ints, k.at_most, neg-product r' d);
      least = λ s q. omega (arith, ints, k.greatest (neg_ℤ s) (omega (arith, ints, q, neg-product s d)));
    })

-- over a negative divisor the ceiling is that of the fraction with both signs changed
at_least_turned : (n s : ℤ) (d : ℕ) → IsAtLeast (neg_ℤ n) (pos (suc d)) s ↔ IsAtLeast n (negsuc d) s
at_least_turned n s d = (λ h. omega (arith, ints, h, *ℤ-negsuc s d), λ h. omega (arith, ints, h, *ℤ-negsuc s d))

pub IsCeiling-turned : (n r : ℤ) (d : ℕ) → IsCeiling (neg_ℤ n) (pos (suc d)) r → IsCeiling n (negsuc d) r
IsCeiling-turned n r d h =
    record { at_least = (at_least_turned n r d).0 h.at_least; least = λ s q. h.least s ((at_least_turned n s d).1 q) }
