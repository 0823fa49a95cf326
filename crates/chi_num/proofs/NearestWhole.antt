-- What makes a whole number the nearest to a fraction.
use Rattle.std.proofs.Common.{◌≡◌, ℕ, zero, suc, ◌+◌, ◌*◌, ◌/◌, ◌<◌, ◌≤◌, ℤ, pos, negsuc, ◌-ℤ◌, ◌*ℤ◌, neg_ℤ, ◌≤ℤ◌, ◌<ℤ◌, ◌≢◌, ◌↔◌, arith}
use Rattle.std.specs.Prelude.{unsigned_abs}
use Rattle.std.proofs.lemmas.Int.{ints, unsigned_abs-mul}
use Rattle.std.proofs.Math.IntN.{*ℤ-negsuc}
use Rattle.std.proofs.Math.Nat.{le-div_iff_mul-le, mul-div-le, lt-mul-div-succ}
use Rattle.chi_num.specs.Rounding.{IsNear, IsNearest}

-- the size of the whole number that is nearest to m / e
abbrev pub nearest_size : ℕ → ℕ → ℕ
nearest_size m e = (m + e / 2) / e

-- its product with e is within e / 2 of m
size_above : (m e : ℕ) → 0 < e → 2 * (nearest_size m e * e) ≤ 2 * m + e
size_above m e p = omega (arith, mul-div-le (m + e / 2) e)

size_below : (m e : ℕ) → 0 < e → 2 * m ≤ 2 * (nearest_size m e * e) + e
size_below m e p = omega (arith, lt-mul-div-succ (m + e / 2) p)

-- each size whose product with e is within e / 2 of m is at most that
size_most : (m e j : ℕ) → 0 < e → 2 * (j * e) ≤ 2 * m + e → j ≤ nearest_size m e
size_most m e j p h = (le-div_iff_mul-le {x = j} {y = m + e / 2} p).1 (omega (arith, h))

-- a number that is near has a product of about the size of n
no_farther : (x n : ℤ) → unsigned_abs x ≤ unsigned_abs n + unsigned_abs (x -ℤ n)
no_farther x n = omega (arith, ints)

near_size : (n d s : ℤ) → IsNear n d s → 2 * (unsigned_abs s * unsigned_abs d) ≤ 2 * unsigned_abs n + unsigned_abs d
near_size n d s h = omega (arith, h, unsigned_abs-mul s d, no_farther (s *ℤ d) n)

-- over a positive divisor, a number of each sign
pub IsNearest-up : (n d : ℕ) → 0 < d → IsNearest (pos n) (pos d) (pos (nearest_size n d))
IsNearest-up n d p =
    record {
      near = omega (arith, ints, size_above n d p, size_below n d p);
      farther = λ s h. size_most n d (unsigned_abs s) p (near_size (pos n) (pos d) s h);
    }

down_near : (k d n : ℕ) → 2 * (k * d) ≤ 2 * suc n + d → 2 * suc n ≤ 2 * (k * d) + d → IsNear (negsuc n) (pos d) (neg_ℤ (pos k))
down_near zero d n p q = omega (arith, ints, p, q)
down_near (suc k) d n p q = omega (arith, ints, p, q)

neg_size : (k : ℕ) → unsigned_abs (neg_ℤ (pos k)) ≡ k
neg_size k = omega (arith, ints)

pub IsNearest-down : (n d : ℕ) → 0 < d → IsNearest (negsuc n) (pos d) (neg_ℤ (pos (nearest_size (suc n) d)))
IsNearest-down n d p =
    record {
      near = down_near (nearest_size (suc n) d) d n (size_above (suc n) d p) (size_below (suc n) d p);
      farther = λ s h. omega (arith, neg_size (nearest_size (suc n) d), size_most (suc n) d (unsigned_abs s) p (near_size (negsuc n) (pos d) s h));
    }

-- the same, of a result that has that size and the sign of n
pub IsNearest-over_size : (n r size : ℤ) (d m : ℕ) → 0 < d → size ≡ pos (nearest_size m d) → m ≡ unsigned_abs n → (pos 0 ≤ℤ n → r ≡ size) → (n <ℤ pos 0 → r ≡ neg_ℤ size) → IsNearest n (pos d) r
IsNearest-over_size (pos n) r size d m p e q up down = rw (up (omega (arith, ints)), e, q) (IsNearest-up n d p)
IsNearest-over_size (negsuc n) r size d m p e q up down = rw (down (omega (arith, ints)), e, q) (IsNearest-down n d p)

-- ---- both signs changed

-- over a negative divisor the nearest is that of the fraction with both signs changed
near_turned : (n s : ℤ) (d : ℕ) → IsNear (neg_ℤ n) (pos (suc d)) s ↔ IsNear n (negsuc d) s
near_turned n s d = (λ h. omega (arith, ints, h, *ℤ-negsuc s d), λ h. omega (arith, ints, h, *ℤ-negsuc s d))

pub IsNearest-turned : (n r : ℤ) (d : ℕ) → IsNearest (neg_ℤ n) (pos (suc d)) r → IsNearest n (negsuc d) r
IsNearest-turned n r d h =
    record { near = (near_turned n r d).0 h.near; farther = λ s q. h.farther s ((near_turned n s d).1 q) }

-- the nearest over the size m of the divisor, of the number with its sign or the other
pub IsNearest-of_size : (n d r n' r' : ℤ) (m : ℕ) → d ≢ pos 0 → m ≡ unsigned_abs d → (pos 0 ≤ℤ d → n' ≡ n) → (d <ℤ pos 0 → n' ≡ neg_ℤ n) → r' ≡ r → IsNearest n' (pos m) r' → IsNearest n d r
IsNearest-of_size n (pos d) r n' r' m p q up down e h = rw (← e, ← up (omega (arith, ints)), ← q) h
IsNearest-of_size n (negsuc d) r n' r' m p q up down e h = rw (← e) (IsNearest-turned n r' d (rw (← down (omega (arith, ints)), ← q) h))

-- equal operands and results
pub IsNearest-same : (n d r n' d' r' : ℤ) → IsNearest n' d' r' → n' ≡ n → d' ≡ d → r ≡ r' → IsNearest n d r
IsNearest-same n d r n' d' r' h en ed er = rw (er, ← en, ← ed) h
