-- What is left of a number after its floor.
use Rattle.std.proofs.Common.{◌≡◌, ℕ, suc, ◌+◌, ◌^◌, ◌<◌, ◌≤◌, ℤ, pos, negsuc, ◌+ℤ◌, ◌-ℤ◌, ◌*ℤ◌, neg_ℤ, ◌≤ℤ◌, ◌<ℤ◌, ap, ◌∙◌, ◌≢◌, FitsSigned, arith}
use Rattle.std.specs.Prelude.{unsigned_abs}
use Rattle.std.specs.Int.{w64}
use Rattle.std.proofs.lemmas.Int.{ints, by_lt_z}
use Rattle.std.proofs.Math.IntN.{*ℤ_comm, +ℤ_one, suc_ℤ-*ℤ}
use Rattle.chi_num.specs.Division.{IsRemainder, LiesBefore}
use Rattle.chi_num.specs.Rounding.{IsFloor}
use Rattle.chi_num.proofs.Unique.{opposite}
use Rattle.chi_num.proofs.Floors.{IsFloor-turned_back}

-- the product of the next whole number
next_product : (q d : ℤ) → (q +ℤ pos 1) *ℤ d ≡ (q *ℤ d) +ℤ d
next_product q d = ap (λ x. x *ℤ d) (+ℤ_one q) ∙ suc_ℤ-*ℤ q d

-- the next whole number is past the fraction
past : (n q : ℤ) (d : ℕ) → IsFloor n (pos d) q → n <ℤ ((q +ℤ pos 1) *ℤ pos d)
past n q d h = by_lt_z n ((q +ℤ pos 1) *ℤ pos d) (λ p. p) (λ p. absurd (omega (arith, ints, h.greatest (q +ℤ pos 1) p)))

-- what a floor leaves, over a divisor of each sign
rest_up : (n q : ℤ) (d : ℕ) → IsFloor n (pos d) q → (pos 0 ≤ℤ (n -ℤ (pos d *ℤ q))) × ((n -ℤ (pos d *ℤ q)) <ℤ pos d)
rest_up n q d h =
    (omega (arith, ints, h.at_most, *ℤ_comm q (pos d)), omega (arith, ints, past n q d h, next_product q (pos d), *ℤ_comm q (pos d)))

rest_down : (n q : ℤ) (d : ℕ) → IsFloor n (negsuc d) q → (negsuc d <ℤ (n -ℤ (negsuc d *ℤ q))) × ((n -ℤ (negsuc d *ℤ q)) ≤ℤ pos 0)
rest_down n q d h =
    let r = rest_up (neg_ℤ n) q (suc d) (IsFloor-turned_back n q d h) in
    (omega (arith, ints, r.1, opposite d q), omega (arith, ints, r.0, opposite d q))

-- what a floor leaves lies from 0 to before the divisor
pub LiesBefore-rest : (n d q : ℤ) → IsFloor n d q → LiesBefore d (n -ℤ (d *ℤ q))
LiesBefore-rest n (pos d) q h = rest_up n q d h
LiesBefore-rest n (negsuc d) q h = rest_down n q d h

-- the rest is smaller than the divisor
rest_size : (n d q : ℤ) → d ≢ pos 0 → IsFloor n d q → unsigned_abs (n -ℤ (d *ℤ q)) < unsigned_abs d
rest_size n (pos d) q p h = let r = rest_up n q d h in omega (arith, ints, r.0, r.1)
rest_size n (negsuc d) q p h = let r = rest_down n q d h in omega (arith, ints, r.0, r.1)

-- the product of the divisor and the floor, as the code makes it, fits 128 bits
pub multiple_size : (n d q n' d' d'' q' : ℤ) → d ≢ pos 0 → IsFloor n' d' q → n' ≡ n → d' ≡ d → d'' ≡ d → q' ≡ q → unsigned_abs n ≤ 2 ^ 126 → FitsSigned w64 d → unsigned_abs (d'' *ℤ q') ≤ 2 ^ 126 + 2 ^ 64
multiple_size n d q n' d' d'' q' p h en ed ed' eq small fits =
    let k : IsFloor n d q = rw (← en, ← ed) h in
    let size : unsigned_abs d ≤ 2 ^ 64 = omega (arith, ints) in
    rw (ed', eq) (omega (arith, ints, rest_size n d q p k))

-- the number less that product is smaller than the divisor, and is the remainder
pub rest_below : (n d q n' d' m : ℤ) → d ≢ pos 0 → IsFloor n' d' q → n' ≡ n → d' ≡ d → m ≡ d *ℤ q → unsigned_abs (n -ℤ m) < unsigned_abs d
rest_below n d q n' d' m p h en ed em =
    let k : IsFloor n d q = rw (← en, ← ed) h in
    rw em (rest_size n d q p k)

pub IsRemainder-of : (n d q n' d' m r : ℤ) → IsFloor n' d' q → n' ≡ n → d' ≡ d → m ≡ d *ℤ q → r ≡ n -ℤ m → IsRemainder n d r
IsRemainder-of n d q n' d' m r h en ed em er =
    record { quotient = q; floor = rw (← en, ← ed) h; rest = er ∙ ap (λ x. n -ℤ x) em }

-- a floor of 64 bits over a billion
pub floor_bound : (n q n' d' q' : ℤ) → IsFloor n' d' q → unsigned_abs n ≤ 2 ^ 63 → n' ≡ n → d' ≡ pos 1_000_000_000 → q' ≡ q → unsigned_abs q' ≤ 2 ^ 62
floor_bound n q n' d' q' h p en ed eq =
    let k : IsFloor n (pos 1_000_000_000) q = rw (← en, ← ed) h in
    rw eq (omega (arith, ints, rest_size n (pos 1_000_000_000) q (λ e. omega (arith, ints)) k, p))

-- equal operands and results
pub IsRemainder-same : (n d r n' d' r' : ℤ) → IsRemainder n' d' r' → n' ≡ n → d' ≡ d → r ≡ r' → IsRemainder n d r
IsRemainder-same n d r n' d' r' h en ed er = rw (er, ← en, ← ed) h
