-- Each rounding of a fraction gives exactly one whole number.
use Rattle.std.proofs.Common.{◌≡◌, ℕ, zero, suc, ◌*◌, ◌<◌, ◌≤◌, ℤ, pos, negsuc, ◌-ℤ◌, ◌*ℤ◌, neg_ℤ, refl, subst, ◌≢◌, Result, Ok, Err, arith}
use Rattle.std.specs.Prelude.{unsigned_abs}
use Rattle.std.proofs.lemmas.Int.{ints, unsigned_abs-mul}
use Rattle.chi_num.specs.declared.fault.NumFault.{NumFault}
use Rattle.chi_num.specs.Range.{Gives}
use Rattle.chi_num.specs.Rounding.{IsNear, IsFloor, IsCeiling, IsNearest}

-- a call that gives the one number with a property gives what has the property
Gives-only : (IsExact : ℤ → Type 0) (answer : Result ℤ NumFault) (z : ℤ) → IsExact z → ((r : ℤ) → IsExact r → r ≡ z) → Gives answer (λ r. r ≡ z) → Gives answer IsExact
Gives-only IsExact (Ok r) z has only (fits, e) = (fits, rw e has)
Gives-only IsExact (Err fault) z has only (e, out) = (e, λ r h. out r (only r h))

-- of two greatest or least, each is at most the other
pub IsFloor-only : (n d r s : ℤ) → IsFloor n d r → IsFloor n d s → r ≡ s
IsFloor-only n d r s h k = omega (arith, ints, h.greatest s k.at_most, k.greatest r h.at_most)

pub IsCeiling-only : (n d r s : ℤ) → IsCeiling n d r → IsCeiling n d s → r ≡ s
IsCeiling-only n d r s h k = omega (arith, ints, h.least s k.at_least, k.least r h.at_least)

-- not both of two opposite numbers are near
sides : (x n : ℤ) (e : ℕ) → 0 < e → e ≤ unsigned_abs x → 2 * unsigned_abs (x -ℤ n) ≤ e → 2 * unsigned_abs (neg_ℤ x -ℤ n) ≤ e → ⊥
sides x n e p q h k = omega (arith, ints)

at_least_one : (a d : ℕ) → d ≤ suc a * d
at_least_one a d = omega arith

-- a sign goes out of a product
pub opposite : (a : ℕ) (d : ℤ) → negsuc a *ℤ d ≡ neg_ℤ (pos (suc a) *ℤ d)
opposite a (pos d) = refl
opposite a (negsuc d) = omega (arith, ints)

nonzero : (d : ℤ) → d ≢ pos 0 → 0 < unsigned_abs d
nonzero (pos zero) p = absurd (p refl)
nonzero (pos (suc d)) p = omega arith
nonzero (negsuc d) p = omega arith

apart : (n d : ℤ) (a : ℕ) → d ≢ pos 0 → IsNear n d (pos (suc a)) → IsNear n d (negsuc a) → ⊥
apart n d a p h k =
    let x = pos (suc a) *ℤ d in
    let size : unsigned_abs d ≤ unsigned_abs x = omega (arith, unsigned_abs-mul (pos (suc a)) d, at_least_one a (unsigned_abs d)) in
    sides x n (unsigned_abs d) (nonzero d p) size h (subst (λ (y : ℤ). 2 * unsigned_abs (y -ℤ n) ≤ unsigned_abs d) (opposite a d) k)

-- of two nearest whole numbers of different signs neither is the farther from zero
cross : (n d : ℤ) (a b : ℕ) → d ≢ pos 0 → IsNearest n d (pos a) → IsNearest n d (negsuc b) → ⊥
cross n d a b p h k =
    let e : a ≡ suc b = omega (arith, h.farther (negsuc b) k.near, k.farther (pos a) h.near) in
    apart n d b p (subst (λ (j : ℕ). IsNear n d (pos j)) e h.near) k.near

-- two nearest whole numbers have one size, and so one sign
pub IsNearest-only : (n d r s : ℤ) → d ≢ pos 0 → IsNearest n d r → IsNearest n d s → r ≡ s
IsNearest-only n d (pos a) (pos b) p h k = omega (arith, ints, h.farther (pos b) k.near, k.farther (pos a) h.near)
IsNearest-only n d (negsuc a) (negsuc b) p h k = omega (arith, ints, h.farther (negsuc b) k.near, k.farther (negsuc a) h.near)
IsNearest-only n d (pos a) (negsuc b) p h k = absurd (cross n d a b p h k)
IsNearest-only n d (negsuc a) (pos b) p h k = absurd (cross n d b a p k h)

-- a call that gives the nearest whole number of operands that equal n and d
pub Gives-nearest : (n d n' d' z z' : ℤ) (answer : Result ℤ NumFault) → d ≢ pos 0 → IsNearest n' d' z → Gives answer (λ r. r ≡ z') → n' ≡ n → d' ≡ d → z' ≡ z → Gives answer (IsNearest n d)
Gives-nearest n d n' d' z z' answer p h g en ed ez =
    let has : IsNearest n d z = rw (← en, ← ed) h in
    Gives-only (IsNearest n d) answer z has (λ r k. IsNearest-only n d r z p k has) (rw (← ez) g)
