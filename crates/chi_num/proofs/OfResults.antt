-- What the functions give is what the relations say.
use Rattle.std.proofs.Common.{◌≡◌, ℕ, zero, suc, ◌+◌, ◌*◌, ◌/◌, ◌^◌, ◌<◌, ◌≤◌, Bool, true, false, ℤ, pos, negsuc, neg_ℤ, ◌-ℤ◌, ◌*ℤ◌, ◌≢◌, ◌↔◌, IsTrue, Result, Ok, Err, refl, ap, sym, ◌∙◌, arith, rules, w64, FitsSigned, int_lt}
use Rattle.std.specs.Prelude.{unsigned_abs}
use Rattle.std.proofs.lemmas.Int.{ints}
use Rattle.chi_num.specs.declared.fault.NumFault.{NumFault}
use Rattle.chi_num.specs.Decimal.{signed}
use Rattle.chi_num.specs.Division.{IsRemainder}
use Rattle.chi_num.specs.Nearest.{nearest}
use Rattle.chi_num.specs.Range.{Gives}
use Rattle.chi_num.specs.Results.{fits, fitted, is_below_zero, rounded, floor_of, ceiling_of, remainder_of}
use Rattle.chi_num.specs.Rounding.{IsFloor, IsCeiling, IsNearest}
use Rattle.chi_num.proofs.Floors.{IsFloor-euclid, IsFloor-turned, IsCeiling-from_floor, IsCeiling-turned}
use Rattle.chi_num.proofs.Nearest.{nearest_signed}
use Rattle.chi_num.proofs.NearestWhole.{IsNearest-turned}
use Rattle.chi_num.proofs.Unique.{IsFloor-only, IsNearest-only}

pub fits_told : (z : ℤ) → IsTrue (fits z) ↔ FitsSigned w64 z
fits_told (pos n) = ((λ h. search (rules, h)), (λ f. search (rules, f)))
fits_told (negsuc n) = ((λ h. search (rules, h)), (λ f. search (rules, f)))

pub floor_is : (n d : ℤ) → d ≢ pos 0 → IsFloor n d (floor_of n d)
floor_is n (pos zero) p = absurd (p refl)
floor_is n (pos (suc d)) p = IsFloor-euclid n (suc d) (omega arith)
floor_is n (negsuc d) p = IsFloor-turned n (floor_of n (negsuc d)) d (IsFloor-euclid (neg_ℤ n) (suc d) (omega arith))

ceiling_over : (n : ℤ) (d : ℕ) → IsCeiling n (pos (suc d)) (ceiling_of n (pos (suc d)))
ceiling_over n d =
    IsCeiling-from_floor n (ceiling_of n (pos (suc d))) (neg_ℤ n) (floor_of (neg_ℤ n) (pos (suc d))) (suc d) (IsFloor-euclid (neg_ℤ n) (suc d) (omega arith)) refl refl

pub ceiling_is : (n d : ℤ) → d ≢ pos 0 → IsCeiling n d (ceiling_of n d)
ceiling_is n (pos zero) p = absurd (p refl)
ceiling_is n (pos (suc d)) p = ceiling_over n d
ceiling_is n (negsuc d) p = IsCeiling-turned n (ceiling_of n (negsuc d)) d (ceiling_over (neg_ℤ n) d)

pub remainder_is : (n d : ℤ) → d ≢ pos 0 → IsRemainder n d (remainder_of n d)
remainder_is n d p = record { quotient = floor_of n d; floor = floor_is n d p; rest = refl }

-- over a divisor above zero the number has the sign
over : (n : ℤ) (d : ℕ) → 0 < d → IsNearest n (pos d) (signed (int_lt n (pos 0)) (nearest (unsigned_abs n) d))
over (pos n) d p = let above : int_lt (pos n) (pos 0) ≡ false = search rules in rw above (nearest_signed false n d (nearest n d) p refl)
over (negsuc n) d p = nearest_signed true (suc n) d (nearest (suc n) d) p refl

abs_turned : (z : ℤ) → unsigned_abs (neg_ℤ z) ≡ unsigned_abs z
abs_turned z = omega (arith, ints)

pub nearest_is_rounded : (n d : ℤ) → d ≢ pos 0 → IsNearest n d (rounded n d)
nearest_is_rounded n (pos zero) p = absurd (p refl)
nearest_is_rounded n (pos (suc d)) p = over n (suc d) (omega arith)
nearest_is_rounded n (negsuc d) p = IsNearest-turned n (rounded n (negsuc d)) d (rw abs_turned at (over (neg_ℤ n) (suc d) (omega arith)))

-- ---- what a call gives

pub given : (answer : Result ℤ NumFault) (z : ℤ) → Gives answer (λ r. r ≡ z) → answer ≡ fitted z
given (Ok r) z (f, e) = let does : fits z ≡ true = (fits_told z).1 (rw e at f) in rw (does, e) refl
given (Err fault) z (e, out) = by_fit (fits z) refl
  where
    by_fit : (b : Bool) → fits z ≡ b → Err fault ≡ fitted z
    by_fit true q = absurd (out z refl ((fits_told z).0 q))
    by_fit false q = rw (q, e) refl

one_given : (IsExact : ℤ → Type 0) (answer : Result ℤ NumFault) (z : ℤ) → IsExact z → ((r : ℤ) → IsExact r → r ≡ z) → Gives answer IsExact
    → Gives answer (λ r. r ≡ z)
one_given IsExact (Ok r) z has only (f, x) = (f, only r x)
one_given IsExact (Err fault) z has only (e, out) = (e, λ r q. out r (rw q has))

pub nearest_given : (answer : Result ℤ NumFault) (n d : ℤ) → d ≢ pos 0 → Gives answer (IsNearest n d) → answer ≡ fitted (rounded n d)
nearest_given answer n d p g =
    let is = nearest_is_rounded n d p in
    given answer (rounded n d) (one_given (IsNearest n d) answer (rounded n d) is (λ r h. IsNearest-only n d r (rounded n d) p h is) g)

pub floor_given : (answer : Result ℤ NumFault) (n d : ℤ) → d ≢ pos 0 → Gives answer (IsFloor n d) → answer ≡ fitted (floor_of n d)
floor_given answer n d p g =
    let is = floor_is n d p in
    given answer (floor_of n d) (one_given (IsFloor n d) answer (floor_of n d) is (λ r h. IsFloor-only n d r (floor_of n d) h is) g)
