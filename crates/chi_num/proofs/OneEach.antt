-- Each rounding of a fraction, each product, quotient and remainder is exactly one whole number.
use Rattle.std.proofs.Common.{ℕ, zero, suc, ◌<◌, ℤ, pos, negsuc, ◌-ℤ◌, ◌*ℤ◌, neg_ℤ, ◌≢◌, refl, ap, ◌∙◌, arith}
use Rattle.std.specs.Int.{int_div_euclid}
use Rattle.chi_num.specs.Division.{IsRemainder, LiesBefore}
use Rattle.chi_num.specs.Exactly.{ExactlyOne}
use Rattle.chi_num.specs.Rounding.{IsFloor, IsCeiling, IsNearest}
use Rattle.chi_num.proofs.Unique.{IsFloor-only, IsCeiling-only, IsNearest-only}
use Rattle.chi_num.proofs.Floors.{IsFloor-euclid, IsFloor-turned, IsCeiling-from_floor, IsCeiling-turned}
use Rattle.chi_num.proofs.NearestWhole.{IsNearest-up, IsNearest-down, IsNearest-turned}
use Rattle.chi_num.proofs.Rest.{LiesBefore-rest}

-- the floor
some_floor : (n d : ℤ) → d ≢ pos 0 → (r : ℤ) × IsFloor n d r
some_floor n (pos zero) p = absurd (p refl)
some_floor n (pos (suc d)) p = (int_div_euclid n (pos (suc d)), IsFloor-euclid n (suc d) (omega arith))
some_floor n (negsuc d) p =
    (int_div_euclid (neg_ℤ n) (pos (suc d)), IsFloor-turned n (int_div_euclid (neg_ℤ n) (pos (suc d))) d (IsFloor-euclid (neg_ℤ n) (suc d) (omega arith)))

pub one_floor : (n d : ℤ) → d ≢ pos 0 → ExactlyOne (IsFloor n d)
one_floor n d p =
    let h = some_floor n d p in
    record { the_one = h.0; has = h.1; only = λ r k. IsFloor-only n d r h.0 k h.1 }

-- the ceiling
ceiling_over : (n : ℤ) (d : ℕ) → (r : ℤ) × IsCeiling n (pos (suc d)) r
ceiling_over n d =
    let h : IsFloor (neg_ℤ n) (pos (suc d)) (int_div_euclid (neg_ℤ n) (pos (suc d))) = IsFloor-euclid (neg_ℤ n) (suc d) (omega arith) in
    (neg_ℤ (int_div_euclid (neg_ℤ n) (pos (suc d))), IsCeiling-from_floor _ _ _ _ _ h refl refl)

some_ceiling : (n d : ℤ) → d ≢ pos 0 → (r : ℤ) × IsCeiling n d r
some_ceiling n (pos zero) p = absurd (p refl)
some_ceiling n (pos (suc d)) p = ceiling_over n d
some_ceiling n (negsuc d) p = let h = ceiling_over (neg_ℤ n) d in (h.0, IsCeiling-turned n h.0 d h.1)

pub one_ceiling : (n d : ℤ) → d ≢ pos 0 → ExactlyOne (IsCeiling n d)
one_ceiling n d p =
    let h = some_ceiling n d p in
    record { the_one = h.0; has = h.1; only = λ r k. IsCeiling-only n d r h.0 k h.1 }

over : (n : ℤ) (d : ℕ) → 0 < d → (r : ℤ) × IsNearest n (pos d) r
over (pos n) d p = (_, IsNearest-up n d p)
over (negsuc n) d p = (_, IsNearest-down n d p)

some_nearest : (n d : ℤ) → d ≢ pos 0 → (r : ℤ) × IsNearest n d r
some_nearest n (pos zero) p = absurd (p refl)
some_nearest n (pos (suc d)) p = over n (suc d) (omega arith)
some_nearest n (negsuc d) p = let h = over (neg_ℤ n) (suc d) (omega arith) in (h.0, IsNearest-turned n h.0 d h.1)

pub one_nearest : (n d : ℤ) → d ≢ pos 0 → ExactlyOne (IsNearest n d)
one_nearest n d p =
    let h = some_nearest n d p in
    record { the_one = h.0; has = h.1; only = λ r k. IsNearest-only n d r h.0 p k h.1 }

-- the remainder, which lies on the divisor's side of 0
pub one_remainder : (a b : ℤ) → b ≢ pos 0 → ExactlyOne (IsRemainder a b)
one_remainder a b p =
    let h = some_floor a b p in
    record {
      the_one = a -ℤ (b *ℤ h.0);
      has = record { quotient = h.0; floor = h.1; rest = refl };
      only = λ r k. k.rest ∙ ap (λ q. a -ℤ (b *ℤ q)) (IsFloor-only a b k.quotient h.0 k.floor h.1);
    }

pub remainder_side : (a b r : ℤ) → IsRemainder a b r → LiesBefore b r
remainder_side a b r h = rw h.rest (LiesBefore-rest a b h.quotient h.floor)
