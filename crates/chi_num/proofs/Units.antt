-- The units that whole and fraction digits mean: nine decimals, and one more where the rest is a half.
use Rattle.std.proofs.Common.{◌≡◌, ℕ, ◌+◌, ◌-◌, ◌*◌, ◌^◌, ◌<◌, ◌≤◌, ◌⊎◌, IsTrue, Bool, true, false, cond, leb, List, [], ◌∷◌, ◌++◌, length, refl, ap, sym, ◌∙◌, arith, ⊎_elim, inl, inr, min, ◌↔◌, length-append, append_assoc, append-nil}
use Rattle.std.proofs.Math.Nat.{pow-suc, mul-one, le-mul_of_pos_right, mul-le-mul_left, mul-le-mul_right, mul-lt-mul_of_pos_left}
use Rattle.std.proofs.lemmas.Bool.{cases_lt, false≢true, leb-true, le-leb}
use Rattle.std.proofs.lemmas.List.Folds.{list_all-append}
use Rattle.std.proofs.lemmas.Nat.{pow-add}
use Rattle.std.proofs.lemmas.Str.Parse.{digits_value_short}
use Rattle.std.specs.Char.{is_ascii_digit}
use Rattle.std.specs.List.{list_all}
use Rattle.chi_num.specs.Decimal.{AreDigits, number_of, followed_by}
use Rattle.chi_num.specs.Nearest.{nearest}
use Rattle.chi_num.proofs.Decimal.{power_pos, numerals, number_of-append, followed_by-zero, followed_by-append, followed_by_least}
use Rattle.chi_num.proofs.Nearest.{Rounds, nearest_is}
use Rattle.chi_num.proofs.Spelling.{and_both}

pub number_below : (ds : List ℕ) → AreDigits ds → number_of ds < 10 ^ length ds
number_below ds are = digits_value_short numerals ds (length ds) are (omega arith)

-- no digits are less than a half
pub no_half : (ds : List ℕ) → length ds ≡ 0 → 2 * number_of ds < 10 ^ length ds
unfolding number_of
no_half [] e = omega arith
no_half (c ∷ cs) e = absurd (omega arith)

-- a half or more begins with 5 or more
half_from_five : (ds : List ℕ) (c : ℕ) (cs : List ℕ) → ds ≡ c ∷ cs → 53 ≤ c → 10 ^ length ds ≤ 2 * number_of ds
unfolding number_of
half_from_five ds c cs e five =
    let p = mul-le-mul_right {m = 5} {n = c - 48} (10 ^ length cs) (omega arith) in
    rw (e, pow-suc 10 (length cs)) (omega (arith, p))

less_from_four : (ds : List ℕ) (c : ℕ) (cs : List ℕ) → AreDigits ds → ds ≡ c ∷ cs → c < 53 → 2 * number_of ds < 10 ^ length ds
unfolding number_of
less_from_four ds c cs are e four =
    let are' : AreDigits (c ∷ cs) = rw e at are in
    let p = mul-le-mul_right {m = c - 48} {n = 4} (10 ^ length cs) (omega arith) in
    let low = number_below cs (and_both (is_ascii_digit c) (list_all is_ascii_digit cs) are').1 in
    rw (e, pow-suc 10 (length cs)) (omega (arith, p, low))

pub half_tells : (ds : List ℕ) (c : ℕ) (cs : List ℕ) → AreDigits ds → ds ≡ c ∷ cs → IsTrue (leb 53 c) ↔ (10 ^ length ds ≤ 2 * number_of ds)
half_tells ds c cs are e = (
  (λ t. half_from_five ds c cs e (leb-true 53 c t)),
  (λ h. ⊎_elim (λ lt. let less = less_from_four ds c cs are e lt in absurd (omega (arith, less))) (λ le. le-leb 53 c le) (cases_lt c 53)),
)

-- the end of digits is digits
digits_after : (fraction kept rest : List ℕ) → AreDigits fraction → fraction ≡ kept ++ rest → AreDigits rest
digits_after fraction kept rest are e =
    let both : list_all is_ascii_digit (kept ++ rest) ≡ true = rw e at are in
    (and_both (list_all is_ascii_digit kept) (list_all is_ascii_digit rest) (sym (list_all-append is_ascii_digit kept rest) ∙ both)).1

-- rounding is the same in smaller parts
scaled : (n d q s : ℕ) → 0 < s → Rounds n d q → Rounds (n * s) (s * d) q
scaled n d q s p r =
    let low = mul-le-mul_left s r.least in
    let high = mul-lt-mul_of_pos_left r.most p in
    record { least = omega (arith, low); most = omega (arith, high) }

rounded_up : (k p l : ℕ) → l < p → p ≤ 2 * l → Rounds (k * p + l) p (k + 1)
rounded_up k p l low half = record { least = omega arith; most = omega arith }

rounded_down : (k p l : ℕ) → 2 * l < p → Rounds (k * p + l) p k
rounded_down k p l low = record { least = omega arith; most = omega arith }

exact : (k p s : ℕ) → 0 < p → Rounds (k * (s * p)) p (k * s)
exact k p s some = record { least = omega arith; most = omega arith }

-- the decimals that units have room for, and those past them
pub record IsCut (fraction kept rest : List ℕ) : Type 0 where
  pub whole : fraction ≡ kept ++ rest
  pub size : (length kept ≡ 9) ⊎ ((rest ≡ []) × (length kept ≤ 9))

-- what the units are rounded from
sizes : (whole fraction kept rest : List ℕ) → fraction ≡ kept ++ rest → (number_of (whole ++ fraction) ≡ number_of (whole ++ kept) * 10 ^ length rest + number_of rest) × (10 ^ length fraction ≡ 10 ^ length kept * 10 ^ length rest)
sizes whole fraction kept rest e =
    let joined : whole ++ fraction ≡ (whole ++ kept) ++ rest = rw (e, append_assoc) refl in (
      ap number_of joined ∙ number_of-append (whole ++ kept) rest,
      rw (e, length-append, pow-add) refl,
    )

pub short : (k l : ℕ) → l ≤ 9 → 0 < 10 ^ l → nearest (k * 1_000_000_000) (10 ^ l) ≡ k * 10 ^ (9 - l)
short k l low some =
    let all : 9 - l + l ≡ 9 = omega arith in
    let parts : 10 ^ (9 - l) * 10 ^ l ≡ 1_000_000_000 = sym (pow-add 10 (9 - l) l) ∙ ap (λ n. 10 ^ n) all in
    nearest_is (k * 1_000_000_000) (10 ^ l) (k * 10 ^ (9 - l)) some (rw parts at (exact k (10 ^ l) (10 ^ (9 - l)) some))

long : (k p l : ℕ) → 0 < p → l < p → (half : Bool) → (half ≡ true → p ≤ 2 * l) → (half ≡ false → 2 * l < p) → nearest ((k * p + l) * 1_000_000_000) (1_000_000_000 * p) ≡ k + cond half 1 0
long k p l some low true up down = nearest_is _ _ (k + 1) (omega arith) (scaled (k * p + l) p (k + 1) 1_000_000_000 (omega arith) (rounded_up k p l low (up refl)))
long k p l some low false up down =
    let same : k + 0 ≡ k = omega arith in
    rw same (nearest_is _ _ k (omega arith) (scaled (k * p + l) p k 1_000_000_000 (omega arith) (rounded_down k p l (down refl))))

abbrev units : List ℕ → List ℕ → ℕ
units whole fraction = nearest (number_of (whole ++ fraction) * 1_000_000_000) (10 ^ length fraction)

-- where a front of at most nine digits is kept
cut_at : (fraction kept rest : List ℕ) (n : ℕ) → fraction ≡ kept ++ rest → length kept ≡ n → n ≡ min (length fraction) 9 → IsCut fraction kept rest
cut_at fraction kept rest n e l m =
    let sum : length fraction ≡ length kept + length rest = ap length e ∙ length-append kept rest in
    record {
      whole = e;
      size = ⊎_elim
          (λ long. inl (omega arith))
          (λ short. inr (nothing rest (omega arith), omega arith))
          (cases_lt 9 (length fraction));
    }
  where
    nothing : (rest : List ℕ) → length rest ≡ 0 → rest ≡ []
    nothing [] z = refl
    nothing (c ∷ cs) z = absurd (omega arith)

-- the digits that are kept, as units
with_zeros : List ℕ → List ℕ → ℕ
with_zeros whole kept = number_of (whole ++ kept) * 10 ^ (9 - length kept)

units_long : (whole fraction kept rest : List ℕ) (half : Bool) → fraction ≡ kept ++ rest → length kept ≡ 9 → AreDigits rest → (half ≡ true → 10 ^ length rest ≤ 2 * number_of rest) → (half ≡ false → 2 * number_of rest < 10 ^ length rest) → units whole fraction ≡ with_zeros whole kept + cond half 1 0
unfolding with_zeros
units_long whole fraction kept rest half cut nine are up down =
    let s = sizes whole fraction kept rest cut in
    let power : 10 ^ length fraction ≡ 1_000_000_000 * 10 ^ length rest = s.1 ∙ ap (λ n. 10 ^ n * 10 ^ length rest) nine in
    let none : number_of (whole ++ kept) * 10 ^ (9 - length kept) ≡ number_of (whole ++ kept) =
    ap (λ n. number_of (whole ++ kept) * 10 ^ (9 - n)) nine ∙ mul-one (number_of (whole ++ kept))
    in
    rw (none, s.0, power)
    (long (number_of (whole ++ kept)) (10 ^ length rest) (number_of rest) (power_pos (length rest)) (number_below rest are) half up down)

units_short : (whole fraction kept rest : List ℕ) (half : Bool) → fraction ≡ kept ++ rest → rest ≡ [] → length kept ≤ 9 → (half ≡ true → 10 ^ length rest ≤ 2 * number_of rest) → units whole fraction ≡ with_zeros whole kept + cond half 1 0
unfolding with_zeros number_of
units_short whole fraction kept rest true cut ends nine up = absurd (let h : 10 ^ length rest ≤ 2 * number_of rest = up refl in let h' = rw ends at h in omega (arith, h'))
units_short whole fraction kept rest false cut ends nine up =
    let same : fraction ≡ kept = cut ∙ rw ends (append-nil kept) in
    let none : with_zeros whole kept + 0 ≡ with_zeros whole kept = omega arith in
    rw (same, none) (short (number_of (whole ++ kept)) (length kept) nine (power_pos (length kept)))

below_half : (l p : ℕ) (half : Bool) → (IsTrue half ↔ (p ≤ 2 * l)) → half ≡ false → 2 * l < p
below_half l p true t e = absurd (cc)
below_half l p false t e = ⊎_elim (λ lt. lt) (λ le. absurd (false≢true (t.1 le))) (cases_lt (2 * l) p)

-- nine decimals, and one unit more where the others are a half
units_are : (whole fraction kept rest : List ℕ) (half : Bool) → IsCut fraction kept rest → AreDigits rest → (IsTrue half ↔ (10 ^ length rest ≤ 2 * number_of rest)) → units whole fraction ≡ followed_by (followed_by 0 whole) kept * 10 ^ (9 - length kept) + cond half 1 0
unfolding with_zeros
units_are whole fraction kept rest half cut are tells =
    let number : followed_by (followed_by 0 whole) kept ≡ number_of (whole ++ kept) = followed_by-append 0 whole kept ∙ followed_by-zero (whole ++ kept) in
    rw number
    (⊎_elim
    (λ nine. units_long whole fraction kept rest half cut.whole nine are tells.0 (below_half (number_of rest) (10 ^ length rest) half tells))
    (λ ends. units_short whole fraction kept rest half cut.whole ends.0 ends.1 tells.0)
    cut.size)

-- the units of the kept digits are no more
units_least : (whole fraction kept rest : List ℕ) → IsCut fraction kept rest → AreDigits rest → followed_by (followed_by 0 whole) kept * 10 ^ (9 - length kept) ≤ units whole fraction
units_least whole fraction kept rest cut are =
    ⊎_elim
    (λ lt. let e = units_are whole fraction kept rest false cut are ((λ t. absurd (false≢true t)), (λ le. absurd (omega arith))) in omega (arith, e))
    (λ le. let e = units_are whole fraction kept rest true cut are ((λ t. le), (λ h. refl)) in omega (arith, e))
    (cases_lt (2 * number_of rest) (10 ^ length rest))

-- What the units are made of, where the decimals are cut at the ninth.
pub record AreUnits (whole kept rest : List ℕ) (units : ℕ) : Type 0 where
  pub above_whole : followed_by 0 whole ≤ units
  pub above_number : followed_by (followed_by 0 whole) kept ≤ units
  pub least : followed_by (followed_by 0 whole) kept * 10 ^ (9 - length kept) ≤ units
  pub value : (half : Bool) → (IsTrue half ↔ (10 ^ length rest ≤ 2 * number_of rest)) → units ≡ followed_by (followed_by 0 whole) kept * 10 ^ (9 - length kept) + cond half 1 0

pub units_cut : (whole fraction kept rest : List ℕ) (n : ℕ) → AreDigits fraction → fraction ≡ kept ++ rest → length kept ≡ n → n ≡ min (length fraction) 9 → AreUnits whole kept rest (nearest (number_of (whole ++ fraction) * 1_000_000_000) (10 ^ length fraction))
units_cut whole fraction kept rest n are e l m =
    let cut = cut_at fraction kept rest n e l m in
    let after = digits_after fraction kept rest are e in
    let least = units_least whole fraction kept rest cut after in
    let number = le-mul_of_pos_right (followed_by (followed_by 0 whole) kept) (power_pos (9 - length kept)) in
    record {
      above_whole = omega (arith, least, number, followed_by_least (followed_by 0 whole) kept);
      above_number = omega (arith, least, number);
      least = least;
      value = λ half tells. units_are whole fraction kept rest half cut after tells;
    }

-- the units of the kept digits, as they are computed
pub kept_units : (number power before start : ℕ) (kept : List ℕ) (places : ℕ) → number ≡ followed_by before kept → before ≡ start → power ≡ 10 ^ places → number * power ≡ followed_by start kept * 10 ^ places
kept_units number power before start kept places n b p = rw (n, b, p) refl
