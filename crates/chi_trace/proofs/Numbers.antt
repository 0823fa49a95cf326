-- Numbers and times are read back from their texts, and from no others.
use Rattle.std.proofs.Common.{◌≡◌, ℕ, ◌+◌, ◌^◌, ◌<◌, ◌≤◌, ◌&&◌, Bool, true, false, cond, List, [], ◌∷◌, ◌++◌, length, bytes_eq, refl, ap, sym, subst, ◌∙◌, Option, Some, None, ℤ, FitsSigned, w64, arith}
use Rattle.std.specs.Prelude.{nat_lt, option_and_then}
use Rattle.std.specs.Char.{is_ascii_digit}
use Rattle.std.specs.Fmt.{decimal}
use Rattle.std.specs.List.{list_all}
use Rattle.std.specs.Str.Parse.{digits_value}
use Rattle.std.proofs.lemmas.Bool.{lt-ltb, ltb-true}
use Rattle.std.proofs.lemmas.Fmt.{decimal_is_IsNumeral, digits_decimal}
use Rattle.std.proofs.lemmas.Slice.Eq.{bytes_eq-Decides}
use Rattle.chi_num.specs.Decimal.{AreDigits, sign_text, point_and, spelling}
use Rattle.chi_num.specs.ReadReal.{IsDecimal}
use Rattle.chi_num.specs.RealText.{real_text_of}
use Rattle.chi_num.specs.TextNumbers.{Meant, means, no_form, out_of_range, real_meant}
use Rattle.chi_num.proofs.Decimal.{numerals}
use Rattle.chi_num.proofs.OfTexts.{real_tells}
use Rattle.chi_num.proofs.ReadBack.{real_text_means}
use Rattle.chi_trace.specs.Told.{part_told, number_told, number_part, two_told, canonical_units, time_told}
use Rattle.chi_trace.proofs.Cuts.{IsPart, IsRest, and_both, then_some, some_same, some_pair, part_of, part-append, part_forth, part_in, part_back}

pub same_bytes : (text : List ℕ) → bytes_eq text text ≡ true
same_bytes text = (bytes_eq-Decides text text).1 refl

pub are_same : (xs ys : List ℕ) → bytes_eq xs ys ≡ true → xs ≡ ys
are_same xs ys e = (bytes_eq-Decides xs ys).0 e

-- ---- numbers

pub number_forth : (bound n : ℕ) → n < bound → bound ≤ 2 ^ 64 → number_told bound (decimal n) ≡ Some n
unfolding number_told
number_forth bound n below most = by (digits_value 10 (decimal n)) (decimal_is_IsNumeral n (omega arith)).1
  where
    by : (v : ℕ) → v ≡ n → cond (nat_lt v bound && bytes_eq (decimal v) (decimal n)) (Some v) None ≡ Some n
    by v e = rw (e, lt-ltb n bound below, same_bytes (decimal n)) refl

number_by : (bound n v : ℕ) (text : List ℕ) (b : Bool) → (nat_lt v bound && bytes_eq (decimal v) text) ≡ b → cond b (Some v) None ≡ Some n → (n < bound) × (text ≡ decimal n)
number_by bound n v text false q e = absurd (cc)
number_by bound n v text true q e =
    let both = and_both (nat_lt v bound) (bytes_eq (decimal v) text) q in
    let same : v ≡ n = some_same v n e in
    (subst (λ m. m < bound) same (ltb-true v bound both.0), sym (are_same (decimal v) text both.1) ∙ ap (λ m. decimal m) same)

pub number_back : (bound n : ℕ) (text : List ℕ) → number_told bound text ≡ Some n → (n < bound) × (text ≡ decimal n)
unfolding number_told
number_back bound n text e =
    let v = digits_value 10 text in
    number_by bound n v text (nat_lt v bound && bytes_eq (decimal v) text) refl e

pub digits-decimal : (n : ℕ) → n < 2 ^ 64 → AreDigits (decimal n)
digits-decimal n small = digits_decimal numerals n small

pub part-digits : (ds : List ℕ) → AreDigits ds → IsPart ds
part-digits ds are = part_of is_ascii_digit refl ds are

pub part-decimal : (n : ℕ) → n < 2 ^ 64 → IsPart (decimal n)
part-decimal n small = part-digits (decimal n) (digits-decimal n small)

pub number_in : (n : ℕ) (tail rest : List ℕ) → n < 2 ^ 32 → IsRest (tail ++ rest) → number_part (32 ∷ ((decimal n ++ tail) ++ rest)) ≡ Some (n, tail ++ rest)
unfolding number_part
number_in n tail rest small is =
    rw (part_in (decimal n) tail rest (part-decimal n (omega arith)) is, number_forth (2 ^ 32) n small (omega arith)) refl

pub number_part_back : (text rest : List ℕ) (n : ℕ) → number_part text ≡ Some (n, rest) → (n < 2 ^ 32) × (text ≡ 32 ∷ (decimal n ++ rest))
unfolding number_part
number_part_back text rest n e =
    let cut = then_some (part_told text) (λ part. option_and_then (λ number. Some (number, part.1)) (number_told (2 ^ 32) part.0)) (n, rest) e in
    let read = then_some (number_told (2 ^ 32) cut.0.0) (λ number. Some (number, cut.0.1)) (n, rest) cut.2 in
    let same = some_pair read.0 n cut.0.1 rest read.2 in
    let number = number_back (2 ^ 32) read.0 cut.0.0 read.1 in (
      subst (λ m. m < 2 ^ 32) same.0 number.0,
      part_back text cut.0.0 cut.0.1 cut.1
          ∙ ap (λ xs. 32 ∷ (xs ++ cut.0.1)) (number.1 ∙ ap (λ m. decimal m) same.0)
          ∙ ap (λ xs. 32 ∷ (decimal n ++ xs)) same.1,
    )

pub two_in : (a b : ℕ) (tail rest : List ℕ) → a < 2 ^ 32 → b < 2 ^ 32 → IsRest (tail ++ rest)
    → two_told (32 ∷ ((decimal a ++ (32 ∷ (decimal b ++ tail))) ++ rest)) ≡ Some ((a, b), tail ++ rest)
unfolding two_told
two_in a b tail rest ha hb is = rw (number_in a (32 ∷ (decimal b ++ tail)) rest ha refl, number_in b tail rest hb is) refl

-- two numbers and what is left
pub record AreTwo (text : List ℕ) (two : ℕ × ℕ) (rest : List ℕ) : Type 0 where
  pub first : two.0 < 2 ^ 32
  pub second : two.1 < 2 ^ 32
  pub whole : text ≡ 32 ∷ (decimal two.0 ++ (32 ∷ (decimal two.1 ++ rest)))

pub two_back : (text rest : List ℕ) (two : ℕ × ℕ) → two_told text ≡ Some (two, rest) → AreTwo text two rest
unfolding two_told
two_back text rest two e =
    let a = then_some (number_part text) (λ a. option_and_then (λ b. Some ((a.0, b.0), b.1)) (number_part a.1)) (two, rest) e in
    let b = then_some (number_part a.0.1) (λ b. Some ((a.0.0, b.0), b.1)) (two, rest) a.2 in
    let same = some_pair (a.0.0, b.0.0) two b.0.1 rest b.2 in
    let first = number_part_back text a.0.1 a.0.0 a.1 in
    let second = number_part_back a.0.1 b.0.1 b.0.0 b.1 in
    subst (λ x. AreTwo text x rest) same.0 (record {
      first = first.0;
      second = second.0;
      whole = first.1 ∙ ap (λ xs. 32 ∷ (decimal a.0.0 ++ xs)) (second.1 ∙ ap (λ xs. 32 ∷ (decimal b.0.0 ++ xs)) same.1);
    })

-- ---- times

pub time_of : (text : List ℕ) (z : ℤ) → real_meant text ≡ means z → bytes_eq (real_text_of z) text ≡ true → time_told text ≡ Some z
unfolding time_told
time_of text z is same = ap (λ (m : Meant). canonical_units m text) is ∙ ap (λ b. cond b (Some z) None) same

pub time_forth : (z : ℤ) → FitsSigned w64 z → time_told (real_text_of z) ≡ Some z
time_forth z fits =
    let text = real_text_of z in
    time_of text z (((real_tells text).value z).1 (real_text_means z fits, fits)) (same_bytes text)

time_by : (text : List ℕ) (y z : ℤ) (b : Bool) → bytes_eq (real_text_of y) text ≡ b → FitsSigned w64 y → cond b (Some y) None ≡ Some z
    → FitsSigned w64 z × (text ≡ real_text_of z)
time_by text y z false q fits e = absurd (cc)
time_by text y z true q fits e =
    let same : y ≡ z = some_same y z e in
    (subst (λ x. FitsSigned w64 x) same fits, sym (are_same (real_text_of y) text q) ∙ ap (λ x. real_text_of x) same)

time_meant : (text : List ℕ) (z : ℤ) (m : Meant) → real_meant text ≡ m → canonical_units m text ≡ Some z → FitsSigned w64 z × (text ≡ real_text_of z)
time_meant text z no_form q e = absurd (cc)
time_meant text z out_of_range q e = absurd (cc)
time_meant text z (means y) q e = time_by text y z (bytes_eq (real_text_of y) text) refl (((real_tells text).value y).0 q).1 e

pub time_back : (text : List ℕ) (z : ℤ) → time_told text ≡ Some z → FitsSigned w64 z × (text ≡ real_text_of z)
unfolding time_told
time_back text z e = time_meant text z (real_meant text) refl e

sign_part : (minus : Bool) → IsPart (sign_text minus)
sign_part true = refl
sign_part false = refl

point_part : (fraction : List ℕ) → AreDigits fraction → IsPart (point_and fraction)
point_part [] are = refl
point_part (c ∷ cs) are = part-digits (c ∷ cs) are

spelled_part : (text : List ℕ) (minus : Bool) (whole fraction : List ℕ) → IsDecimal text minus whole fraction → IsPart text
spelled_part text minus whole fraction i =
    rw i.spelled
    (part-append (sign_text minus ++ whole) (point_and fraction)
    (part-append (sign_text minus) whole (sign_part minus) (part-digits whole i.digits)) (point_part fraction i.decimals))

pub part-time : (z : ℤ) → FitsSigned w64 z → IsPart (real_text_of z)
part-time z fits = let m = real_text_means z fits in spelled_part (real_text_of z) m.0 m.1.0 m.1.1.0 m.1.1.1.0
