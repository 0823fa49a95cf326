-- A number's text means that number.
use Rattle.std.proofs.Common.{◌≡◌, ℕ, ◌+◌, ◌-◌, ◌*◌, ◌/◌, ◌^◌, ◌<◌, ◌≤◌, Bool, true, false, List, ◌++◌, length, suc, zero, refl, ap, sym, ◌∙◌, arith, rules, ℤ, pos, negsuc, ◌*ℤ◌, int_lt, nat_abs, FitsSigned, w64, append_assoc, length-append, replicate}
use Rattle.std.proofs.Math.Nat.{div-add-mod', div-le_self, mul-one, mul_assoc}
use Rattle.std.proofs.lemmas.Fmt.{digits_decimal, digits_value-decimal, decimal_nonempty}
use Rattle.std.proofs.lemmas.Int.{ints}
use Rattle.std.proofs.lemmas.List.{append-nil}
use Rattle.std.proofs.lemmas.Nat.{pow-add}
use Rattle.std.proofs.lemmas.List.Folds.{list_all-append}
use Rattle.std.specs.Char.{is_ascii_digit}
use Rattle.std.specs.Fmt.{decimal, signed_decimal}
use Rattle.std.specs.List.{list_all}
use Rattle.chi_num.specs.Decimal.{AreDigits, number_of, last_digits, sign_text, signed, spelling}
use Rattle.chi_num.specs.FixedText.{fixed_text_of}
use Rattle.chi_num.specs.Nearest.{nearest}
use Rattle.chi_num.specs.ReadInt.{IsInt, MeansInt}
use Rattle.chi_num.specs.ReadReal.{IsDecimal, MeansReal}
use Rattle.chi_num.specs.RealText.{trimmed, real_text_of}
use Rattle.chi_num.proofs.Decimal.{power_pos, numerals, number_of-append, number_of-last_digits, length-last_digits, are_digits-last_digits}
use Rattle.chi_num.proofs.RealText.{trimmed_is}
use Rattle.chi_num.proofs.Reading.{real_means}
use Rattle.chi_num.proofs.Spelling.{and_both}
use Rattle.chi_num.proofs.Units.{short}

sign_is : (z : ℤ) → signed (int_lt z (pos 0)) (nat_abs z) ≡ z
sign_is (pos n) = let above : int_lt (pos n) (pos 0) ≡ false = search rules in rw above refl
sign_is (negsuc n) = refl

fits_size : (z : ℤ) → FitsSigned w64 z → nat_abs z < 2 ^ 64
fits_size z f = omega (arith, ints)

-- the whole part and the decimals are the number's digits
digits_are : (n k : ℕ) → n < 2 ^ 64 → number_of (decimal (n / 10 ^ k) ++ last_digits k n) ≡ n
digits_are n k fits =
    let small : n / 10 ^ k < 2 ^ 64 = omega (arith, div-le_self n (10 ^ k)) in
    rw (number_of-append, digits_value-decimal numerals (n / 10 ^ k) small, number_of-last_digits, length-last_digits) (div-add-mod' n (10 ^ k))

number_of-zeros : (k : ℕ) → number_of (replicate k 48) ≡ 0
unfolding number_of
number_of-zeros zero = refl
number_of-zeros (suc k) = rw (number_of-zeros k) (omega arith)

abbrev zeros : ℕ → List ℕ
zeros count = replicate count 48

length-zeros : (count : ℕ) → length (zeros count) ≡ count
length-zeros zero = refl
length-zeros (suc count) = ap suc (length-zeros count)

spelled_so : (minus : Bool) (n : ℕ) (fraction : List ℕ) → n < 2 ^ 64 → AreDigits fraction → IsDecimal (spelling minus (decimal n) fraction) minus (decimal n) fraction
spelled_so minus n fraction fits are = record {
  spelled = refl;
  some = decimal_nonempty n fits;
  digits = digits_decimal numerals n fits;
  decimals = are;
}

front_are_digits : (front back : List ℕ) → AreDigits (front ++ back) → AreDigits front
front_are_digits front back are =
    (and_both (list_all is_ascii_digit front) (list_all is_ascii_digit back) (sym (list_all-append is_ascii_digit front back) ∙ are)).0

-- zeros at the end of the decimals change nothing
zeros_add_nothing : (n k count : ℕ) (whole fraction : List ℕ) → k ≤ 9 → length fraction + count ≡ k → number_of (whole ++ (fraction ++ zeros count)) ≡ n → nearest (number_of (whole ++ fraction) * 1_000_000_000) (10 ^ length fraction) ≡ n * 10 ^ (9 - k)
zeros_add_nothing n k count whole fraction most size e =
    let number = number_of (whole ++ fraction) in
    let all : number * 10 ^ count ≡ n =
    sym (ap number_of (sym (append_assoc whole fraction (zeros count))) ∙ number_of-append (whole ++ fraction) (zeros count) ∙ rw (length-zeros count, number_of-zeros count) (omega arith)) ∙ e
    in
    let places : count + (9 - k) ≡ 9 - length fraction = omega arith in
    short number (length fraction) (omega arith) (power_pos (length fraction))
    ∙ rw (← places, pow-add, ← all, mul_assoc) refl

-- a text with so many decimals, but for zeros that end them
means_units : (z : ℤ) (k count : ℕ) (fraction : List ℕ) → FitsSigned w64 z → k ≤ 9 → last_digits k (nat_abs z) ≡ fraction ++ zeros count → MeansReal (spelling (int_lt z (pos 0)) (decimal (nat_abs z / 10 ^ k)) fraction) (signed (int_lt z (pos 0)) (nat_abs z * 10 ^ (9 - k)))
means_units z k count fraction fits most e =
    let n = nat_abs z in
    let small : n < 2 ^ 64 = fits_size z fits in
    let whole : n / 10 ^ k < 2 ^ 64 = omega (arith, div-le_self n (10 ^ k)) in
    let are : AreDigits fraction = front_are_digits fraction (zeros count) (rw e at (are_digits-last_digits k n)) in
    let size : length fraction + count ≡ k =
    sym (ap length e ∙ length-append fraction (zeros count) ∙ ap (λ m. length fraction + m) (length-zeros count)) ∙ length-last_digits k n
    in
    let number : number_of (decimal (n / 10 ^ k) ++ (fraction ++ zeros count)) ≡ n = rw (← e) (digits_are n k small) in
    rw (← zeros_add_nothing n k count (decimal (n / 10 ^ k)) fraction most size number)
    (real_means _ (int_lt z (pos 0)) (decimal (n / 10 ^ k)) fraction (spelled_so (int_lt z (pos 0)) (n / 10 ^ k) fraction whole are))

signed_product : (z : ℤ) (p : ℕ) → signed (int_lt z (pos 0)) (nat_abs z * p) ≡ z *ℤ pos p
signed_product (pos n) p = let above : int_lt (pos n) (pos 0) ≡ false = search rules in rw above refl
signed_product (negsuc n) p = omega (arith, ints)

pub fixed_text_means : (k : ℕ) (z : ℤ) → k ≤ 9 → FitsSigned w64 z → MeansReal (fixed_text_of k z) (z *ℤ pos (10 ^ (9 - k)))
fixed_text_means k z most fits =
    rw (← signed_product z (10 ^ (9 - k)))
    (means_units z k 0 (last_digits k (nat_abs z)) fits most (sym (append-nil (last_digits k (nat_abs z)))))

pub real_text_means : (z : ℤ) → FitsSigned w64 z → MeansReal (real_text_of z) z
real_text_means z fits =
    let digits = trimmed_is (last_digits 9 (nat_abs z)) in
    let means = means_units z 9 digits.zeros (trimmed (last_digits 9 (nat_abs z))) fits (omega arith) digits.whole in
    let same : signed (int_lt z (pos 0)) (nat_abs z * 1) ≡ z = ap (signed (int_lt z (pos 0))) (mul-one (nat_abs z)) ∙ sign_is z in
    rw same at means

int_so : (minus : Bool) (n : ℕ) → n < 2 ^ 64 → MeansInt (sign_text minus ++ decimal n) (signed minus n)
int_so minus n small =
    let is_int : IsInt (sign_text minus ++ decimal n) minus (decimal n) = record {
      spelled = sym (append-nil (sign_text minus ++ decimal n));
      some = decimal_nonempty n small;
      digits = digits_decimal numerals n small;
    } in
    (minus, (decimal n, (is_int, ap (signed minus) (sym (digits_value-decimal numerals n small)))))

pub decimal_means : (z : ℤ) → FitsSigned w64 z → MeansInt (signed_decimal z) z
decimal_means (pos n) fits = int_so false n (omega (arith, ints))
decimal_means (negsuc n) fits = int_so true (suc n) (omega (arith, ints))
