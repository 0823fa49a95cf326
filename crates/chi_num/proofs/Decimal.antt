-- Digits and the number that they mean.
use Rattle.std.proofs.Common.{◌≡◌, ℕ, ◌+◌, ◌-◌, ◌*◌, ◌/◌, ◌%◌, ◌^◌, ◌<◌, ◌≤◌, true, List, [], ◌∷◌, ◌++◌, length, suc, zero, refl, ap, sym, ◌∙◌, arith, rules, length-append, append_assoc, get_or, take, drop, cond, Bool, false}
use Rattle.std.proofs.Math.Nat.{one-le-pow, pow-suc, mod-lt, mod-one, div-add-mod, le-mul_of_pos_right}
use Rattle.std.proofs.lemmas.Nat.{pow-add, mul-add-lt, mod-mul-add}
use Rattle.std.proofs.lemmas.List.Sums.{prefix_len-le-length}
use Rattle.std.proofs.lemmas.Str.Parse.{IsNumeralModel, numerals_by_weight, digit_at}
use Rattle.std.proofs.lemmas.List.{drop_more, drop_all}
use Rattle.std.specs.Char.{is_ascii_digit}
use Rattle.std.specs.Int.{IsInRange}
use Rattle.std.specs.List.{prefix_len}
use Rattle.chi_num.specs.Decimal.{AreDigits, number_of, last_digits, followed_by, IsAfterDigits}

pub power_pos : (k : ℕ) → 0 < 10 ^ k
power_pos k = one-le-pow k 10 (omega arith)

-- digits after digits
pub number_of-append : (xs ys : List ℕ) → number_of (xs ++ ys) ≡ number_of xs * 10 ^ length ys + number_of ys
unfolding number_of
number_of-append [] ys = omega arith
number_of-append (c ∷ cs) ys =
    let e = number_of-append cs ys in
    let p : 10 ^ length (cs ++ ys) ≡ 10 ^ length cs * 10 ^ length ys = rw length-append (pow-add 10 (length cs) (length ys)) in
    rw (p, e) (omega arith)

-- std's own lemmas on numerals hold of these words
pub numerals : IsNumeralModel AreDigits number_of
unfolding number_of
numerals = numerals_by_weight AreDigits (search rules) number_of (search rules)

pub length-last_digits : (count number : ℕ) → length (last_digits count number) ≡ count
unfolding last_digits
length-last_digits zero number = refl
length-last_digits (suc count) number = ap suc (length-last_digits count number)

digit_is : (d : ℕ) → d < 10 → is_ascii_digit (48 + d) ≡ true
digit_is d h = search rules

pub are_digits-last_digits : (count number : ℕ) → AreDigits (last_digits count number)
unfolding last_digits
are_digits-last_digits zero number = refl
are_digits-last_digits (suc count) number =
    rw (digit_is (number / 10 ^ count % 10) (mod-lt (number / 10 ^ count) (omega arith))) (are_digits-last_digits count number)

one_more_place : (n p : ℕ) → 0 < p → (48 + n / p % 10 - 48) * p + n % p ≡ n % (p * 10)
one_more_place n p h =
    let rest = n / p % 10 * p + n % p in
    let below : rest < p * 10 = mul-add-lt (n / p % 10) p (n % p) 10 (mod-lt (n / p) (omega arith)) (mod-lt n h) in
    let split : n ≡ n / p / 10 * (p * 10) + rest =
    omega (arith, div-add-mod n p, ap (λ x. p * x) (sym (div-add-mod (n / p) 10)))
    in
    let whole : n % (p * 10) ≡ rest = ap (λ x. x % (p * 10)) split ∙ mod-mul-add (n / p / 10) (p * 10) rest below in
    let digit : 48 + n / p % 10 - 48 ≡ n / p % 10 = omega arith in
    rw (whole, digit) refl

pub number_of-last_digits : (count number : ℕ) → number_of (last_digits count number) ≡ number % 10 ^ count
unfolding last_digits number_of
number_of-last_digits zero number = sym (mod-one number)
number_of-last_digits (suc count) number =
    rw (number_of-last_digits count number, length-last_digits count number, pow-suc 10 count)
    (one_more_place number (10 ^ count) (power_pos count))

-- one more digit, from the front on
pub last_digits_more : (digits done : List ℕ) (place number power digit : ℕ) → 0 < place → power ≡ 10 ^ (place - 1) → digit ≡ 48 + number / power % 10 → digits ≡ done ++ digit ∷ [] → digits ++ last_digits (place - 1) number ≡ done ++ last_digits place number
unfolding last_digits
last_digits_more digits done zero number power digit some p d e = absurd (omega arith)
last_digits_more digits done (suc place) number power digit some p d e =
    let same : suc place - 1 ≡ place = omega arith in
    rw (e, same, append_assoc, d, p, same) refl

-- one digit, and then the others
followed_by-cons : (n c : ℕ) (cs : List ℕ) → followed_by n (c ∷ cs) ≡ followed_by (n * 10 + (c - 48)) cs
unfolding followed_by number_of
followed_by-cons n c cs = rw (pow-suc 10 (length cs)) (omega arith)

followed_by-nil : (n : ℕ) → followed_by n [] ≡ n
unfolding followed_by number_of
followed_by-nil n = omega arith

pub followed_by-zero : (ds : List ℕ) → followed_by 0 ds ≡ number_of ds
unfolding followed_by
followed_by-zero ds = omega arith

pub followed_by-append : (n : ℕ) (xs ys : List ℕ) → followed_by (followed_by n xs) ys ≡ followed_by n (xs ++ ys)
followed_by-append n [] ys = rw (followed_by-nil n) refl
followed_by-append n (c ∷ cs) ys = rw (followed_by-cons n c cs, followed_by-cons n c (cs ++ ys)) (followed_by-append (n * 10 + (c - 48)) cs ys)

pub followed_by_least : (n : ℕ) (ds : List ℕ) → n ≤ followed_by n ds
unfolding followed_by
followed_by_least n ds = omega (arith, le-mul_of_pos_right n (power_pos (length ds)))

pub digit_in_range : (ds : List ℕ) (i : ℕ) → AreDigits ds → i < length ds → IsInRange 48 57 (get_or ds i 0)
digit_in_range ds i are below = digit_at ds i (numerals.to ds are) below

-- the next digit, where a loop stands at index i
pub followed_by_more : (n : ℕ) (ds : List ℕ) (i : ℕ) → i < length ds → followed_by n (drop i ds) ≡ followed_by (n * 10 + (get_or ds i 0 - 48)) (drop (i + 1) ds)
followed_by_more n ds i below = rw (drop_more ds i 0 below) (followed_by-cons n (get_or ds i 0) (drop (i + 1) ds))

pub followed_by_done : (n : ℕ) (ds : List ℕ) (i : ℕ) → length ds ≤ i → followed_by n (drop i ds) ≡ n
followed_by_done n ds i past = rw (drop_all i ds past) (followed_by-nil n)

-- the digits that a text begins with, and the rest
pub front_digits : (text : List ℕ) → AreDigits (take (prefix_len is_ascii_digit text) text)
front_digits [] = refl
front_digits (c ∷ cs) = by_first (is_ascii_digit c) refl (front_digits cs)
  where
    by_first : (b : Bool) → is_ascii_digit c ≡ b → AreDigits (take (prefix_len is_ascii_digit cs) cs) → AreDigits (take (cond b (1 + prefix_len is_ascii_digit cs) 0) (c ∷ cs))
    by_first true e are = let one : 1 + prefix_len is_ascii_digit cs ≡ suc (prefix_len is_ascii_digit cs) = omega arith in rw (one, e) are
    by_first false e are = refl

pub after_front_digits : (text : List ℕ) → IsAfterDigits (drop (prefix_len is_ascii_digit text) text)
after_front_digits [] = tt
after_front_digits (c ∷ cs) = by_first (is_ascii_digit c) refl (after_front_digits cs)
  where
    by_first : (b : Bool) → is_ascii_digit c ≡ b → IsAfterDigits (drop (prefix_len is_ascii_digit cs) cs) → IsAfterDigits (drop (cond b (1 + prefix_len is_ascii_digit cs) 0) (c ∷ cs))
    by_first true e after = let one : 1 + prefix_len is_ascii_digit cs ≡ suc (prefix_len is_ascii_digit cs) = omega arith in rw one after
    by_first false e after = e

pub front_within : (text : List ℕ) → prefix_len is_ascii_digit text ≤ length text
front_within text = prefix_len-le-length is_ascii_digit text

pub followed_by_least_more : (n : ℕ) (ds : List ℕ) (i : ℕ) → i < length ds → n * 10 + (get_or ds i 0 - 48) ≤ followed_by n (drop i ds)
followed_by_least_more n ds i below =
    rw (followed_by_more n ds i below) (followed_by_least (n * 10 + (get_or ds i 0 - 48)) (drop (i + 1) ds))
