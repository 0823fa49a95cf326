-- The longest number.
use Rattle.std.proofs.Common.{◌≡◌, ◌≢◌, ℕ, zero, suc, ◌+◌, ◌<◌, Bool, true, false, ◌&&◌, cond, ltb, Some, None, List, [], ◌∷◌, ◌++◌, length, take, drop, get_or, length-append, append_assoc, append-nil, refl, sym, ap, subst, ◌∙◌, arith}
use Rattle.std.specs.List.{list_all, prefix_len, take_while}
use Rattle.std.proofs.Math.Bool.{and-false}
use Rattle.std.proofs.Math.Seq.{take-append_seam}
use Rattle.std.proofs.lemmas.Bool.{eqb-true}
use Rattle.std.proofs.lemmas.Bool.Decides.{nat_tests}
use Rattle.std.proofs.lemmas.List.{take-append-drop, drop_at}
use Rattle.std.proofs.lemmas.List.Folds.{length-prefix_len}
use Rattle.chi_token.specs.declared.token.Token.TheVariants.{Int, Real}
use Rattle.chi_token.specs.Characters.{is_name_start, is_digit, is_point, point}
use Rattle.chi_token.specs.Prefixes.{longest_prefix}
use Rattle.chi_token.specs.Tokens.{token_spelled_by, number_of, is_digits, is_real, is_fraction}
use Rattle.chi_lex.specs.Fractions.{fraction_by, fraction_length}
use Rattle.chi_lex.proofs.Prefixes.{longest_prefix-at}
use Rattle.chi_lex.proofs.Runs.{StopsAt, and_left, list_all-stop, list_all-take-prefix_len, StopsAt-drop-prefix_len, prefix_len-stop}

digit-no_name : (c : ℕ) → is_digit c ≡ true → is_name_start c ≡ false
digit-no_name c digit = grind (arith, nat_tests)

-- one or more digits
pub record Digits (ds : List ℕ) : Type 0 where
  pub some : 0 < length ds
  pub all : list_all is_digit ds ≡ true

positive : (n : ℕ) → 0 < n → ltb 0 n ≡ true
positive n low = search (arith, nat_tests)

is_digits-Digits : (ds : List ℕ) → Digits ds → is_digits ds ≡ true
is_digits-Digits ds digits =
    ap (λ b. b && list_all is_digit ds) (positive (length ds) digits.some) ∙ digits.all

is_digits-stop : (ds : List ℕ) (x : ℕ) (more : List ℕ) → is_digit x ≡ false → is_digits (ds ++ x ∷ more) ≡ false
is_digits-stop ds x more stops =
    ap (λ b. ltb 0 (length (ds ++ x ∷ more)) && b) (list_all-stop is_digit ds x more stops)
    ∙ and-false (ltb 0 (length (ds ++ x ∷ more)))

token_spelled_by-number : (c : ℕ) (cs : List ℕ) → is_digit c ≡ true → token_spelled_by (c ∷ cs) ≡ number_of (c ∷ cs)
unfolding token_spelled_by
token_spelled_by-number c cs digit = rw (digit-no_name c digit) (rw digit refl)

token_spelled_by-Digits : (ds more : List ℕ) → Digits ds → token_spelled_by (ds ++ more) ≡ number_of (ds ++ more)
token_spelled_by-Digits [] more digits = absurd (let low = digits.some in omega arith)
token_spelled_by-Digits (c ∷ cs) more digits = token_spelled_by-number c (cs ++ more) (and_left (is_digit c) (list_all is_digit cs) digits.all)

-- digits and something else: a number only where that is a point and digits
number_of-split : (ds : List ℕ) (x : ℕ) (more : List ℕ) → Digits ds → is_digit x ≡ false → number_of (ds ++ x ∷ more) ≡ cond (is_point x && is_digits more) (Some (Real (ds ++ x ∷ more))) None
number_of-split ds x more digits stops =
    let bytes = ds ++ x ∷ more in
    let size = prefix_len-stop is_digit ds x more digits.all stops in
    let real : is_real bytes ≡ (is_point x && is_digits more) =
    ap (λ n. ltb 0 n && is_fraction (drop n bytes)) size
    ∙ ap (λ xs. ltb 0 (length ds) && is_fraction xs) (drop_at ds (x ∷ more) (length ds) refl)
    ∙ ap (λ b. b && (is_point x && is_digits more)) (positive (length ds) digits.some) in
    ap (λ b. cond b (Some (Int bytes)) (cond (is_real bytes) (Some (Real bytes)) None)) (is_digits-stop ds x more stops)
    ∙ ap (λ b. cond b (Some (Real bytes)) None) real

number_of-none : (ds : List ℕ) (x : ℕ) (more : List ℕ) → Digits ds → is_digit x ≡ false → (is_point x && is_digits more) ≡ false → token_spelled_by (ds ++ x ∷ more) ≡ None
number_of-none ds x more digits stops none =
    token_spelled_by-Digits ds (x ∷ more) digits
    ∙ number_of-split ds x more digits stops
    ∙ ap (λ b. cond b (Some (Real (ds ++ x ∷ more))) None) none

-- bytes that begin with no digit have no front of digits
no_digits : (ys : List ℕ) → prefix_len is_digit ys ≡ 0 → (k : ℕ) → is_digits (take k ys) ≡ false
no_digits ys none zero = refl
no_digits [] none (suc k) = refl
no_digits (y ∷ ys) none (suc k) =
    is_digits-stop [] y (take k ys) (by (is_digit y) refl none)
  where
    by : (b : Bool) → is_digit y ≡ b → cond b (1 + prefix_len is_digit ys) 0 ≡ 0 → is_digit y ≡ false
    by true is h = absurd (omega arith)
    by false is h = is

-- digits with no fraction after them
int-longer : (ds back : List ℕ) → Digits ds → StopsAt is_digit back → fraction_length back ≡ 0 → (k : ℕ) → k < length back → token_spelled_by (ds ++ take (suc k) back) ≡ None
int-longer ds [] digits stops none k low = absurd (omega arith)
int-longer ds (x ∷ back) digits stops none k low =
    number_of-none ds x (take k back) digits stops (by (is_point x) none)
  where
    by : (b : Bool) → cond b (fraction_by (prefix_len is_digit back)) 0 ≡ 0 → (b && is_digits (take k back)) ≡ false
    by true h = no_digits back (zero_of (prefix_len is_digit back) h) k
      where
        zero_of : (n : ℕ) → fraction_by n ≡ 0 → n ≡ 0
        zero_of zero h = refl
        zero_of (suc n) h = absurd (omega arith)
    by false h = refl

int-at : (ds back : List ℕ) → Digits ds → StopsAt is_digit back → fraction_length back ≡ 0 → longest_prefix token_spelled_by (length (ds ++ back)) (ds ++ back) ≡ Some (Int ds, length ds)
int-at ds back digits stops none =
    longest_prefix-at token_spelled_by (Int ds) ds back
    (subst (λ xs. token_spelled_by xs ≡ number_of xs) (append-nil ds) (token_spelled_by-Digits ds [] digits)
    ∙ ap (λ b. cond b (Some (Int ds)) (cond (is_real ds) (Some (Real ds)) None)) (is_digits-Digits ds digits))
    (int-longer ds back digits stops none)

-- digits, a point and digits, with no digit after them
real-longer : (ds es back : List ℕ) → Digits ds → StopsAt is_digit back → (k : ℕ) → k < length back → token_spelled_by ((ds ++ point ∷ es) ++ take (suc k) back) ≡ None
real-longer ds es [] digits stops k low = absurd (omega arith)
real-longer ds es (x ∷ back) digits stops k low =
    subst (λ xs. token_spelled_by xs ≡ None) (sym (append_assoc ds (point ∷ es) (x ∷ take k back)))
    (number_of-none ds point (es ++ x ∷ take k back) digits refl (is_digits-stop es x (take k back) stops))

real-at : (ds es back : List ℕ) → Digits ds → Digits es → StopsAt is_digit back → longest_prefix token_spelled_by (length ((ds ++ point ∷ es) ++ back)) ((ds ++ point ∷ es) ++ back) ≡ Some (Real (ds ++ point ∷ es), length (ds ++ point ∷ es))
real-at ds es back digits fraction stops =
    longest_prefix-at token_spelled_by (Real (ds ++ point ∷ es)) (ds ++ point ∷ es) back
    (token_spelled_by-Digits ds (point ∷ es) digits
    ∙ number_of-split ds point es digits refl
    ∙ ap (λ b. cond b (Some (Real (ds ++ point ∷ es))) None) (is_digits-Digits es fraction))
    (real-longer ds es back digits stops)

-- the digits that the bytes begin with
leading-Digits : (rest : List ℕ) → 0 < length rest → is_digit (get_or rest 0 0) ≡ true → Digits (take (prefix_len is_digit rest) rest)
leading-Digits [] some digit = absurd (omega arith)
leading-Digits (c ∷ cs) some digit =
    let size : prefix_len is_digit (c ∷ cs) ≡ 1 + prefix_len is_digit cs = ap (λ b. cond b (1 + prefix_len is_digit cs) 0) digit in
    record {
      some = omega (arith, size, length-prefix_len is_digit (c ∷ cs));
      all = list_all-take-prefix_len is_digit (c ∷ cs);
    }

-- what the code knows of a number's two parts
pub record Parts (rest back : List ℕ) (whole fraction : ℕ) : Type 0 where
  pub some : 0 < length rest
  pub digit : is_digit (get_or rest 0 0) ≡ true
  pub whole_is : whole ≡ length (take_while is_digit rest)
  pub back_is : back ≡ drop whole rest
  pub fraction_is : fraction ≡ fraction_length back

whole-prefix_len : (rest back : List ℕ) (whole fraction : ℕ) → Parts rest back whole fraction → whole ≡ prefix_len is_digit rest
whole-prefix_len rest back whole fraction parts = parts.whole_is ∙ length-prefix_len is_digit rest

front-Digits : (rest back : List ℕ) (whole fraction : ℕ) → Parts rest back whole fraction → Digits (take whole rest)
front-Digits rest back whole fraction parts =
    subst (λ n. Digits (take n rest)) (sym (whole-prefix_len rest back whole fraction parts))
    (leading-Digits rest parts.some parts.digit)

front-length : (rest back : List ℕ) (whole fraction : ℕ) → Parts rest back whole fraction → length (take whole rest) ≡ whole
front-length rest back whole fraction parts =
    let is = whole-prefix_len rest back whole fraction parts in
    ap (λ n. length (take n rest)) is ∙ length-prefix_len is_digit rest ∙ sym is

front-back : (rest back : List ℕ) (whole fraction : ℕ) → Parts rest back whole fraction → take whole rest ++ back ≡ rest
front-back rest back whole fraction parts =
    ap (λ xs. take whole rest ++ xs) parts.back_is ∙ take-append-drop whole rest

back-StopsAt : (rest back : List ℕ) (whole fraction : ℕ) → Parts rest back whole fraction → StopsAt is_digit back
back-StopsAt rest back whole fraction parts =
    subst (λ xs. StopsAt is_digit xs)
    (sym (parts.back_is ∙ ap (λ n. drop n rest) (whole-prefix_len rest back whole fraction parts)))
    (StopsAt-drop-prefix_len is_digit rest)

pub longest-int : (rest back digits : List ℕ) (whole fraction : ℕ) → Parts rest back whole fraction → fraction ≡ 0 → digits ≡ take (whole + fraction) rest → longest_prefix token_spelled_by (length rest) rest ≡ Some (Int digits, whole + fraction)
longest-int rest back digits whole fraction parts none is =
    let ds = take whole rest in
    let size : whole + fraction ≡ whole = omega arith in
    let same : ds ≡ digits = ap (λ n. take n rest) (sym size) ∙ sym is in
    subst (λ xs. longest_prefix token_spelled_by (length xs) xs ≡ Some (Int ds, length ds)) (front-back rest back whole fraction parts)
    (int-at ds back (front-Digits rest back whole fraction parts) (back-StopsAt rest back whole fraction parts) (sym parts.fraction_is ∙ none))
    ∙ ap (λ n. Some (Int ds, n)) (front-length rest back whole fraction parts ∙ sym size)
    ∙ ap (λ xs. Some (Int xs, whole + fraction)) same

-- a fraction: a point and the digits after it
pub record Fraction (back : List ℕ) (n : ℕ) : Type 0 where
  pub digits : List ℕ
  pub more : List ℕ
  pub whole : (point ∷ digits) ++ more ≡ back
  pub some : Digits digits
  pub stops : StopsAt is_digit more
  pub size : n ≡ 1 + length digits

fraction-Fraction : (back : List ℕ) (n : ℕ) → n ≡ fraction_length back → n ≢ 0 → Fraction back n
fraction-Fraction [] n is some = absurd (some is)
fraction-Fraction (x ∷ xs) n is some = by (is_point x) refl is
  where
    size_of : (d : ℕ) → n ≡ fraction_by d → (n ≡ 1 + d) × (0 < d)
    size_of zero h = absurd (some h)
    size_of (suc d) h = (h, omega arith)

    by : (b : Bool) → is_point x ≡ b → n ≡ cond b (fraction_by (prefix_len is_digit xs)) 0 → Fraction (x ∷ xs) n
    by false at h = absurd (some h)
    by true at h =
        let sizes = size_of (prefix_len is_digit xs) h in
        record {
          digits = take (prefix_len is_digit xs) xs;
          more = drop (prefix_len is_digit xs) xs;
          whole = ap (λ c. c ∷ take (prefix_len is_digit xs) xs ++ drop (prefix_len is_digit xs) xs) (sym (eqb-true x point at))
              ∙ ap (λ ys. x ∷ ys) (take-append-drop (prefix_len is_digit xs) xs);
          some = record {
            some = omega (arith, sizes.1, length-prefix_len is_digit xs);
            all = list_all-take-prefix_len is_digit xs;
          };
          stops = StopsAt-drop-prefix_len is_digit xs;
          size = omega (arith, sizes.0, length-prefix_len is_digit xs);
        }

-- a real number and what follows it, by the names of its parts
real-is : (rest ds es back digits : List ℕ) (size : ℕ) → Digits ds → Digits es → StopsAt is_digit back → (ds ++ point ∷ es) ++ back ≡ rest → length (ds ++ point ∷ es) ≡ size → digits ≡ take size rest → longest_prefix token_spelled_by (length rest) rest ≡ Some (Real digits, size)
real-is rest ds es back digits size some fraction stops split long is =
    let same : ds ++ point ∷ es ≡ digits =
    sym (take-append_seam (ds ++ point ∷ es) back)
    ∙ ap (λ xs. take (length (ds ++ point ∷ es)) xs) split
    ∙ ap (λ n. take n rest) long
    ∙ sym is in
    subst (λ xs. longest_prefix token_spelled_by (length xs) xs ≡ Some (Real (ds ++ point ∷ es), length (ds ++ point ∷ es))) split (real-at ds es back some fraction stops)
    ∙ ap (λ n. Some (Real (ds ++ point ∷ es), n)) long
    ∙ ap (λ xs. Some (Real xs, size)) same

pub longest-real : (rest back digits : List ℕ) (whole fraction : ℕ) → Parts rest back whole fraction → fraction ≢ 0 → digits ≡ take (whole + fraction) rest → longest_prefix token_spelled_by (length rest) rest ≡ Some (Real digits, whole + fraction)
longest-real rest back digits whole fraction parts some is =
    let ds = take whole rest in
    let part = fraction-Fraction back fraction parts.fraction_is some in
    let size_part = part.size in
    real-is rest ds part.digits part.more digits (whole + fraction) (front-Digits rest back whole fraction parts) part.some part.stops
    (append_assoc ds (point ∷ part.digits) part.more
    ∙ ap (λ xs. ds ++ xs) part.whole
    ∙ front-back rest back whole fraction parts)
    (omega (arith, length-append ds (point ∷ part.digits), front-length rest back whole fraction parts))
    is
