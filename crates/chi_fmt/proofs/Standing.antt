-- Which bytes may follow a token so that it is read as it is.
use Rattle.std.proofs.Common.{◌≡◌, ◌≢◌, ℕ, ◌+◌, ◌<◌, Bool, true, false, ◌||◌, ◌&&◌, cond, eqb, ltb, Option, Some, None, List, [], ◌∷◌, ◌++◌, length, take, drop, get_or, length-append, append_assoc, refl, sym, ap, subst, ◌∙◌, arith}
use Rattle.std.specs.Option.{option_map}
use Rattle.std.specs.List.{list_all, prefix_len, take_while, flat_map}
use Rattle.std.proofs.Math.Seq.{take-append_seam}
use Rattle.std.proofs.lemmas.Bool.{eqb-true, eqb-false, ltb-true}
use Rattle.std.proofs.lemmas.List.{drop_at, take-append-drop}
use Rattle.std.proofs.lemmas.List.Folds.{length-prefix_len}
use Rattle.chi_token.specs.declared.sign.Sign.{Sign}
use Rattle.chi_token.specs.declared.sign.Sign.TheVariants.{LessEqual, Equal, NotEqual, GreaterEqual, Less, Greater, Assign, Bang}
use Rattle.chi_token.specs.declared.token.Token.{Token}
use Rattle.chi_token.specs.declared.token.Token.TheVariants as token
use Rattle.chi_token.specs.Characters.{is_name_start, is_name_byte, is_digit, is_point, point, quote}
use Rattle.chi_token.specs.Keywords.{keyword_of}
use Rattle.chi_token.specs.Signs.{sign_of, mark_of}
use Rattle.chi_token.specs.Spelling.{canonical_spelling}
use Rattle.chi_token.specs.Tables.{value_at}
use Rattle.chi_token.specs.Texts.{text_of, meaning, quoted, quoted_byte}
use Rattle.chi_token.specs.Tokens.{IsToken, token_spelled_by, word_or_name, is_digits, is_real, is_fraction}
use Rattle.chi_lex.specs.Fractions.{fraction_length, fraction_by}
use Rattle.chi_lex.specs.Gaps.{gap_of, goes_on}
use Rattle.chi_lex.specs.Reading.{longest_token}
use Rattle.chi_lex.proofs.Runs.{StopsAt, prefix_len-stop, list_all-take-prefix_len, and_left, and_right}
use Rattle.chi_lex.proofs.WordLemmas.{longest-word}
use Rattle.chi_lex.proofs.NumberLemmas.{longest-int, longest-real}
use Rattle.chi_lex.proofs.SignLemmas.{BeginsSign, longest-sign_of_one, longest-sign_of_two}
use Rattle.chi_lex.proofs.TextLemmas.{text_of-snoc}
use Rattle.chi_lex.proofs.TextScan.{longest-text}
use Rattle.chi_lex.proofs.SpellingLemmas.{token_spelled_by-spelled}

-- the byte after which a sign of two bytes may end
abbrev pub equals : ℕ
equals = 61

-- The bytes go on with no name, no number and no sign of two bytes.
pub record Breaks (back : List ℕ) : Type 0 where
  pub no_name : StopsAt is_name_byte back
  pub no_digit : StopsAt is_digit back
  pub no_fraction : fraction_length back ≡ 0
  pub no_sign : StopsAt (λ c. eqb c equals) back

-- a word or a name

-- the run of bytes that pass, before bytes that don't go on with it
run-size : (p : ℕ → Bool) (xs back : List ℕ) → list_all p xs ≡ true → StopsAt p back → prefix_len p (xs ++ back) ≡ length xs
run-size p [] [] passes stops = refl
run-size p [] (y ∷ back) passes stops = ap (λ b. cond b (1 + prefix_len p back) 0) stops
run-size p (x ∷ xs) back passes stops =
    ap (λ b. cond b (1 + prefix_len p (xs ++ back)) 0) (and_left (p x) (list_all p xs) passes)
    ∙ ap (λ n. 1 + n) (run-size p xs back (and_right (p x) (list_all p xs) passes) stops)
    ∙ omega arith

word-before : (c : ℕ) (cs back : List ℕ) → is_name_start c ≡ true → list_all is_name_byte (c ∷ cs) ≡ true → StopsAt is_name_byte back
    → longest_token ((c ∷ cs) ++ back) ≡ Some (word_or_name (keyword_of (c ∷ cs)) (c ∷ cs), length (c ∷ cs))
word-before c cs back start passes stops =
    subst (λ xs. longest_token ((c ∷ cs) ++ back) ≡ Some (word_or_name (keyword_of xs) xs, length (c ∷ cs)))
    (take-append_seam (c ∷ cs) back)
    (longest-word ((c ∷ cs) ++ back) (length (c ∷ cs)) (sym (run-size is_name_byte (c ∷ cs) back passes stops)) (omega arith) start)

-- a sign

begins : (a : ℕ) → is_name_start a ≡ false → is_digit a ≡ false → eqb a quote ≡ false → BeginsSign a
begins a no_name no_digit no_quote = record { no_name = no_name; no_digit = no_digit; no_quote = eqb-false a quote no_quote }

of_two : (a b : ℕ) (back : List ℕ) (sign : Sign) → BeginsSign a → sign_of (a ∷ b ∷ []) ≡ Some sign
    → longest_token (a ∷ b ∷ back) ≡ Some (token.Sign sign, 2)
of_two a b back sign first reads =
    longest-sign_of_two (a ∷ b ∷ back) sign (omega arith) first
    (record { fits = λ h. sym reads; short = λ h. absurd (omega arith) })

of_one : (a : ℕ) (back : List ℕ) (sign : Sign) → BeginsSign a → sign_of (a ∷ []) ≡ Some sign
    → ((d : ℕ) → eqb d equals ≡ false → sign_of (a ∷ d ∷ []) ≡ None) → StopsAt (λ c. eqb c equals) back
    → longest_token (a ∷ back) ≡ Some (token.Sign sign, 1)
of_one a [] sign first reads none stops =
    longest-sign_of_one (a ∷ []) sign (omega arith) first
    (record { fits = λ h. absurd (omega arith); short = λ h. refl })
    (record { fits = λ h. sym reads; short = λ h. absurd (omega arith) })
of_one a (d ∷ back) sign first reads none stops =
    longest-sign_of_one (a ∷ d ∷ back) sign (omega arith) first
    (record { fits = λ h. sym (none d stops); short = λ h. absurd (omega arith) })
    (record { fits = λ h. sym reads; short = λ h. absurd (omega arith) })

less_alone : (d : ℕ) → eqb d equals ≡ false → sign_of (60 ∷ d ∷ []) ≡ None
unfolding sign_of value_at
less_alone d e = rw e refl

greater_alone : (d : ℕ) → eqb d equals ≡ false → sign_of (62 ∷ d ∷ []) ≡ None
unfolding sign_of value_at
greater_alone d e = rw e refl

assign_alone : (d : ℕ) → eqb d equals ≡ false → sign_of (61 ∷ d ∷ []) ≡ None
unfolding sign_of value_at
assign_alone d e = rw e refl

bang_alone : (d : ℕ) → eqb d equals ≡ false → sign_of (33 ∷ d ∷ []) ≡ None
unfolding sign_of value_at
bang_alone d e = rw e refl

pub sign-before : (sign : Sign) (back : List ℕ) → StopsAt (λ c. eqb c equals) back
    → longest_token (mark_of sign ++ back) ≡ Some (token.Sign sign, length (mark_of sign))
unfolding mark_of sign_of value_at
sign-before LessEqual back stops = of_two 60 61 back LessEqual (begins 60 refl refl refl) refl
sign-before Equal back stops = of_two 61 61 back Equal (begins 61 refl refl refl) refl
sign-before NotEqual back stops = of_two 33 61 back NotEqual (begins 33 refl refl refl) refl
sign-before GreaterEqual back stops = of_two 62 61 back GreaterEqual (begins 62 refl refl refl) refl
sign-before Less back stops = of_one 60 back Less (begins 60 refl refl refl) refl less_alone stops
sign-before Greater back stops = of_one 62 back Greater (begins 62 refl refl refl) refl greater_alone stops
sign-before Assign back stops = of_one 61 back Assign (begins 61 refl refl refl) refl assign_alone stops
sign-before Bang back stops = of_one 33 back Bang (begins 33 refl refl refl) refl bang_alone stops
sign-before _ back stops = of_one _ back _ (begins _ refl refl refl) refl (λ d e. refl) stops

-- a number

int-before : (c : ℕ) (cs back : List ℕ) → is_digit c ≡ true → is_digits (c ∷ cs) ≡ true → StopsAt is_digit back → fraction_length back ≡ 0
    → longest_token ((c ∷ cs) ++ back) ≡ Some (token.Int (c ∷ cs), length (c ∷ cs))
int-before c cs back digit digits stops none =
    let ds = c ∷ cs in
    let rest = ds ++ back in
    let all : list_all is_digit ds ≡ true = and_right (ltb 0 (length ds)) (list_all is_digit ds) digits in
    let size : length ds + 0 ≡ length ds = omega arith in
    longest-int rest back ds (length ds) 0
    (record {
      some = omega arith;
      digit = digit;
      whole_is = sym (length-prefix_len is_digit rest ∙ run-size is_digit ds back all stops);
      back_is = sym (drop_at ds back (length ds) refl);
      fraction_is = sym none;
    })
    refl
    (sym (ap (λ n. take n rest) size ∙ take-append_seam ds back))
    ∙ ap (λ n. Some (token.Int ds, n)) size

-- digits, a point and digits
pub record RealParts (bytes : List ℕ) : Type 0 where
  pub whole : List ℕ
  pub decimals : List ℕ
  pub is : whole ++ point ∷ decimals ≡ bytes
  pub some : ltb 0 (prefix_len is_digit bytes) ≡ true
  pub digits : list_all is_digit whole ≡ true
  pub whole_size : length whole ≡ prefix_len is_digit bytes
  pub decimal : ltb 0 (length decimals) ≡ true
  pub decimal_digits : list_all is_digit decimals ≡ true

real-parts : (bytes : List ℕ) → is_real bytes ≡ true → RealParts bytes
real-parts bytes real = by (drop n bytes) refl (and_right (ltb 0 n) (is_fraction (drop n bytes)) real)
  where
    n : ℕ
    n = prefix_len is_digit bytes

    by : (fs : List ℕ) → drop n bytes ≡ fs → is_fraction fs ≡ true → RealParts bytes
    by [] is h = cc
    by (p ∷ es) is h =
        let at : is_point p ≡ true = and_left (is_point p) (is_digits es) h in
        let digits : is_digits es ≡ true = and_right (is_point p) (is_digits es) h in
        record {
          whole = take n bytes;
          decimals = es;
          is = ap (λ c. take n bytes ++ c ∷ es) (sym (eqb-true p point at)) ∙ ap (λ xs. take n bytes ++ xs) (sym is) ∙ take-append-drop n bytes;
          some = and_left (ltb 0 n) (is_fraction (drop n bytes)) real;
          digits = list_all-take-prefix_len is_digit bytes;
          whole_size = length-prefix_len is_digit bytes;
          decimal = and_left (ltb 0 (length es)) (list_all is_digit es) digits;
          decimal_digits = and_right (ltb 0 (length es)) (list_all is_digit es) digits;
        }

-- the digits after a point
fraction-size : (es back : List ℕ) → ltb 0 (length es) ≡ true → list_all is_digit es ≡ true → StopsAt is_digit back
    → 1 + length es ≡ fraction_length (point ∷ es ++ back)
fraction-size [] back some all stops = cc
fraction-size (e ∷ es) back some all stops =
    sym (ap (λ n. fraction_by n) (run-size is_digit (e ∷ es) back all stops))

first-digit : (ws back : List ℕ) → 0 < length ws → list_all is_digit ws ≡ true → is_digit (get_or (ws ++ back) 0 0) ≡ true
first-digit [] back some all = absurd (omega arith)
first-digit (w ∷ ws) back some all = and_left (is_digit w) (list_all is_digit ws) all

real-at : (ws es back : List ℕ) → 0 < length ws → list_all is_digit ws ≡ true → ltb 0 (length es) ≡ true → list_all is_digit es ≡ true
    → StopsAt is_digit back
    → longest_token ((ws ++ point ∷ es) ++ back) ≡ Some (token.Real (ws ++ point ∷ es), length (ws ++ point ∷ es))
real-at ws es back some all some_more all_more stops =
    let digits = ws ++ point ∷ es in
    let later = point ∷ es ++ back in
    let split : digits ++ back ≡ ws ++ later = append_assoc ws (point ∷ es) back in
    let size : length ws + (1 + length es) ≡ length digits = omega (arith, length-append ws (point ∷ es)) in
    let low : 0 < length (ws ++ later) = omega (arith, length-append ws later) in
    let no_zero : 1 + length es ≢ 0 = λ e. absurd (omega arith) in
    let found : longest_token (ws ++ later) ≡ Some (token.Real digits, length ws + (1 + length es)) =
    longest-real (ws ++ later) later digits (length ws) (1 + length es)
    (record {
      some = low;
      digit = first-digit ws later some all;
      whole_is = sym (length-prefix_len is_digit (ws ++ later) ∙ prefix_len-stop is_digit ws point (es ++ back) all refl);
      back_is = sym (drop_at ws later (length ws) refl);
      fraction_is = fraction-size es back some_more all_more stops;
    })
    no_zero
    (sym (ap (λ n. take n (ws ++ later)) size ∙ ap (λ xs. take (length digits) xs) (sym split) ∙ take-append_seam digits back)) in
    ap longest_token split ∙ found ∙ ap (λ n. Some (token.Real digits, n)) size

real-before : (bytes back : List ℕ) → is_real bytes ≡ true → StopsAt is_digit back
    → longest_token (bytes ++ back) ≡ Some (token.Real bytes, length bytes)
real-before bytes back real stops =
    let parts = real-parts bytes real in
    let low : 0 < length parts.whole = omega (arith, parts.whole_size, ltb-true 0 (prefix_len is_digit bytes) parts.some) in
    subst (λ xs. longest_token (xs ++ back) ≡ Some (token.Real xs, length xs)) parts.is
    (real-at parts.whole parts.decimals back low parts.digits parts.decimal parts.decimal_digits stops)

-- a text

text-before : (bs back : List ℕ) → token_spelled_by (quoted bs) ≡ Some (token.Text bs)
    → longest_token (quoted bs ++ back) ≡ Some (token.Text bs, length (quoted bs))
unfolding token_spelled_by quoted
text-before bs back is =
    longest-text run back bs
    (by (meaning run) refl (sym (ap (λ o. option_map (λ t. token.Text t) o) (text_of-snoc run quote)) ∙ is))
  where
    run : List ℕ
    run = flat_map quoted_byte bs

    by : (o : Option (List ℕ)) → meaning run ≡ o → option_map (λ t. token.Text t) o ≡ Some (token.Text bs) → meaning run ≡ Some bs
    by None at h = cc
    by (Some m) at h = let same : m ≡ bs = cc in at ∙ ap (λ x. Some x) same

-- any token

-- what bytes spell a token, by its kind
data Kind : List ℕ → Token → Type 0 where
  word_kind : (c : ℕ) (cs : List ℕ) → is_name_start c ≡ true → list_all is_name_byte cs ≡ true
      → Kind (c ∷ cs) (word_or_name (keyword_of (c ∷ cs)) (c ∷ cs))
  int_kind : (c : ℕ) (cs : List ℕ) → is_digit c ≡ true → is_digits (c ∷ cs) ≡ true → Kind (c ∷ cs) (token.Int (c ∷ cs))
  real_kind : (bytes : List ℕ) → is_real bytes ≡ true → Kind bytes (token.Real bytes)
  text_kind : (bytes bs : List ℕ) → Kind bytes (token.Text bs)
  sign_kind : (bytes : List ℕ) (sign : Sign) → Kind bytes (token.Sign sign)

kind : (bytes : List ℕ) (t : Token) → token_spelled_by bytes ≡ Some t → Kind bytes t
unfolding token_spelled_by
kind [] t is = cc
kind (c ∷ cs) t is =
    by (is_name_start c) refl (list_all is_name_byte cs) refl (is_digit c) refl (is_digits (c ∷ cs)) refl (is_real (c ∷ cs)) refl (eqb c quote) is
  where
    bytes : List ℕ
    bytes = c ∷ cs

    same : (u : Token) → Some u ≡ Some t → Kind bytes u → Kind bytes t
    same u e k = let e' : u ≡ t = cc in subst (λ v. Kind bytes v) e' k

    text : (o : Option (List ℕ)) → option_map (λ b. token.Text b) o ≡ Some t → Kind bytes t
    text None h = cc
    text (Some bs) h = same (token.Text bs) h (text_kind bytes bs)

    sign : (o : Option Sign) → option_map (λ s. token.Sign s) o ≡ Some t → Kind bytes t
    sign None h = cc
    sign (Some s) h = same (token.Sign s) h (sign_kind bytes s)

    by : (a : Bool) → is_name_start c ≡ a → (n : Bool) → list_all is_name_byte cs ≡ n → (d : Bool) → is_digit c ≡ d → (i : Bool) → is_digits bytes ≡ i → (r : Bool) → is_real bytes ≡ r → (q : Bool) → cond a (cond n (Some (word_or_name (keyword_of bytes) bytes)) None) (cond d (cond i (Some (token.Int bytes)) (cond r (Some (token.Real bytes)) None)) (cond q (option_map (λ b. token.Text b) (text_of cs)) (option_map (λ s. token.Sign s) (sign_of bytes)))) ≡ Some t → Kind bytes t
    by true a' true n' d d' i i' r r' q h = same (word_or_name (keyword_of bytes) bytes) h (word_kind c cs a' n')
    by true a' false n' d d' i i' r r' q h = cc
    by false a' n n' true d' true i' r r' q h = same (token.Int bytes) h (int_kind c cs d' i')
    by false a' n n' true d' false i' true r' q h = same (token.Real bytes) h (real_kind bytes r')
    by false a' n n' true d' false i' false r' q h = cc
    by false a' n n' false d' i i' r r' true h = text (text_of cs) h
    by false a' n n' false d' i i' r r' false h = sign (sign_of bytes) h

name_bytes : (c : ℕ) (cs : List ℕ) → is_name_start c ≡ true → list_all is_name_byte cs ≡ true → list_all is_name_byte (c ∷ cs) ≡ true
name_bytes c cs start passes = ap (λ b. (b || is_digit c) && list_all is_name_byte cs) start ∙ passes

before-kind : (bytes : List ℕ) (t : Token) (back : List ℕ) → Kind bytes t → bytes ≡ canonical_spelling t → token_spelled_by bytes ≡ Some t → Breaks back
    → longest_token (bytes ++ back) ≡ Some (t, length bytes)
before-kind bytes t back (word_kind c cs start passes) is spells breaks =
    word-before c cs back start (name_bytes c cs start passes) breaks.no_name
before-kind bytes t back (int_kind c cs digit digits) is spells breaks =
    int-before c cs back digit digits breaks.no_digit breaks.no_fraction
before-kind bytes t back (real_kind b real) is spells breaks = real-before b back real breaks.no_digit
before-kind bytes t back (text_kind b bs) is spells breaks =
    subst (λ xs. longest_token (xs ++ back) ≡ Some (token.Text bs, length xs)) (sym is)
    (text-before bs back (subst (λ xs. token_spelled_by xs ≡ Some (token.Text bs)) is spells))
before-kind bytes t back (sign_kind b s) is spells breaks =
    subst (λ xs. longest_token (xs ++ back) ≡ Some (token.Sign s, length xs)) (sym is) (sign-before s back breaks.no_sign)

pub spells : (t : Token) → IsToken t → token_spelled_by (canonical_spelling t) ≡ Some t
spells t is = token_spelled_by-spelled is.0 t is.1

-- a token is read before bytes that don't go on with it
pub standing : (t : Token) (back : List ℕ) → IsToken t → Breaks back
    → longest_token (canonical_spelling t ++ back) ≡ Some (t, length (canonical_spelling t))
standing t back is breaks =
    before-kind (canonical_spelling t) t back (kind (canonical_spelling t) t (spells t is)) refl (spells t is) breaks

-- no token begins as a gap does
no_gap : (c : ℕ) (cs ds : List ℕ) (t : Token) → token_spelled_by (c ∷ cs) ≡ Some t → gap_of (c ∷ ds) ≡ None
unfolding token_spelled_by sign_of value_at
no_gap c cs ds t is = by (eqb c 32) refl (eqb c 9) refl (eqb c 13) refl (eqb c 10) refl (eqb c 35) refl
  where
    no : (n : ℕ) → eqb c n ≡ true → token_spelled_by (n ∷ cs) ≡ None → {P : Type 0} → P
    no n same none =
        let some : token_spelled_by (n ∷ cs) ≡ Some t = subst (λ x. token_spelled_by (x ∷ cs) ≡ Some t) (eqb-true c n same) is in
        let clash : None ≡ Some t = sym none ∙ some in
        cc

    by : (s : Bool) → eqb c 32 ≡ s → (b : Bool) → eqb c 9 ≡ b → (r : Bool) → eqb c 13 ≡ r → (l : Bool) → eqb c 10 ≡ l → (h : Bool) → eqb c 35 ≡ h → cond (((s || b) || r) || l) (Some 1) (cond h (Some (1 + length (take_while goes_on ds))) None) ≡ None
    by true at b b' r r' l l' h h' = no 32 at refl
    by false s true at r r' l l' h h' = no 9 at refl
    by false s false b true at l l' h h' = no 13 at refl
    by false s false b false r true at h h' = no 10 at refl
    by false s false b false r false l true at = no 35 at refl
    by false s false b false r false l false h = refl

pub gap-standing : (t : Token) (back : List ℕ) → IsToken t → gap_of (canonical_spelling t ++ back) ≡ None
unfolding token_spelled_by
gap-standing t back is = by (canonical_spelling t) (spells t is)
  where
    by : (bytes : List ℕ) → token_spelled_by bytes ≡ Some t → gap_of (bytes ++ back) ≡ None
    by [] h = cc
    by (c ∷ cs) h = no_gap c cs (cs ++ back) t h
