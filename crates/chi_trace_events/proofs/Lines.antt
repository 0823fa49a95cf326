-- Texts of numbers, strings and names are in one line, and none is the part that stands for what isn't known.
use Rattle.std.proofs.Common.{◌≡◌, ◌≢◌, ℕ, zero, suc, ◌<◌, ◌%◌, ◌/◌, ◌&&◌, Bool, true, false, cond, List, [], ◌∷◌, ◌++◌, length, bytes_eq, ℤ, pos, negsuc, Some, None, refl, ap, sym, ◌∙◌, arith}
use Rattle.std.proofs.Math.Nat.{mod-lt}
use Rattle.std.proofs.lemmas.Bool.{eqb-true, lt-ltb}
use Rattle.std.proofs.lemmas.Slice.Eq.{bytes_eq-Decides}
use Rattle.std.specs.Char.{is_ascii_digit}
use Rattle.std.specs.Fmt.{decimal, digits, digits_onto, digit_glyph, signed_decimal}
use Rattle.std.specs.List.{list_all, flat_map}
use Rattle.std.specs.Prelude.{◌==◌, not, nat_lt, nat_abs, int_lt, option_map}
use Rattle.chi_num.specs.Decimal.{AreDigits, last_digits, point_and, spelling}
use Rattle.chi_num.specs.RealText.{real_text_of, trimmed, without_last_zeros}
use Rattle.chi_num.proofs.Decimal.{are_digits-last_digits}
use Rattle.chi_token.specs.Characters.{quote, is_name_start, is_name_byte}
use Rattle.chi_token.specs.Texts.{quoted, quoted_by, quoted_byte}
use Rattle.chi_core.specs.Sound.{IsName}
use Rattle.chi_trace.specs.Ends.{OneLine}
use Rattle.chi_trace.specs.Events.{is_value_text, unknown_part}
use Rattle.chi_trace.specs.Logs.{is_one_line}
use Rattle.chi_trace.specs.Told.{is_name}
use Rattle.chi_trace.proofs.Cuts.{and_both, both_and}
use Rattle.chi_trace.proofs.Names.{name_told, name_is_known}
use Rattle.chi_trace.proofs.OneLine.{head_of, tail_of, other_byte, one_line_of, one_digits, point_one, one-append}

-- a text that a trace can tell: some bytes in one line, which don't say that it isn't known
pub record CanBeTold (text : List ℕ) : Type 0 where
  pub one : OneLine text
  pub some : text ≢ []
  pub known : text ≢ unknown_part

pub value_text : (text : List ℕ) → CanBeTold text → is_value_text text ≡ true
value_text [] t = absurd (t.some refl)
value_text (c ∷ cs) t = by (bytes_eq (c ∷ cs) unknown_part) refl
  where
    by : (b : Bool) → bytes_eq (c ∷ cs) unknown_part ≡ b → is_value_text (c ∷ cs) ≡ true
    by false q =
        both_and (nat_lt 0 (suc (length cs)) && not (bytes_eq (c ∷ cs) unknown_part)) (is_one_line (c ∷ cs))
        (both_and (nat_lt 0 (suc (length cs))) (not (bytes_eq (c ∷ cs) unknown_part)) (lt-ltb 0 (suc (length cs)) (omega arith)) (ap not q)) t.one
    by true q = absurd (t.known ((bytes_eq-Decides (c ∷ cs) unknown_part).0 q))

-- what begins with another byte than a minus
pub starts : (c : ℕ) (cs : List ℕ) → c ≢ 45 → OneLine (c ∷ cs) → CanBeTold (c ∷ cs)
starts c cs other one = record {
  one = one;
  some = λ e. absurd (cc);
  known = λ e. other (ap head_of e);
}

-- a minus before something
pub minus_before : (text : List ℕ) → text ≢ [] → OneLine text → CanBeTold (45 ∷ text)
minus_before text some one = record {
  one = one;
  some = λ e. absurd (cc);
  known = λ e. some (ap tail_of e);
}

-- digits

no_minus : (c : ℕ) → is_ascii_digit c ≡ true → c ≢ 45
no_minus c is e = let no : true ≡ false = sym is ∙ ap is_ascii_digit e in absurd (cc)

told_digits : (ds : List ℕ) → AreDigits ds → ds ≢ [] → CanBeTold ds
told_digits [] are some = absurd (some refl)
told_digits (c ∷ cs) are some = starts c cs (no_minus c (and_both (is_ascii_digit c) (list_all is_ascii_digit cs) are).0) (one_digits (c ∷ cs) are)

glyph_is_digit : (d : ℕ) → d < 10 → is_ascii_digit (digit_glyph false d) ≡ true
glyph_is_digit d less = grind arith

digits_more : (k n : ℕ) (acc : List ℕ) → AreDigits acc → AreDigits (digits_onto k 10 false n acc)
digits_more zero n acc are = are
digits_more (suc k) n acc are =
    let now : AreDigits (digit_glyph false (n % 10) ∷ acc)
    = both_and (is_ascii_digit (digit_glyph false (n % 10))) (list_all is_ascii_digit acc) (glyph_is_digit (n % 10) (mod-lt n (omega arith))) are in
    by now (digits_more k (n / 10) (digit_glyph false (n % 10) ∷ acc) now) (n / 10 == 0)
  where
    by : AreDigits (digit_glyph false (n % 10) ∷ acc) → AreDigits (digits_onto k 10 false (n / 10) (digit_glyph false (n % 10) ∷ acc))
        → (b : Bool) → AreDigits (cond b (digit_glyph false (n % 10) ∷ acc) (digits_onto k 10 false (n / 10) (digit_glyph false (n % 10) ∷ acc)))
    by now more true = now
    by now more false = more

some_more : (k n c : ℕ) (acc : List ℕ) → digits_onto k 10 false n (c ∷ acc) ≢ []
some_more zero n c acc e = absurd (cc)
some_more (suc k) n c acc e = by (some_more k (n / 10) (digit_glyph false (n % 10)) (c ∷ acc)) (n / 10 == 0) e
  where
    by : digits_onto k 10 false (n / 10) (digit_glyph false (n % 10) ∷ c ∷ acc) ≢ []
        → (b : Bool) → cond b (digit_glyph false (n % 10) ∷ c ∷ acc) (digits_onto k 10 false (n / 10) (digit_glyph false (n % 10) ∷ c ∷ acc)) ≢ []
    by more true e' = absurd (cc)
    by more false e' = more e'

pub are_decimal : (n : ℕ) → AreDigits (decimal n)
unfolding digits
are_decimal n = digits_more 64 n [] refl

some_first : (k n : ℕ) → digits_onto (suc k) 10 false n [] ≢ []
some_first k n = by (n / 10 == 0)
  where
    by : (b : Bool) → cond b (digit_glyph false (n % 10) ∷ []) (digits_onto k 10 false (n / 10) (digit_glyph false (n % 10) ∷ [])) ≢ []
    by true e = absurd (cc)
    by false e = some_more k (n / 10) (digit_glyph false (n % 10)) [] e

some_decimal : (n : ℕ) → decimal n ≢ []
unfolding digits
some_decimal n e = some_first 63 n e

pub told_int : (z : ℤ) → CanBeTold (signed_decimal z)
told_int (pos n) = told_digits (decimal n) (are_decimal n) (some_decimal n)
told_int (negsuc n) = minus_before (decimal (suc n)) (some_decimal (suc n)) (one_digits (decimal (suc n)) (are_decimal (suc n)))

-- reals

fewer_digits : (ds : List ℕ) → AreDigits ds → AreDigits (without_last_zeros ds)
fewer_digits [] are = refl
fewer_digits (c ∷ cs) are =
    let both = and_both (is_ascii_digit c) (list_all is_ascii_digit cs) are in
    by (both_and (is_ascii_digit c) (list_all is_ascii_digit (without_last_zeros cs)) both.0 (fewer_digits cs both.1)) (list_all (λ b. b == 48) (c ∷ cs))
  where
    by : AreDigits (c ∷ without_last_zeros cs) → (b : Bool) → AreDigits (cond b [] (c ∷ without_last_zeros cs))
    by more true = refl
    by more false = more

trimmed_digits : (ds : List ℕ) → AreDigits ds → AreDigits (trimmed ds)
unfolding trimmed
trimmed_digits [] are = refl
trimmed_digits (c ∷ cs) are =
    let both = and_both (is_ascii_digit c) (list_all is_ascii_digit cs) are in
    both_and (is_ascii_digit c) (list_all is_ascii_digit (without_last_zeros cs)) both.0 (fewer_digits cs both.1)

told_spelling : (minus : Bool) (whole fraction : List ℕ) → AreDigits whole → whole ≢ [] → AreDigits fraction → CanBeTold (spelling minus whole fraction)
told_spelling minus [] fraction are some decimals = absurd (some refl)
told_spelling true (c ∷ cs) fraction are some decimals =
    minus_before ((c ∷ cs) ++ point_and fraction) (λ e. absurd (cc)) (one-append (c ∷ cs) (point_and fraction) (one_digits (c ∷ cs) are) (point_one fraction decimals))
told_spelling false (c ∷ cs) fraction are some decimals =
    starts c (cs ++ point_and fraction) (no_minus c (and_both (is_ascii_digit c) (list_all is_ascii_digit cs) are).0)
    (one-append (c ∷ cs) (point_and fraction) (one_digits (c ∷ cs) are) (point_one fraction decimals))

pub told_real : (units : ℤ) → CanBeTold (real_text_of units)
told_real units =
    let size = nat_abs units in
    told_spelling (int_lt units (pos 0)) (decimal (size / 1_000_000_000)) (trimmed (last_digits 9 size))
    (are_decimal (size / 1_000_000_000)) (some_decimal (size / 1_000_000_000)) (trimmed_digits (last_digits 9 size) (are_digits-last_digits 9 size))

-- strings in quotes

no_feed : (c : ℕ) → (10 == c) ≡ false → not (c == 10) ≡ true
no_feed c other = by (c == 10) refl
  where
    by : (b : Bool) → (c == 10) ≡ b → not (c == 10) ≡ true
    by false q = rw q refl
    by true q = let same : c ≡ 10 = eqb-true c 10 q in let no : false ≡ true = sym other ∙ ap (λ d. 10 == d) same in absurd (cc)

-- by the rows of the table of escapes
one_escape : (c : ℕ) (feed tab quotes slash : Bool) → (10 == c) ≡ feed
    → OneLine (quoted_by (option_map (λ (row : ℕ × ℕ). row.0) (cond feed (Some (110, 10)) (cond tab (Some (116, 9)) (cond quotes (Some (34, 34)) (cond slash (Some (92, 92)) None))))) c)
one_escape c true tab quotes slash e = refl
one_escape c false true quotes slash e = refl
one_escape c false false true slash e = refl
one_escape c false false false true e = refl
one_escape c false false false false e = both_and (not (c == 10)) true (no_feed c e) refl

one_byte : (c : ℕ) → OneLine (quoted_byte c)
one_byte c = one_escape c (10 == c) (9 == c) (34 == c) (92 == c) refl

one_bytes : (bytes : List ℕ) → OneLine (flat_map quoted_byte bytes)
one_bytes [] = refl
one_bytes (c ∷ cs) = one-append (quoted_byte c) (flat_map quoted_byte cs) (one_byte c) (one_bytes cs)

pub told_string : (bytes : List ℕ) → CanBeTold (quoted bytes)
unfolding quoted
told_string bytes =
    starts quote (flat_map quoted_byte bytes ++ quote ∷ []) (λ e. omega arith)
    (one-append (flat_map quoted_byte bytes) (quote ∷ []) (one_bytes bytes) refl)

-- names

name_bytes : (name : List ℕ) → is_name name ≡ true → OneLine name
unfolding is_name
name_bytes [] e = refl
name_bytes (c ∷ cs) e =
    let front = (and_both (is_name_start c && list_all is_name_byte cs) _ e).0 in
    let both = and_both (is_name_start c) (list_all is_name_byte cs) front in
    both_and (not (c == 10)) (is_one_line cs) (other_byte is_name_start refl c both.0) (one_line_of is_name_byte refl cs both.1)

name_some : (name : List ℕ) → is_name name ≡ true → name ≢ []
unfolding is_name
name_some [] e = absurd (cc)
name_some (c ∷ cs) e = λ e'. absurd (cc)

pub told_name : (name : List ℕ) → IsName name → CanBeTold name
told_name name is =
    let e = name_told name is in
    record {
      one = name_bytes name e;
      some = name_some name e;
      known = λ same. let no : false ≡ true = sym (name_is_known name e) ∙ (bytes_eq-Decides name unknown_part).1 same in absurd (cc);
    }
