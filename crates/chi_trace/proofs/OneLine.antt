-- The line of an event holds no line feed, and begins with a digit; and a text is cut at its line feeds in one way.
use Rattle.std.proofs.Common.{◌≡◌, ◌≢◌, ℕ, suc, ◌^◌, ◌<◌, one-add, length, take, drop, ◌⊎◌, inl, inr, cond, ◌&&◌, Bool, true, false, List, [], ◌∷◌, ◌++◌, refl, ap, sym, subst, ◌∙◌, ℤ, FitsSigned, w64, arith}
use Rattle.std.specs.Prelude.{◌==◌, not, nat_le}
use Rattle.std.specs.Char.{is_ascii_digit}
use Rattle.std.specs.Fmt.{decimal}
use Rattle.std.specs.List.{list_all, prefix_len}
use Rattle.std.proofs.lemmas.Bool.{eqb-true}
use Rattle.std.proofs.lemmas.Fmt.{decimal_nonempty}
use Rattle.chi_core.specs.declared.label.Label.{Label}
use Rattle.chi_core.specs.declared.label.Label.TheVariants.{Local, Pair, Wake, Join, Advance}
use Rattle.chi_num.specs.Decimal.{AreDigits, sign_text, point_and}
use Rattle.chi_num.specs.ReadReal.{IsDecimal}
use Rattle.chi_num.specs.RealText.{real_text_of}
use Rattle.chi_num.proofs.ReadBack.{real_text_means}
use Rattle.chi_trace.specs.declared.event.Event.{Event}
use Rattle.chi_trace.specs.Events.{IsEvent, IsNumbered}
use Rattle.chi_trace.specs.Lines.{label_parts, spaced, event_text_1}
use Rattle.chi_trace.specs.Ends.{is_line_byte, OneLine, IsCut}
use Rattle.chi_trace.specs.Logs.{ended, is_one_line, begins_small}
use Rattle.chi_trace.proofs.Cuts.{and_both, both_and}
use Rattle.chi_trace.proofs.Numbers.{digits-decimal}

-- bytes that pass a test which a line feed fails
pub other_byte : (test : ℕ → Bool) → test 10 ≡ false → (c : ℕ) → test c ≡ true → not (c == 10) ≡ true
other_byte test fails c passes = by (c == 10) refl
  where
    by : (b : Bool) → (c == 10) ≡ b → not (c == 10) ≡ true
    by false q = rw q refl
    by true q = let same : c ≡ 10 = eqb-true c 10 q in let no : true ≡ false = sym passes ∙ ap test same ∙ fails in absurd (cc)

pub one_line_of : (test : ℕ → Bool) → test 10 ≡ false → (xs : List ℕ) → list_all test xs ≡ true → OneLine xs
one_line_of test fails [] e = refl
one_line_of test fails (c ∷ cs) e =
    let both = and_both (test c) (list_all test cs) e in
    both_and (not (c == 10)) (is_one_line cs) (other_byte test fails c both.0) (one_line_of test fails cs both.1)

pub one-append : (xs ys : List ℕ) → OneLine xs → OneLine ys → OneLine (xs ++ ys)
one-append [] ys x y = y
one-append (c ∷ cs) ys x y =
    let both = and_both (not (c == 10)) (is_one_line cs) x in
    both_and (not (c == 10)) (is_one_line (cs ++ ys)) both.0 (one-append cs ys both.1 y)

pub one_digits : (ds : List ℕ) → AreDigits ds → OneLine ds
one_digits ds are = one_line_of is_ascii_digit refl ds are

one_decimal : (n : ℕ) → n < 2 ^ 64 → OneLine (decimal n)
one_decimal n small = one_digits (decimal n) (digits-decimal n small)

one_number : (n : ℕ) → n < 2 ^ 32 → OneLine (decimal n)
one_number n small = one_decimal n (omega arith)

sign_one : (minus : Bool) → OneLine (sign_text minus)
sign_one true = refl
sign_one false = refl

pub point_one : (fraction : List ℕ) → AreDigits fraction → OneLine (point_and fraction)
point_one [] are = refl
point_one (c ∷ cs) are = one_digits (c ∷ cs) are

spelled_one : (text : List ℕ) (minus : Bool) (whole fraction : List ℕ) → IsDecimal text minus whole fraction → OneLine text
spelled_one text minus whole fraction i =
    rw i.spelled
    (one-append (sign_text minus ++ whole) (point_and fraction)
    (one-append (sign_text minus) whole (sign_one minus) (one_digits whole i.digits)) (point_one fraction i.decimals))

one_time : (z : ℤ) → FitsSigned w64 z → OneLine (real_text_of z)
one_time z fits = let m = real_text_means z fits in spelled_one (real_text_of z) m.0 m.1.0 m.1.1.0 m.1.1.1.0

-- a part after a space
one_part : (part more : List ℕ) → OneLine part → OneLine more → OneLine (32 ∷ (part ++ more))
one_part part more p m = one-append part more p m

one_label : (l : Label) (clock : ℤ) → IsNumbered l → FitsSigned w64 clock → OneLine (spaced (label_parts l clock))
one_label (Local p) clock n fits = one_part (decimal p) [] (one_number p n) refl
one_label (Pair p a q b) clock n fits =
    one_part (decimal p) _ (one_number p n.0) (one_part (decimal a) _ (one_number a n.1)
    (one_part (decimal q) _ (one_number q n.2) (one_part (decimal b) [] (one_number b n.3) refl)))
one_label (Wake p a) clock n fits = one_part (decimal p) _ (one_number p n.0) (one_part (decimal a) [] (one_number a n.1) refl)
one_label (Join p) clock n fits = one_part (decimal p) [] (one_number p n) refl
one_label Advance clock n fits = one_part (real_text_of clock) [] (one_time clock fits) refl

pub one_event_line : (e : Event) → IsEvent e → OneLine (event_text_1 e)
unfolding event_text_1
one_event_line e i = one-append (decimal e.turn) (spaced (label_parts e.label e.clock)) (one_decimal e.turn i.turn) (one_label e.label e.clock i.label i.clock)

-- digits don't begin with a letter
digit_small : (c : ℕ) → is_ascii_digit c ≡ true → (nat_le 97 c && nat_le c 122) ≡ false
digit_small c is = grind arith

digits_small : (ds more : List ℕ) → AreDigits ds → ds ≢ [] → begins_small (ds ++ more) ≡ false
digits_small [] more are some = absurd (some refl)
digits_small (c ∷ cs) more are some = digit_small c (and_both (is_ascii_digit c) (list_all is_ascii_digit cs) are).0

digits_some : (n : ℕ) → n < 2 ^ 64 → decimal n ≢ []
digits_some n small none = let some = decimal_nonempty n small in let same : length (decimal n) ≡ 0 = ap length none in omega arith

pub event_small : (e : Event) → IsEvent e → begins_small (event_text_1 e) ≡ false
unfolding event_text_1
event_small e i = digits_small (decimal e.turn) (spaced (label_parts e.label e.clock)) (digits-decimal e.turn i.turn) (digits_some e.turn i.turn)

-- a line feed ends one line

abbrev pub head_of : List ℕ → ℕ
head_of [] = 0
head_of (c ∷ cs) = c

abbrev pub tail_of : List ℕ → List ℕ
tail_of [] = []
tail_of (c ∷ cs) = cs

feeds : (c : ℕ) (cs : List ℕ) → OneLine (c ∷ cs) → c ≡ 10 → ⊥
feeds c cs one is =
    let first = (and_both (not (c == 10)) (is_one_line cs) one).0 in
    let same : not (c == 10) ≡ false = ap (λ b. not (b == 10)) is in
    cc

pub cut : (xs ys more rest : List ℕ) → OneLine xs → OneLine ys → ended xs ++ more ≡ ended ys ++ rest → (xs ≡ ys) × (more ≡ rest)
cut [] [] more rest x y e = (refl, ap tail_of e)
cut [] (d ∷ ds) more rest x y e = absurd (feeds d ds y (sym (ap head_of e)))
cut (c ∷ cs) [] more rest x y e = absurd (feeds c cs x (ap head_of e))
cut (c ∷ cs) (d ∷ ds) more rest x y e =
    let both = cut cs ds more rest (and_both (not (c == 10)) (is_one_line cs) x).1 (and_both (not (d == 10)) (is_one_line ds) y).1 (ap tail_of e) in
    ((λ i. ap head_of e i ∷ both.0 i), both.1)

-- with no line feed there is no line
pub no_line : (line more text : List ℕ) → OneLine text → text ≢ ended line ++ more
no_line [] more [] one e = cc
no_line [] more (c ∷ cs) one e = feeds c cs one (ap head_of e)
no_line (d ∷ ds) more [] one e = cc
no_line (d ∷ ds) more (c ∷ cs) one e = no_line ds more cs (and_both (not (c == 10)) (is_one_line cs) one).1 (ap tail_of e)

-- the bytes up to the first line feed

front_one : (text : List ℕ) → OneLine (take (prefix_len is_line_byte text) text)
front_one [] = refl
front_one (c ∷ cs) =
    subst (λ k. OneLine (take (cond (not (c == 10)) k 0) (c ∷ cs))) (sym (one-add (prefix_len is_line_byte cs))) (by (not (c == 10)) refl (front_one cs))
  where
    by : (b : Bool) → not (c == 10) ≡ b → OneLine (take (prefix_len is_line_byte cs) cs) → OneLine (take (cond b (suc (prefix_len is_line_byte cs)) 0) (c ∷ cs))
    by true q more = both_and (not (c == 10)) (is_one_line (take (prefix_len is_line_byte cs) cs)) q more
    by false q more = refl

pub whole_one : (text : List ℕ) → drop (prefix_len is_line_byte text) text ≡ [] → OneLine text
whole_one [] e = refl
whole_one (c ∷ cs) e =
    by (not (c == 10)) refl (whole_one cs) (subst (λ k. drop (cond (not (c == 10)) k 0) (c ∷ cs) ≡ []) (one-add (prefix_len is_line_byte cs)) e)
  where
    by : (b : Bool) → not (c == 10) ≡ b → (drop (prefix_len is_line_byte cs) cs ≡ [] → OneLine cs)
        → drop (cond b (suc (prefix_len is_line_byte cs)) 0) (c ∷ cs) ≡ [] → OneLine (c ∷ cs)
    by true q more f = both_and (not (c == 10)) (is_one_line cs) q (more f)
    by false q more f = absurd (cc)

front_cut : (text more : List ℕ) (d : ℕ) → drop (prefix_len is_line_byte text) text ≡ d ∷ more → text ≡ ended (take (prefix_len is_line_byte text) text) ++ more
front_cut [] more d e = absurd (cc)
front_cut (c ∷ cs) more d e =
    subst (λ k. (c ∷ cs) ≡ ended (take (cond (not (c == 10)) k 0) (c ∷ cs)) ++ more) (sym (one-add (prefix_len is_line_byte cs)))
    (by (not (c == 10)) refl (front_cut cs more d)
    (subst (λ k. drop (cond (not (c == 10)) k 0) (c ∷ cs) ≡ d ∷ more) (one-add (prefix_len is_line_byte cs)) e))
  where
    by : (b : Bool) → not (c == 10) ≡ b
        → (drop (prefix_len is_line_byte cs) cs ≡ d ∷ more → cs ≡ ended (take (prefix_len is_line_byte cs) cs) ++ more)
        → drop (cond b (suc (prefix_len is_line_byte cs)) 0) (c ∷ cs) ≡ d ∷ more
        → (c ∷ cs) ≡ ended (take (cond b (suc (prefix_len is_line_byte cs)) 0) (c ∷ cs)) ++ more
    by true q go f = ap (λ l. c ∷ l) (go f)
    by false q go f = feed (c == 10) refl q
      where
        feed : (b : Bool) → (c == 10) ≡ b → not (c == 10) ≡ false → (c ∷ cs) ≡ 10 ∷ more
        feed true r s = λ i. eqb-true c 10 r i ∷ ap tail_of f i
        feed false r s = let same : not (c == 10) ≡ true = ap not r in absurd (cc)

pub line_cut : (text more : List ℕ) (d : ℕ) → drop (prefix_len is_line_byte text) text ≡ d ∷ more → IsCut text (take (prefix_len is_line_byte text) text) more
line_cut text more d e = record { one_line = front_one text; is = front_cut text more d e }

-- a text has a line or not
pub parted : (text : List ℕ) → OneLine text ⊎ ((line : List ℕ) × (more : List ℕ) × IsCut text line more)
parted text = by (drop (prefix_len is_line_byte text) text) refl
  where
    by : (rest : List ℕ) → drop (prefix_len is_line_byte text) text ≡ rest → OneLine text ⊎ ((line : List ℕ) × (more : List ℕ) × IsCut text line more)
    by [] e = inl (whole_one text e)
    by (d ∷ more) e = inr (take (prefix_len is_line_byte text) text, more, line_cut text more d e)

pub none_left : (xs : List ℕ) → length xs ≡ 0 → xs ≡ []
none_left [] e = refl
none_left (x ∷ xs) e = absurd (omega arith)

pub some_left : (xs : List ℕ) → (length xs == 0) ≡ false → xs ≢ []
some_left xs some none = let is : (length xs == 0) ≡ true = ap (λ l. length l == 0) none in cc
