-- A part that stands at the front of a text is the one that is read there.
use Rattle.std.proofs.Common.{◌≡◌, ℕ, zero, suc, ◌+◌, ◌-◌, ◌^◌, ◌<◌, ◌≤◌, nat_le, Bool, true, false, ◌&&◌, cond, Option, Some, None, ◌⊎◌, inl, inr, List, [], ◌∷◌, ◌++◌, length, take, drop, get_or, codes, refl, sym, ◌∙◌, ap, subst, arith, rules}
use Rattle.std.specs.Prelude.{◌==◌, ◌≢◌, is_some, unwrap_or}
use Rattle.std.specs.Char.{is_ascii_digit}
use Rattle.std.specs.Fmt.{decimal}
use Rattle.std.specs.List.{list_all, prefix_len}
use Rattle.std.specs.Option.{option_and_then}
use Rattle.std.proofs.Math.Seq.{take-append_seam, drop-append_seam}
use Rattle.std.proofs.lemmas.Bool.{false≢true, and_parts, ne_eqb, eq-eqb, eqb-true, leb-true, cases_lt}
use Rattle.std.proofs.lemmas.Fmt.{digits_decimal, digits_value-decimal, decimal_digit, first_decimal, decimal-digits_value}
use Rattle.std.proofs.lemmas.List.{append_assoc, length-append, take-append-drop}
use Rattle.chi_num.specs.Decimal.{AreDigits, IsAfterDigits, number_of}
use Rattle.chi_num.proofs.Decimal.{numerals, front_digits, after_front_digits, front_within}
use Rattle.chi_value.specs.declared.format.Field.{Field}
use Rattle.chi_value.specs.declared.format.Piece.{Piece}
use Rattle.chi_value.specs.declared.format.Piece.TheVariants.{Any, Whole, Fixed}
use Rattle.chi_format.specs.FormatCodes.{Part, byte, percent, any_code, whole_code, fixed_code, six_code, side_text, width_text, field_text, part_text, IsPart}
use Rattle.chi_format.specs.Front.{Front, taking, at_most, width_of, point_after, letter_after, field_after, side_after, percent_after, next_part}
use Rattle.chi_format.specs.SoFar.{is_front}
use Rattle.chi_format.specs.declared.reading.front.Taken.{Taken}
use Rattle.chi_format.specs.declared.reading.front.Taken.TheVariants.{Byte, Code}

-- what is taken of a part
abbrev pub taken_of : Part → Taken
taken_of (byte b) = Byte b
taken_of percent = Byte 37
taken_of (any_code field) = Code (Any field)
taken_of (whole_code field) = Code (Whole field)
taken_of (fixed_code field k) = Code (Fixed field k)
taken_of (six_code field) = Code (Fixed field 6)

-- a part at the front is read

-- digits before another byte are all that stand at the front
digits_front : (ds : List ℕ) (c : ℕ) (cs : List ℕ) → AreDigits ds → is_ascii_digit c ≡ false → prefix_len is_ascii_digit (ds ++ c ∷ cs) ≡ length ds
digits_front [] c cs are other = ap (λ b. cond b (1 + prefix_len is_ascii_digit cs) 0) other
digits_front (d ∷ ds) c cs are other =
    let split = and_parts (is_ascii_digit d) (list_all is_ascii_digit ds) are in
    let rest = digits_front ds c cs split.1 other in
    ap (λ b. cond b (1 + prefix_len is_ascii_digit (ds ++ c ∷ cs)) 0) split.0 ∙ omega (arith, rest)

small : (n most : ℕ) → n ≤ most → at_most most n ≡ Some n
small n most le = let is : nat_le n most ≡ true = search rules in rw is refl

-- a width above 0 is written in decimal
width_some : (w : ℕ) → 0 < w → width_text w ≡ decimal w
width_some w some = rw (ne_eqb w 0 (λ e. omega (arith, some, e))) refl

width_digits : (w : ℕ) → w ≤ 255 → AreDigits (width_text w)
width_digits zero le = refl
width_digits (suc w) le = subst AreDigits (sym (width_some (suc w) (omega arith))) (digits_decimal numerals (suc w) (omega (arith, le)))

-- digits with a first one above 0
first_above : (ds : List ℕ) (n : ℕ) → 48 < get_or ds 0 0 → number_of ds ≡ n → n ≤ 255 → width_of ds ≡ Some n
unfolding width_of
first_above [] n above is le = absurd (omega (arith, above))
first_above (d ∷ ds) n above is le =
    let other : (d == 48) ≡ false = ne_eqb d 48 (λ e. omega (arith, above, e)) in
    rw (other, is) (small n 255 le)

width_read : (w : ℕ) → w ≤ 255 → width_of (width_text w) ≡ Some w
unfolding width_of
width_read zero le = refl
width_read (suc w) le =
    ap width_of (width_some (suc w) (omega arith))
    ∙ first_above (decimal (suc w)) (suc w) (first_decimal (suc w) (omega arith) (omega (arith, le)))
    (digits_value-decimal numerals (suc w) (omega (arith, le))) le

side_read : (left : Bool) (w c : ℕ) (cs : List ℕ) → w ≤ 255 → is_ascii_digit c ≡ false
    → side_after left (width_text w ++ c ∷ cs) ≡ field_after (record { left = left; width = w }) (c ∷ cs)
unfolding side_after
side_read left w c cs le other =
    let front = digits_front (width_text w) c cs (width_digits w le) other in
    rw (front, take-append_seam (width_text w) (c ∷ cs), drop-append_seam (width_text w) (c ∷ cs), width_read w le) refl

-- a first digit above 0 is neither a percent sign nor a minus
digit_first : (ds rest : List ℕ) → 48 < get_or ds 0 0 → percent_after (ds ++ rest) ≡ side_after false (ds ++ rest)
unfolding percent_after
digit_first [] rest above = absurd (omega (arith, above))
digit_first (d ∷ ds) rest above =
    let sign : (d == 37) ≡ false = ne_eqb d 37 (λ e. omega (arith, above, e)) in
    let minus : (d == 45) ≡ false = ne_eqb d 45 (λ e. omega (arith, above, e)) in
    rw (sign, minus) refl

field_read : (left : Bool) (w c : ℕ) (cs : List ℕ) → w ≤ 255 → is_ascii_digit c ≡ false → (c == 37) ≡ false → (c == 45) ≡ false
    → percent_after (side_text left ++ (width_text w ++ c ∷ cs)) ≡ field_after (record { left = left; width = w }) (c ∷ cs)
unfolding percent_after
field_read true w c cs le other sign minus = side_read true w c cs le other
field_read false zero c cs le other sign minus = rw (sign, minus) (side_read false zero c cs le other)
field_read false (suc w) c cs le other sign minus =
    ap (λ t. percent_after (t ++ c ∷ cs)) (width_some (suc w) (omega arith))
    ∙ digit_first (decimal (suc w)) (c ∷ cs) (first_decimal (suc w) (omega arith) (omega (arith, le)))
    ∙ ap (λ t. side_after false (t ++ c ∷ cs)) (sym (width_some (suc w) (omega arith)))
    ∙ side_read false (suc w) c cs le other

regroup : (a b c d : List ℕ) → ((a ++ b) ++ c) ++ d ≡ a ++ (b ++ (c ++ d))
regroup a b c d = append_assoc (a ++ b) c d ∙ append_assoc a b (c ++ d)

-- a code is read: its field, and what comes after
code_read : (field : Field) (c : ℕ) (cs rest : List ℕ) → field.width ≤ 255 → is_ascii_digit c ≡ false → (c == 37) ≡ false → (c == 45) ≡ false
    → next_part ((field_text field ++ c ∷ cs) ++ rest) ≡ field_after field (c ∷ (cs ++ rest))
unfolding next_part
code_read field c cs rest le other sign minus =
    ap percent_after (regroup (side_text field.left) (width_text field.width) (c ∷ cs) rest)
    ∙ field_read field.left field.width c (cs ++ rest) le other sign minus

digit_of : (k : ℕ) → k ≤ 9 → is_ascii_digit (48 + k) ≡ true
digit_of k le = grind (arith)

pub part_read : (p : Part) (rest : List ℕ) → IsPart p → next_part (part_text p ++ rest) ≡ taking (taken_of p) rest
unfolding next_part percent_after field_after point_after
part_read (byte b) rest other = rw (ne_eqb b 37 other) refl
part_read percent rest is = refl
part_read (any_code field) rest le = code_read field 115 [] rest le refl refl refl
part_read (whole_code field) rest le = code_read field 100 [] rest le refl refl refl
part_read (fixed_code field k) rest le =
    ap (λ t. next_part (t ++ rest)) (append_assoc (field_text field) (codes ".") ((48 + k) ∷ codes "f"))
    ∙ code_read field 46 ((48 + k) ∷ 102 ∷ []) rest le.0 refl refl refl
    ∙ rw (digit_of k le.1) (let same : (48 + k) - 48 ≡ k = omega arith in ap (λ n. taking (Code (Fixed field n)) rest) same)
part_read (six_code field) rest le = code_read field 102 [] rest le refl refl refl

-- what is read is a part at the front

pub record Begins (text : List ℕ) (t : Taken) (rest : List ℕ) : Type 0 where
  pub part : Part
  pub is_part : IsPart part
  pub spelled : text ≡ part_text part ++ rest
  pub taken : taken_of part ≡ t

pub nothing : {A : Type 0} {x : A} → None ≡ Some x → ⊥
nothing h = false≢true (ap is_some h)

injective : {A : Type 0} (d : A) {x y : A} → Some x ≡ Some y → x ≡ y
injective d h = ap (λ o. unwrap_or o d) h

pub read_pair : {t u : Taken} {x y : List ℕ} → taking t x ≡ taking u y → (t ≡ u) × (x ≡ y)
read_pair {t} {u} {x} {y} h =
    let d : Taken × List ℕ = (t, x) in
    let e = injective d h in
    (ap (λ (p : Taken × List ℕ). p.0) e, ap (λ (p : Taken × List ℕ). p.1) e)

-- what comes after a field
record Tail (field : Field) (text : List ℕ) (t : Taken) (rest : List ℕ) : Type 0 where
  part : Part
  tail : List ℕ
  is_part : field.width ≤ 255 → IsPart part
  written : part_text part ≡ field_text field ++ tail
  spelled : text ≡ tail ++ rest
  taken : taken_of part ≡ t

digit_bounds : (k : ℕ) → is_ascii_digit k ≡ true → (48 ≤ k) × (k ≤ 57)
digit_bounds k h = let both = and_parts (nat_le 48 k) (nat_le k 57) h in (leb-true 48 k both.0, leb-true k 57 both.1)

point_sound : (field : Field) (text : List ℕ) (t : Taken) (rest : List ℕ) → point_after field text ≡ taking t rest → Tail field (46 ∷ text) t rest
unfolding point_after
point_sound field [] t rest h = absurd (nothing h)
point_sound field (k ∷ []) t rest h = absurd (nothing h)
point_sound field (k ∷ c ∷ cs) t rest h = by (is_ascii_digit k && c == 102) refl h
  where
    by : (b : Bool) → (is_ascii_digit k && c == 102) ≡ b → cond b (taking (Code (Fixed field (k - 48))) cs) None ≡ taking t rest → Tail field (46 ∷ k ∷ c ∷ cs) t rest
    by false e h = absurd (nothing h)
    by true e h =
        let parts = and_parts (is_ascii_digit k) (c == 102) e in
        let read = read_pair h in
        let bounds = digit_bounds k parts.0 in
        let digit : 48 + (k - 48) ≡ k = omega (arith, bounds.0) in
        let letter = eqb-true c 102 parts.1 in
        record {
          part = fixed_code field (k - 48);
          tail = 46 ∷ k ∷ 102 ∷ [];
          is_part = λ le. (le, omega (arith, bounds.1));
          written = append_assoc (field_text field) (codes ".") ((48 + (k - 48)) ∷ codes "f") ∙ ap (λ n. field_text field ++ 46 ∷ n ∷ 102 ∷ []) digit;
          spelled = λ i. 46 ∷ k ∷ letter i ∷ read.1 i;
          taken = read.0;
        }

-- a letter that ends a code
ends : (field : Field) (part : Part) (n c : ℕ) (cs : List ℕ) (t : Taken) (rest : List ℕ) → (field.width ≤ 255 → IsPart part)
    → part_text part ≡ field_text field ++ n ∷ [] → (c == n) ≡ true → taking (taken_of part) cs ≡ taking t rest → Tail field (c ∷ cs) t rest
ends field part n c cs t rest is written letter h =
    let read = read_pair h in
    let same = eqb-true c n letter in
    record { part = part; tail = n ∷ []; is_part = is; written = written; spelled = λ i. same i ∷ read.1 i; taken = read.0 }

letter_sound : (field : Field) (c : ℕ) (cs : List ℕ) (t : Taken) (rest : List ℕ) → letter_after field c cs ≡ taking t rest → Tail field (c ∷ cs) t rest
letter_sound field c cs t rest h = any (c == 115) refl h
  where
    point : (b : Bool) → (c == 46) ≡ b → cond b (point_after field cs) None ≡ taking t rest → Tail field (c ∷ cs) t rest
    point false e h = absurd (nothing h)
    point true e h = let same : 46 ≡ c = sym (eqb-true c 46 e) in subst (λ c. Tail field (c ∷ cs) t rest) same (point_sound field cs t rest h)

    six : (b : Bool) → (c == 102) ≡ b → cond b (taking (Code (Fixed field 6)) cs) (cond (c == 46) (point_after field cs) None) ≡ taking t rest → Tail field (c ∷ cs) t rest
    six false e h = point (c == 46) refl h
    six true e h = ends field (six_code field) 102 c cs t rest (λ le. le) refl e h

    whole : (b : Bool) → (c == 100) ≡ b
        → cond b (taking (Code (Whole field)) cs) (cond (c == 102) (taking (Code (Fixed field 6)) cs) (cond (c == 46) (point_after field cs) None)) ≡ taking t rest
        → Tail field (c ∷ cs) t rest
    whole false e h = six (c == 102) refl h
    whole true e h = ends field (whole_code field) 100 c cs t rest (λ le. le) refl e h

    any : (b : Bool) → (c == 115) ≡ b
        → cond b (taking (Code (Any field)) cs) (cond (c == 100) (taking (Code (Whole field)) cs) (cond (c == 102) (taking (Code (Fixed field 6)) cs) (cond (c == 46) (point_after field cs) None))) ≡ taking t rest
        → Tail field (c ∷ cs) t rest
    any false e h = whole (c == 100) refl h
    any true e h = ends field (any_code field) 115 c cs t rest (λ le. le) refl e h

field_sound : (field : Field) (text : List ℕ) (t : Taken) (rest : List ℕ) → field_after field text ≡ taking t rest → Tail field text t rest
unfolding field_after
field_sound field [] t rest h = absurd (nothing h)
field_sound field (c ∷ cs) t rest h = letter_sound field c cs t rest h

-- digits that begin with no 0 and write at most 255 are a width
width_sound : (ds : List ℕ) (w : ℕ) → AreDigits ds → width_of ds ≡ Some w → (w ≤ 255) × (ds ≡ width_text w)
unfolding width_of
width_sound [] w are h = let none : 0 ≡ w = injective 0 h in subst (λ w. (w ≤ 255) × ([] ≡ width_text w)) none (omega arith, refl)
width_sound (d ∷ ds) w are h = first (d == 48) refl h
  where
    some : d ≢ 48 → number_of (d ∷ ds) ≤ 255 → number_of (d ∷ ds) ≡ w → (w ≤ 255) × (d ∷ ds ≡ width_text w)
    some other le is =
        let spelled : decimal (number_of (d ∷ ds)) ≡ d ∷ ds =
        decimal-digits_value numerals (d ∷ ds) are (omega arith) (λ e. absurd (other e)) (omega (arith, le)) in
        let above : 0 < number_of (d ∷ ds) = elim (cases_lt 0 (number_of (d ∷ ds))) [
          | inl more ↦ more
          | inr none ↦
              let zero : number_of (d ∷ ds) ≡ 0 = omega (arith, none) in
              absurd (other (ap (λ (xs : List ℕ). get_or xs 0 0) (sym spelled ∙ ap decimal zero ∙ decimal_digit 0 (omega arith))))
        ] in
        subst (λ w. (w ≤ 255) × (d ∷ ds ≡ width_text w)) is (le, sym spelled ∙ sym (width_some (number_of (d ∷ ds)) above))

    last : d ≢ 48 → (b : Bool) → nat_le (number_of (d ∷ ds)) 255 ≡ b → cond b (Some (number_of (d ∷ ds))) None ≡ Some w → (w ≤ 255) × (d ∷ ds ≡ width_text w)
    last other false e h = absurd (nothing h)
    last other true e h = some other (leb-true (number_of (d ∷ ds)) 255 e) (injective 0 h)

    first : (b : Bool) → (d == 48) ≡ b → cond b None (at_most 255 (number_of (d ∷ ds))) ≡ Some w → (w ≤ 255) × (d ∷ ds ≡ width_text w)
    first true e h = absurd (nothing h)
    first false e h = last (λ same. false≢true (sym e ∙ eq-eqb d 48 same)) (nat_le (number_of (d ∷ ds)) 255) refl h

side_sound : (left : Bool) (text : List ℕ) (t : Taken) (rest : List ℕ) → side_after left text ≡ taking t rest → Begins (37 ∷ (side_text left ++ text)) t rest
unfolding side_after
side_sound left text t rest h = by (width_of (take (prefix_len is_ascii_digit text) text)) refl h
  where
    by : (o : Option ℕ) → width_of (take (prefix_len is_ascii_digit text) text) ≡ o
        → option_and_then (λ width. field_after (record { left = left; width = width }) (drop (prefix_len is_ascii_digit text) text)) o ≡ taking t rest
        → Begins (37 ∷ (side_text left ++ text)) t rest
    by None e h = absurd (nothing h)
    by (Some w) e h =
        let front = take (prefix_len is_ascii_digit text) text in
        let after = drop (prefix_len is_ascii_digit text) text in
        let width = width_sound front w (front_digits text) e in
        let field : Field = record { left = left; width = w } in
        let tail = field_sound field after t rest h in
        let whole : text ≡ width_text w ++ (tail.tail ++ rest) =
        sym (take-append-drop (prefix_len is_ascii_digit text) text) ∙ (λ i. width.1 i ++ tail.spelled i) in
        record {
          part = tail.part;
          is_part = tail.is_part width.0;
          spelled = ap (λ x. 37 ∷ (side_text left ++ x)) whole
              ∙ ap (λ x. 37 ∷ x) (sym (regroup (side_text left) (width_text w) tail.tail rest))
              ∙ ap (λ x. x ++ rest) (sym tail.written);
          taken = tail.taken;
        }

percent_sound : (text : List ℕ) (t : Taken) (rest : List ℕ) → percent_after text ≡ taking t rest → Begins (37 ∷ text) t rest
unfolding percent_after
percent_sound [] t rest h = absurd (nothing h)
percent_sound (c ∷ cs) t rest h = sign (c == 37) refl h
  where
    minus : (b : Bool) → (c == 45) ≡ b → cond b (side_after true cs) (side_after false (c ∷ cs)) ≡ taking t rest → Begins (37 ∷ c ∷ cs) t rest
    minus true e h = let same : 45 ≡ c = sym (eqb-true c 45 e) in subst (λ c. Begins (37 ∷ c ∷ cs) t rest) same (side_sound true cs t rest h)
    minus false e h = side_sound false (c ∷ cs) t rest h

    sign : (b : Bool) → (c == 37) ≡ b → cond b (taking (Byte 37) cs) (cond (c == 45) (side_after true cs) (side_after false (c ∷ cs))) ≡ taking t rest → Begins (37 ∷ c ∷ cs) t rest
    sign true e h =
        let read = read_pair h in
        let same = eqb-true c 37 e in
        record { part = percent; is_part = tt; spelled = λ i. 37 ∷ same i ∷ read.1 i; taken = read.0 }
    sign false e h = minus (c == 45) refl h

pub part_found : (text : List ℕ) (t : Taken) (rest : List ℕ) → next_part text ≡ taking t rest → Begins text t rest
unfolding next_part
part_found [] t rest h = absurd (nothing h)
part_found (c ∷ cs) t rest h = by (c == 37) refl h
  where
    by : (b : Bool) → (c == 37) ≡ b → cond b (percent_after cs) (taking (Byte c) cs) ≡ taking t rest → Begins (c ∷ cs) t rest
    by true e h = let same : 37 ≡ c = sym (eqb-true c 37 e) in subst (λ c. Begins (c ∷ cs) t rest) same (percent_sound cs t rest h)
    by false e h =
        let read = read_pair h in
        record { part = byte c; is_part = λ same. false≢true (sym e ∙ eq-eqb c 37 same); spelled = λ i. c ∷ read.1 i; taken = read.0 }

-- where nothing is read a percent sign stands, if there is anything
pub percent_stands : (text : List ℕ) → 0 < length text → next_part text ≡ None → (rest : List ℕ) × (text ≡ 37 ∷ rest)
unfolding next_part
percent_stands [] some h = absurd (omega (arith, some))
percent_stands (c ∷ cs) some h = by (c == 37) refl h
  where
    by : (b : Bool) → (c == 37) ≡ b → cond b (percent_after cs) (taking (Byte c) cs) ≡ None → (rest : List ℕ) × (c ∷ cs ≡ 37 ∷ rest)
    by true e h = (cs, ap (λ x. x ∷ cs) (eqb-true c 37 e))
    by false e h = absurd (nothing (sym h))

part_some : (p : Part) → 0 < length (part_text p)
part_some (byte b) = omega arith
part_some percent = omega arith
part_some (any_code field) = omega arith
part_some (whole_code field) = omega arith
part_some (fixed_code field k) = omega arith
part_some (six_code field) = omega arith

front_of : (p : Part) → is_front (taken_of p) ≡ true
front_of (byte b) = refl
front_of percent = refl
front_of (any_code field) = refl
front_of (whole_code field) = refl
front_of (fixed_code field k) = refl
front_of (six_code field) = refl

-- what is taken is a byte or a code, and less is left
pub taken_front : (text : List ℕ) (t : Taken) (rest : List ℕ) → next_part text ≡ taking t rest → is_front t ≡ true
taken_front text t rest h = let begins = part_found text t rest h in ap is_front (sym begins.taken) ∙ front_of begins.part

pub left_shorter : (text : List ℕ) (t : Taken) (rest : List ℕ) → next_part text ≡ taking t rest → length rest < length text
left_shorter text t rest h =
    let begins = part_found text t rest h in
    let sizes = ap length begins.spelled ∙ length-append (part_text begins.part) rest in
    let some = part_some begins.part in
    omega (arith, sizes, some)
