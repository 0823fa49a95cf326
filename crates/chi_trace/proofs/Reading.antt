-- What the calls answer, step by step, is what the line tells.
use Rattle.std.proofs.Common.{◌≡◌, ℕ, ◌+◌, ◌^◌, ◌/◌, ◌<◌, ◌≤◌, Bool, true, false, cond, List, [], ◌∷◌, ◌++◌, length, drop, bytes_eq, refl, ap, sym, subst, ◌∙◌, Option, Some, None, Result, Ok, Err, ℤ, pos, int_lt, nat_abs, Bor, arith, append_assoc}
use Rattle.std.specs.Prelude.{option_and_then}
use Rattle.std.specs.Result.{MatchResult, result_ok}
use Rattle.std.specs.Str.{IsUtf8}
use Rattle.std.proofs.Math.Seq.{drop-append_seam}
use Rattle.chi_num.specs.Decimal.{last_digits, sign_text, point_and}
use Rattle.std.specs.Fmt.{decimal}
use Rattle.std.specs.Str.Parse.{ParsesUnsigned}
use Rattle.std.proofs.lemmas.Fmt.{IsAscii-decimal, parse-decimal}
use Rattle.std.proofs.lemmas.Str.{IsUtf8-from_ascii}
use Rattle.chi_core.specs.declared.label.Label.{Label}
use Rattle.chi_num.specs.declared.read.fault.ReadFault.{ReadFault}
use Rattle.chi_num.specs.RealText.{real_text_of, trimmed}
use Rattle.chi_num.specs.TextNumbers.{Meant, means, no_form, out_of_range, real_meant, answer_of}
use Rattle.chi_trace.specs.declared.event.Detail.{Detail}
use Rattle.chi_trace.specs.declared.event.Event.{Event}
use Rattle.chi_trace.specs.Lines.{IsLine, IsLine1}
use Rattle.chi_trace.specs.Told.{number_told, time_told, canonical_units, head_told, detail_told, event_of, event_told, event_told_1}
use Rattle.chi_trace.proofs.Cuts.{some_same}
use Rattle.chi_trace.proofs.Back.{event_back, event_back_1}
use Rattle.chi_trace.proofs.LineLaws.{read_line, read_line_1}
use Rattle.chi_trace.proofs.Numbers.{are_same, same_bytes, number_forth, number_back, time_of, time_back}

-- ---- numbers

not_told : (bound : ℕ) (text : List ℕ) → ((n : ℕ) → n < bound → text ≡ decimal n → ⊥) → number_told bound text ≡ None
not_told bound text never = by (number_told bound text) refl
  where
    by : (o : Option ℕ) → number_told bound text ≡ o → o ≡ None
    by None q = refl
    by (Some n) q = let is = number_back bound n text q in absurd (never n is.0 is.1)

pub not_utf8 : (text : List ℕ) → (IsUtf8 text → ⊥) → None ≡ number_told (2 ^ 64) text
not_utf8 text never =
    sym (not_told (2 ^ 64) text (λ n small e. never (subst (λ t. IsUtf8 t) (sym e) (IsUtf8-from_ascii (decimal n) (IsAscii-decimal n small)))))

-- a text that was taken for UTF-8 is the bytes
pub text_is : (E : Type 0) (Q : E → Type 0) (bytes : List ℕ) (r : Result (Bor (List ℕ)) E) (t : Bor (List ℕ))
    → MatchResult r (λ s. (s.now ≡ bytes) × IsUtf8 bytes) Q → Some t ≡ result_ok r → t.now ≡ bytes
text_is E Q bytes (Ok s) t m e = ap (λ (x : Bor (List ℕ)). x.now) (some_same t s e) ∙ m.0
text_is E Q bytes (Err f) t m e = absurd (cc)

pub not_parsed : (E : Type 0) (text : List ℕ) (r : Result ℕ E) → ParsesUnsigned 64 10 text r → None ≡ result_ok r → None ≡ number_told (2 ^ 64) text
not_parsed E text (Ok n) parses none = absurd (cc)
not_parsed E text (Err fault) parses none =
    sym (not_told (2 ^ 64) text (λ n small e. let is = parse-decimal {E = E} 64 n text (Err fault) small small e parses in absurd (cc)))

pub parsed_below : (E : Type 0) (text : List ℕ) (r : Result ℕ E) (n : ℕ) → ParsesUnsigned 64 10 text r → Some n ≡ result_ok r → n < 2 ^ 64
parsed_below E text (Ok k) n parses some =
    let same = some_same n k some in
    subst (λ m. m < 2 ^ 64) (sym (same ∙ parses.1)) parses.0.1
parsed_below E text (Err fault) n parses some = absurd (cc)

pub not_same : (E : Type 0) (text : List ℕ) (r : Result ℕ E) (n : ℕ) → ParsesUnsigned 64 10 text r → Some n ≡ result_ok r → bytes_eq text (decimal n) ≡ false
    → None ≡ number_told (2 ^ 64) text
not_same E text (Ok k) n parses some other =
    let same = some_same n k some in
    sym (not_told (2 ^ 64) text (λ m small e.
    let is = parse-decimal {E = E} 64 m text (Ok k) small small e parses in
    let value : k ≡ m = cc in
    let yes : bytes_eq text (decimal n) ≡ true = ap (λ x. bytes_eq text (decimal x)) (same ∙ value) ∙ ap (λ t. bytes_eq text t) (sym e) ∙ same_bytes text in
    absurd (cc)))
not_same E text (Err fault) n parses some other = absurd (cc)

pub told_same : (text : List ℕ) (n : ℕ) → n < 2 ^ 64 → text ≡ decimal n → Some n ≡ number_told (2 ^ 64) text
told_same text n small e = sym (ap (λ t. number_told (2 ^ 64) t) e ∙ number_forth (2 ^ 64) n small (omega arith))

pub less_told : (text : List ℕ) → None ≡ number_told (2 ^ 64) text → None ≡ number_told (2 ^ 32) text
less_told text none =
    sym (not_told (2 ^ 32) text (λ n small e.
    let is = ap (λ t. number_told (2 ^ 64) t) e ∙ number_forth (2 ^ 64) n (omega arith) (omega arith) in
    let no : ◌≡◌ {A = Option ℕ} None (Some n) = none ∙ is in
    absurd (cc)))

pub past_told : (text : List ℕ) (n : ℕ) → Some n ≡ number_told (2 ^ 64) text → 2 ^ 32 ≤ n → None ≡ number_told (2 ^ 32) text
past_told text n told past =
    sym (not_told (2 ^ 32) text (λ m small e.
    let is = ap (λ t. number_told (2 ^ 64) t) e ∙ number_forth (2 ^ 64) m (omega arith) (omega arith) in
    let both : Some n ≡ Some m = told ∙ is in
    let same : n ≡ m = cc in
    absurd (omega (arith, same, small, past))))

pub small_told : (text : List ℕ) (n : ℕ) → Some n ≡ number_told (2 ^ 64) text → n < 2 ^ 32 → Some n ≡ number_told (2 ^ 32) text
small_told text n told small =
    let is = number_back (2 ^ 64) n text (sym told) in
    sym (ap (λ t. number_told (2 ^ 32) t) is.1 ∙ number_forth (2 ^ 32) n small (omega arith))

-- ---- times

meant_so : (m : Meant) (z : ℤ) → answer_of m ≡ Ok z → m ≡ means z
meant_so (means y) z e = let same : y ≡ z = cc in ap (λ x. means x) same
meant_so no_form z e = absurd (cc)
meant_so out_of_range z e = absurd (cc)

not_meant : (m : Meant) (text : List ℕ) (fault : ReadFault) → answer_of m ≡ Err fault → canonical_units m text ≡ None
not_meant (means y) text fault e = absurd (cc)
not_meant no_form text fault e = refl
not_meant out_of_range text fault e = refl

pub time_not_read : (text : List ℕ) (fault : ReadFault) → Err fault ≡ answer_of (real_meant text) → None ≡ time_told text
unfolding time_told
time_not_read text fault e = sym (not_meant (real_meant text) text fault (sym e))

differ : (xs ys : List ℕ) → (ys ≡ xs → ⊥) → bytes_eq xs ys ≡ false
differ xs ys other = by (bytes_eq xs ys) refl
  where
    by : (b : Bool) → bytes_eq xs ys ≡ b → b ≡ false
    by false q = refl
    by true q = absurd (other (sym (are_same xs ys q)))

pub time_of_other : (text : List ℕ) (z : ℤ) → Ok z ≡ answer_of (real_meant text) → (text ≡ real_text_of z → ⊥) → None ≡ time_told text
unfolding time_told
time_of_other text z e other =
    sym (ap (λ (m : Meant). canonical_units m text) (meant_so (real_meant text) z (sym e))
    ∙ ap (λ b. cond b (Some z) None) (differ (real_text_of z) text other))

pub time_of_this : (text : List ℕ) (z : ℤ) → Ok z ≡ answer_of (real_meant text) → text ≡ real_text_of z → Some z ≡ time_told text
time_of_this text z e same =
    sym (time_of text z (meant_so (real_meant text) z (sym e)) (ap (λ t. bytes_eq t text) (sym same) ∙ same_bytes text))

-- ---- the text of a time, part by part

pointed : (n : ℕ) → point_and (trimmed (last_digits 9 n)) ≡ 46 ∷ trimmed (last_digits 9 n)
unfolding trimmed last_digits
pointed n = refl

fraction_is : (s w fraction t text : List ℕ) → text ≡ s ++ (w ++ fraction) → text ≡ s ++ w ++ t → fraction ≡ t
fraction_is s w fraction t text e f =
    sym (drop-append_seam (s ++ w) fraction)
    ∙ ap (λ x. drop (length (s ++ w)) x) (append_assoc s w fraction ∙ sym e ∙ f)
    ∙ drop-append_seam (s ++ w) t

-- a text, cut after its sign and its whole part
pub record IsCut (units : ℤ) (text fraction : List ℕ) : Type 0 where
  pub cut : text ≡ sign_text (int_lt units (pos 0)) ++ (decimal (nat_abs units / 1_000_000_000) ++ fraction)

pub cut_so : (units : ℤ) (text sign unsigned whole fraction : List ℕ) → text ≡ sign ++ unsigned → unsigned ≡ whole ++ fraction
    → sign ≡ sign_text (int_lt units (pos 0)) → whole ≡ decimal (nat_abs units / 1_000_000_000) → IsCut units text fraction
cut_so units text sign unsigned whole fraction e f s w = record {
  cut = e ∙ ap (λ x. sign ++ x) f ∙ ap (λ x. x ++ (whole ++ fraction)) s ∙ ap (λ x. sign_text (int_lt units (pos 0)) ++ (x ++ fraction)) w;
}

cut_is : (units : ℤ) (text fraction : List ℕ) → IsCut units text fraction → text ≡ real_text_of units → fraction ≡ 46 ∷ trimmed (last_digits 9 (nat_abs units))
cut_is units text fraction c e =
    fraction_is (sign_text (int_lt units (pos 0))) (decimal (nat_abs units / 1_000_000_000)) fraction (46 ∷ trimmed (last_digits 9 (nat_abs units))) text c.cut
    (e ∙ ap (λ x. sign_text (int_lt units (pos 0)) ++ decimal (nat_abs units / 1_000_000_000) ++ x) (pointed (nat_abs units)))

pub no_point : (units : ℤ) (text fraction : List ℕ) → IsCut units text fraction → ((rest : List ℕ) → fraction ≡ 46 ∷ rest → ⊥) → text ≡ real_text_of units → ⊥
no_point units text fraction c none e = none (trimmed (last_digits 9 (nat_abs units))) (cut_is units text fraction c e)

pub is_text : (units : ℤ) (text fraction decimals kept : List ℕ) (b : Bool) → IsCut units text fraction → fraction ≡ 46 ∷ decimals
    → kept ≡ trimmed (last_digits 9 (nat_abs units)) → b ≡ bytes_eq decimals kept → (b ≡ true → text ≡ real_text_of units) × (text ≡ real_text_of units → b ≡ true)
is_text units text fraction decimals kept b c f k is =
    let s = sign_text (int_lt units (pos 0)) in
    let w = decimal (nat_abs units / 1_000_000_000) in
    let t = trimmed (last_digits 9 (nat_abs units)) in (
      (λ yes.
          let same : decimals ≡ t = are_same decimals kept (sym is ∙ yes) ∙ k in
          c.cut ∙ ap (λ x. s ++ (w ++ x)) (f ∙ ap (λ x. 46 ∷ x) same) ∙ sym (append_assoc s w (46 ∷ t)) ∙ ap (λ x. s ++ w ++ x) (sym (pointed (nat_abs units)))),
      (λ e.
          let tail : 46 ∷ decimals ≡ 46 ∷ t = sym f ∙ cut_is units text fraction c e in
          let same : decimals ≡ t = ap (λ xs. drop 1 xs) tail in
          is ∙ ap (λ x. bytes_eq x kept) (same ∙ sym k) ∙ same_bytes kept),
    )

-- ---- whole lines

event_none : (text : List ℕ) → None ≡ head_told text → event_told text ≡ None
unfolding event_told
event_none text none =
    ap (λ (o : Option ((ℕ × Label × ℤ) × List ℕ)). option_and_then (λ head. option_and_then (λ detail. Some (event_of head.0 detail)) (detail_told head.0.1 head.1)) o)
    (sym none)

event_some : (text left : List ℕ) (h : ℕ × Label × ℤ) → Some (h, left) ≡ head_told text
    → event_told text ≡ option_and_then (λ detail. Some (event_of h detail)) (detail_told h.1 left)
unfolding event_told
event_some text left h some =
    ap (λ (o : Option ((ℕ × Label × ℤ) × List ℕ)). option_and_then (λ head. option_and_then (λ detail. Some (event_of head.0 detail)) (detail_told head.0.1 head.1)) o)
    (sym some)

never : {A : Type 0} (o : Option A) (a : A) → o ≡ None → o ≡ Some a → ⊥
never {A} o a none some = let no : ◌≡◌ {A = Option A} None (Some a) = sym none ∙ some in absurd (cc)

pub no_head : (text : List ℕ) → None ≡ head_told text → (e : Event) → IsLine text e → ⊥
no_head text none e i = never (event_told text) e (event_none text none) (read_line text e i)

pub no_detail : (text left : List ℕ) (h : ℕ × Label × ℤ) → Some (h, left) ≡ head_told text → detail_told h.1 left ≡ None → (e : Event) → IsLine text e → ⊥
no_detail text left h head none e i =
    never (event_told text) e (event_some text left h head ∙ ap (λ (o : Option Detail). option_and_then (λ detail. Some (event_of h detail)) o) none)
    (read_line text e i)

pub is_line : (text left : List ℕ) (h : ℕ × Label × ℤ) (d : Detail) → Some (h, left) ≡ head_told text → detail_told h.1 left ≡ Some d → IsLine text (event_of h d)
is_line text left h d head some =
    event_back text (event_of h d)
    (event_some text left h head ∙ ap (λ (o : Option Detail). option_and_then (λ detail. Some (event_of h detail)) o) some)

pub is_line_1 : (text : List ℕ) (e : Event) → Some e ≡ event_told_1 text → IsLine1 text e
is_line_1 text e some = event_back_1 text e (sym some)

pub no_line_1 : (text : List ℕ) → None ≡ event_told_1 text → (e : Event) → IsLine1 text e → ⊥
no_line_1 text none e i = never (event_told_1 text) e (sym none) (read_line_1 text e i)
