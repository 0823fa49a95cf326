-- The line of an event is one line, begins with a digit, and tells its label.
use Rattle.std.proofs.Common.{◌≡◌, ◌≢◌, ℕ, ℤ, pos, ◌<◌, true, List, [], ◌∷◌, ◌++◌, Option, Some, None, FitsSigned, w64, append_assoc, sym, ◌∙◌, ap, subst, refl, arith}
use Rattle.std.specs.Char.{is_ascii_digit}
use Rattle.std.specs.Fmt.{decimal}
use Rattle.std.specs.List.{list_all}
use Rattle.std.specs.Prelude.{◌&&◌, ◌==◌, nat_lt, not, bytes_eq, length, IsTrue, slice_get, option_map, option_and_then}
use Rattle.chi_num.specs.Decimal.{AreDigits}
use Rattle.chi_num.specs.RealText.{real_text_of}
use Rattle.chi_core.specs.declared.act.Act.{Act}
use Rattle.chi_core.specs.declared.act.Act.TheVariants.{Send}
use Rattle.chi_core.specs.declared.label.Label.{Label}
use Rattle.chi_core.specs.declared.label.Label.TheVariants.{Local, Pair, Wake, Join, Advance}
use Rattle.chi_core.specs.declared.program.Core.{Core}
use Rattle.chi_core.specs.Config.{Config, Offer}
use Rattle.chi_core.specs.Meeting.{offer_at}
use Rattle.chi_trace.specs.declared.event.Detail.{Detail}
use Rattle.chi_trace.specs.declared.event.Detail.TheVariants.{Unknown, Bare, At, Of, Sent}
use Rattle.chi_trace.specs.declared.event.Event.{Event}
use Rattle.chi_trace.specs.Ends.{OneLine}
use Rattle.chi_trace.specs.Events.{IsNumbered, is_value_text, unknown_part}
use Rattle.chi_trace.specs.Lines.{detail_parts, event_line, event_text, label_parts, spaced}
use Rattle.chi_trace.specs.Told.{label_told}
use Rattle.chi_trace.proofs.Cuts.{IsRest, and_both}
use Rattle.chi_trace.proofs.Forth.{label_forth}
use Rattle.chi_trace.proofs.OneLine.{head_of, one-append, tail_of}
use Rattle.chi_trace_events.specs.There.{IsThere}
use Rattle.chi_trace_events.specs.Traces.{detail_of, event_at, event_with, line_in, name_in, place_told, sending_told, sent_text, time_after}
use Rattle.chi_trace_events.proofs.Lines.{are_decimal, told_int, told_name, told_real}
use Rattle.chi_log.specs.Reading.{IsLine, IsLineOf}
use Rattle.chi_log.proofs.Lines.{line_of_one}

-- what the event of a label is made of
pub record Parts (core : Core) (turn : ℕ) (config : Config) (label : Label) (e : Event) : Type 0 where
  pub clock : ℤ
  pub detail : Detail
  pub is : e ≡ record { turn = turn; label = label; clock = clock; detail = detail }
  pub told : detail_of core config label ≡ Some detail

pub parts_of : (core : Core) (turn : ℕ) (config : Config) (label : Label) (e : Event) → event_at core turn config label ≡ Some e
    → Parts core turn config label e
parts_of core turn config label e is = by (time_after config label) (detail_of core config label) refl is
  where
    by : (clock : Option ℤ) (detail : Option Detail) → detail_of core config label ≡ detail → event_with turn label clock detail ≡ Some e
        → Parts core turn config label e
    by None detail told is' = absurd (cc)
    by (Some clock) None told is' = absurd (cc)
    by (Some clock) (Some detail) told is' = record { clock = clock; detail = detail; is = cc; told = told }

-- one line

number_line : (n : ℕ) → OneLine (decimal n)
number_line n = (told_int (pos n)).one

one_part : (part more : List ℕ) → OneLine part → OneLine more → OneLine (32 ∷ (part ++ more))
one_part part more p m = one-append part more p m

label_line : (label : Label) (clock : ℤ) → OneLine (spaced (label_parts label clock))
label_line (Local p) clock = one_part (decimal p) [] (number_line p) refl
label_line (Pair p a q b) clock =
    one_part (decimal p) _ (number_line p) (one_part (decimal a) _ (number_line a)
    (one_part (decimal q) _ (number_line q) (one_part (decimal b) [] (number_line b) refl)))
label_line (Wake p a) clock = one_part (decimal p) _ (number_line p) (one_part (decimal a) [] (number_line a) refl)
label_line (Join p) clock = one_part (decimal p) [] (number_line p) refl
label_line Advance clock = one_part (real_text_of clock) [] (told_real clock).one refl

place_line : (label : Label) (name : Option (List ℕ)) (line : Option ℕ) (detail : Detail) → ((n : List ℕ) → name ≡ Some n → OneLine n)
    → place_told name line ≡ Some detail → OneLine (spaced (detail_parts label detail))
place_line label None line detail named e = absurd (cc)
place_line label (Some name) None detail named e = absurd (cc)
place_line label (Some name) (Some line) detail named e =
    let same : At name line ≡ detail = cc in
    subst (λ (d : Detail). OneLine (spaced (detail_parts label d))) same
    (one_part name _ (named name refl) (one_part (decimal line) [] (number_line line) refl))

name_line : (label : Label) (name : Option (List ℕ)) (detail : Detail) → ((n : List ℕ) → name ≡ Some n → OneLine n)
    → option_map Of name ≡ Some detail → OneLine (spaced (detail_parts label detail))
name_line label None detail named e = absurd (cc)
name_line label (Some name) detail named e =
    let same : Of name ≡ detail = cc in
    subst (λ (d : Detail). OneLine (spaced (detail_parts label d))) same (one_part name [] (named name refl) refl)

value_line : (text : List ℕ) → IsTrue (is_value_text text) → OneLine text
value_line text is = (and_both (nat_lt 0 (length text) && not (bytes_eq text unknown_part)) (list_all (λ c. not (c == 10)) text) is).1

name_is : (name other : Option (List ℕ)) (n m : List ℕ) → name ≡ Some n → name ≡ Some m → OneLine n → OneLine m
name_is name other n m e f one = let same : n ≡ m = let both : Some n ≡ Some m = sym e ∙ f in cc in subst (λ (x : List ℕ). OneLine x) same one

detail_line : (core : Core) (config : Config) (label : Label) (detail : Detail) → IsThere core config label → detail_of core config label ≡ Some detail
    → OneLine (spaced (detail_parts label detail))
detail_line core config (Local p) detail there e =
    place_line (Local p) (name_in core (slice_get config.instances p)) (option_and_then (λ i. line_in i.term) (slice_get config.instances p)) detail
    (λ n is. name_is _ None there.0.0 n there.0.1 is (told_name there.0.0 there.0.2).one) e
detail_line core config (Pair p a q b) detail there e = by (offer_at (slice_get config.instances p) a) there.2 e
  where
    sends : (act : Act) → act ≡ Send there.0 there.1 → sending_told core.names.kinds act ≡ Some detail → OneLine (spaced (detail_parts (Pair p a q b) detail))
    sends act is e' =
        let told : Some (Sent there.0 (sent_text core.names.kinds there.1)) ≡ Some detail = sym (ap (sending_told core.names.kinds) is) ∙ e' in
        let same : Sent there.0 (sent_text core.names.kinds there.1) ≡ detail = cc in
        subst (λ (d : Detail). OneLine (spaced (detail_parts (Pair p a q b) d))) same
        (one_part (decimal there.0) _ (number_line there.0) (one_part (sent_text core.names.kinds there.1) [] (value_line (sent_text core.names.kinds there.1) there.3.text) refl))

    by : (o : Option Offer) → option_map (λ offer. offer.act) o ≡ Some (Send there.0 there.1)
        → option_and_then (λ offer. sending_told core.names.kinds offer.act) o ≡ Some detail → OneLine (spaced (detail_parts (Pair p a q b) detail))
    by None is e' = absurd (cc)
    by (Some offer) is e' = sends offer.act (let same : offer.act ≡ Send there.0 there.1 = cc in same) e'
detail_line core config (Wake p a) detail there e =
    name_line (Wake p a) (name_in core (slice_get config.instances p)) detail (λ n is. name_is _ None there.0 n there.1 is (told_name there.0 there.2).one) e
detail_line core config (Join p) detail there e =
    name_line (Join p) (name_in core (slice_get config.instances p)) detail (λ n is. name_is _ None there.0 n there.1 is (told_name there.0 there.2).one) e
detail_line core config Advance detail there e =
    let same : Bare ≡ detail = cc in
    subst (λ (d : Detail). OneLine (spaced (detail_parts Advance d))) same refl

pub event_in_line : (core : Core) (turn : ℕ) (config : Config) (label : Label) (e : Event) → IsThere core config label
    → event_at core turn config label ≡ Some e → IsLine (event_line e)
unfolding event_text
event_in_line core turn config label e there is =
    let p = parts_of core turn config label e is in
    let whole : Event = record { turn = turn; label = label; clock = p.clock; detail = p.detail } in
    subst (λ (x : Event). IsLine (event_line x)) (sym p.is)
    (line_of_one (decimal turn ++ spaced (label_parts label p.clock) ++ spaced (detail_parts label p.detail))
    (one-append (decimal turn ++ spaced (label_parts label p.clock)) (spaced (detail_parts label p.detail))
    (one-append (decimal turn) (spaced (label_parts label p.clock)) (number_line turn) (label_line label p.clock))
    (detail_line core config label p.detail there p.told)))

-- it begins with a digit

digit_head : (ds more : List ℕ) → AreDigits ds → ds ≢ [] → head_of (ds ++ more) < 97
digit_head [] more are some = absurd (some refl)
digit_head (c ∷ cs) more are some = small c (and_both (is_ascii_digit c) (list_all is_ascii_digit cs) are).0
  where
    small : (c : ℕ) → is_ascii_digit c ≡ true → c < 97
    small c is = grind arith

pub event_head : (e : Event) → head_of (event_line e) < 97
unfolding event_text
event_head e =
    subst (λ (text : List ℕ). head_of text < 97)
    (sym (append_assoc (decimal e.turn ++ spaced (label_parts e.label e.clock)) (spaced (detail_parts e.label e.detail)) (10 ∷ [])
    ∙ append_assoc (decimal e.turn) (spaced (label_parts e.label e.clock)) (spaced (detail_parts e.label e.detail) ++ 10 ∷ [])))
    (digit_head (decimal e.turn) (spaced (label_parts e.label e.clock) ++ (spaced (detail_parts e.label e.detail) ++ 10 ∷ [])) (are_decimal e.turn) (told_int (pos e.turn)).some)

-- its label

detail_is_rest : (label : Label) (detail : Detail) → IsRest (spaced (detail_parts label detail))
detail_is_rest (Local p) Unknown = refl
detail_is_rest (Pair p a q b) Unknown = refl
detail_is_rest (Wake p a) Unknown = refl
detail_is_rest (Join p) Unknown = refl
detail_is_rest Advance Unknown = tt
detail_is_rest label Bare = tt
detail_is_rest label (At name line) = refl
detail_is_rest label (Of name) = refl
detail_is_rest label (Sent channel value) = refl

-- what follows the turn
abbrev after_turn : Label → ℤ → Detail → List ℕ
after_turn label clock detail = spaced (label_parts label clock) ++ spaced (detail_parts label detail)

fits_zero : FitsSigned w64 (pos 0)
fits_zero = omega arith

-- a label other than an advance is read back
read_back : (label : Label) (clock : ℤ) (detail : Detail) → label ≢ Advance → IsNumbered label
    → label_told (after_turn label clock detail) ≡ Some ((label, pos 0), spaced (detail_parts label detail))
read_back (Local p) clock detail other n = label_forth (Local p) (pos 0) (spaced (detail_parts (Local p) detail)) n fits_zero (detail_is_rest (Local p) detail)
read_back (Pair p a q b) clock detail other n =
    label_forth (Pair p a q b) (pos 0) (spaced (detail_parts (Pair p a q b) detail)) n fits_zero (detail_is_rest (Pair p a q b) detail)
read_back (Wake p a) clock detail other n =
    label_forth (Wake p a) (pos 0) (spaced (detail_parts (Wake p a) detail)) n fits_zero (detail_is_rest (Wake p a) detail)
read_back (Join p) clock detail other n = label_forth (Join p) (pos 0) (spaced (detail_parts (Join p) detail)) n fits_zero (detail_is_rest (Join p) detail)
read_back Advance clock detail other n = absurd (other refl)

-- the letter after the space
abbrev second : List ℕ → ℕ
second text = head_of (tail_of text)

others_second : (label : Label) (clock : ℤ) (detail : Detail) → label ≢ Advance → second (after_turn label clock detail) ≢ 97
others_second (Local p) clock detail other e = absurd (omega arith)
others_second (Pair p a q b) clock detail other e = absurd (omega arith)
others_second (Wake p a) clock detail other e = absurd (omega arith)
others_second (Join p) clock detail other e = absurd (omega arith)
others_second Advance clock detail other e = other refl

data IsAdvance (label : Label) : Type 0 where
  it_is : label ≡ Advance → IsAdvance label
  it_is_not : label ≢ Advance → IsAdvance label

is_advance : (label : Label) → IsAdvance label
is_advance (Local p) = it_is_not (λ e. absurd (cc))
is_advance (Pair p a q b) = it_is_not (λ e. absurd (cc))
is_advance (Wake p a) = it_is_not (λ e. absurd (cc))
is_advance (Join p) = it_is_not (λ e. absurd (cc))
is_advance Advance = it_is refl

same_after : (l m : Label) (c d : ℤ) (x y : Detail) → IsNumbered l → IsNumbered m → after_turn l c x ≡ after_turn m d y → l ≡ m
same_after l m c d x y hl hm e = by (is_advance l) (is_advance m)
  where
    by : IsAdvance l → IsAdvance m → l ≡ m
    by (it_is p) (it_is q) = p ∙ sym q
    by (it_is p) (it_is_not q) =
        let first : second (after_turn l c x) ≡ 97 = ap (λ (z : Label). second (after_turn z c x)) p in
        absurd (others_second m d y q (sym (ap second e) ∙ first))
    by (it_is_not p) (it_is q) =
        let first : second (after_turn m d y) ≡ 97 = ap (λ (z : Label). second (after_turn z d y)) q in
        absurd (others_second l c x p (ap second e ∙ first))
    by (it_is_not p) (it_is_not q) =
        let both = sym (read_back l c x p hl) ∙ ap label_told e ∙ read_back m d y q hm in
        label_in both
      where
        label_in : ◌≡◌ {A = Option ((Label × ℤ) × List ℕ)} (Some ((l, pos 0), spaced (detail_parts l x))) (Some ((m, pos 0), spaced (detail_parts m y))) → l ≡ m
        label_in same = ap (λ (o : Option ((Label × ℤ) × List ℕ)). taken o) same
          where
            taken : Option ((Label × ℤ) × List ℕ) → Label
            taken None = l
            taken (Some t) = t.0.0

front_same : (xs ys zs : List ℕ) → xs ++ ys ≡ xs ++ zs → ys ≡ zs
front_same [] ys zs e = e
front_same (x ∷ xs) ys zs e = front_same xs ys zs (ap tail_of e)

pub end_same : (xs ys : List ℕ) → xs ++ 10 ∷ [] ≡ ys ++ 10 ∷ [] → xs ≡ ys
end_same [] [] e = refl
end_same [] (y ∷ ys) e = absurd (none ys (ap tail_of e))
  where
    none : (zs : List ℕ) → [] ≡ zs ++ 10 ∷ [] → ⊥
    none [] f = cc
    none (z ∷ zs) f = cc
end_same (x ∷ xs) [] e = absurd (none xs (sym (ap tail_of e)))
  where
    none : (zs : List ℕ) → [] ≡ zs ++ 10 ∷ [] → ⊥
    none [] f = cc
    none (z ∷ zs) f = cc
end_same (x ∷ xs) (y ∷ ys) e = let rest = end_same xs ys (ap tail_of e) in λ i. ap head_of e i ∷ rest i

-- labels of one turn that have one line are one
pub same_label : (core : Core) (turn : ℕ) (config : Config) (l m : Label) (line : List ℕ) → IsNumbered l → IsNumbered m
    → IsLineOf core turn config l line → IsLineOf core turn config m line → l ≡ m
unfolding event_text
same_label core turn config l m line hl hm a b =
    let p = parts_of core turn config l a.event a.told in
    let q = parts_of core turn config m b.event b.told in
    let lines : event_line a.event ≡ event_line b.event = a.is ∙ sym b.is in
    let whole : event_line (record { turn = turn; label = l; clock = p.clock; detail = p.detail }) ≡ event_line (record { turn = turn; label = m; clock = q.clock; detail = q.detail })
    = sym (ap event_line p.is) ∙ lines ∙ ap event_line q.is in
    let texts : decimal turn ++ spaced (label_parts l p.clock) ++ spaced (detail_parts l p.detail) ≡ decimal turn ++ spaced (label_parts m q.clock) ++ spaced (detail_parts m q.detail)
    = end_same _ _ whole in
    let afters : after_turn l p.clock p.detail ≡ after_turn m q.clock q.detail
    = front_same (decimal turn) _ _
    (sym (append_assoc (decimal turn) (spaced (label_parts l p.clock)) (spaced (detail_parts l p.detail))) ∙ texts
    ∙ append_assoc (decimal turn) (spaced (label_parts m q.clock)) (spaced (detail_parts m q.detail))) in
    same_after l m p.clock q.clock p.detail q.detail hl hm afters
