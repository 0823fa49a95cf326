-- The line of an event is read as that event.
use Rattle.std.proofs.Common.{◌≡◌, ℕ, ◌+◌, ◌^◌, ◌<◌, ◌≤◌, ◌&&◌, Bool, true, false, cond, List, [], ◌∷◌, ◌++◌, length, bytes_eq, refl, ap, sym, subst, ◌∙◌, Option, Some, None, ℤ, pos, FitsSigned, w64, arith, append_assoc}
use Rattle.std.specs.Prelude.{option_and_then, IsTrue, codes}
use Rattle.std.specs.Char.{is_ascii_digit}
use Rattle.std.specs.Fmt.{decimal}
use Rattle.std.specs.List.{list_all}
use Rattle.std.proofs.lemmas.List.{append-nil}
use Rattle.chi_core.specs.declared.label.Label.{Label}
use Rattle.chi_core.specs.declared.label.Label.TheVariants.{Local, Pair, Wake, Join, Advance}
use Rattle.chi_core.specs.Sound.{IsName}
use Rattle.chi_num.specs.Decimal.{AreDigits}
use Rattle.chi_num.specs.RealText.{real_text_of}
use Rattle.chi_trace.specs.declared.event.Detail.{Detail}
use Rattle.chi_trace.specs.declared.event.Detail.TheVariants.{Unknown, Bare, At, Of, Sent}
use Rattle.chi_trace.specs.declared.event.Event.{Event}
use Rattle.chi_trace.specs.Events.{unknown_part, is_value_text, Fits, untold, IsNumbered, IsEvent, clock_told, as_told}
use Rattle.chi_trace.specs.Lines.{label_parts, unknown_parts, detail_parts, spaced, event_text, event_text_1}
use Rattle.chi_trace.specs.Told.{front, after, part_told, number_told, number_part, time_told, is_name, local_told, pair_told, wake_told, join_told, advance_told, label_by, label_told, head_told, ended, place_told, name_told, value_part, sent_told, detail_told, event_of, event_told, event_told_1}
use Rattle.chi_trace.proofs.Names as names
use Rattle.chi_trace.proofs.Numbers.{are_same, number_forth, number_in, two_in, digits-decimal, part-decimal, time_forth, part-time}
use Rattle.chi_trace.proofs.Cuts.{IsPart, IsRest, front-part, after-part, part_forth, part_in}

-- ---- labels

local_forth : (p : ℕ) (rest : List ℕ) → p < 2 ^ 32 → IsRest rest → local_told (spaced (decimal p ∷ []) ++ rest) ≡ Some ((Local p, pos 0), rest)
unfolding local_told
local_forth p rest hp is = rw (number_in p [] rest hp is) refl

join_forth : (p : ℕ) (rest : List ℕ) → p < 2 ^ 32 → IsRest rest → join_told (spaced (decimal p ∷ []) ++ rest) ≡ Some ((Join p, pos 0), rest)
unfolding join_told
join_forth p rest hp is = rw (number_in p [] rest hp is) refl

wake_forth : (p a : ℕ) (rest : List ℕ) → p < 2 ^ 32 → a < 2 ^ 32 → IsRest rest → wake_told (spaced (decimal p ∷ decimal a ∷ []) ++ rest) ≡ Some ((Wake p a, pos 0), rest)
unfolding wake_told
wake_forth p a rest hp ha is = rw (two_in p a [] rest hp ha is) refl

pair_forth : (p a q b : ℕ) (rest : List ℕ) → p < 2 ^ 32 → a < 2 ^ 32 → q < 2 ^ 32 → b < 2 ^ 32 → IsRest rest
    → pair_told (spaced (decimal p ∷ decimal a ∷ decimal q ∷ decimal b ∷ []) ++ rest) ≡ Some ((Pair p a q b, pos 0), rest)
unfolding pair_told
pair_forth p a q b rest hp ha hq hb is =
    rw (two_in p a (spaced (decimal q ∷ decimal b ∷ [])) rest hp ha refl, two_in q b [] rest hq hb is) refl

advance_of : (text rest : List ℕ) (z : ℤ) → IsPart text → time_told text ≡ Some z → IsRest rest → advance_told (32 ∷ ((text ++ []) ++ rest)) ≡ Some ((Advance, z), rest)
unfolding advance_told
advance_of text rest z part told is = rw (part_in text [] rest part is, told) refl

advance_forth : (z : ℤ) (rest : List ℕ) → FitsSigned w64 z → IsRest rest → advance_told (spaced (real_text_of z ∷ []) ++ rest) ≡ Some ((Advance, z), rest)
advance_forth z rest fits is = advance_of (real_text_of z) rest z (part-time z fits) (time_forth z fits) is

pub label_forth : (l : Label) (clock : ℤ) (rest : List ℕ) → IsNumbered l → FitsSigned w64 clock → IsRest rest
    → label_told (spaced (label_parts l clock) ++ rest) ≡ Some ((l, clock_told l clock), rest)
unfolding label_told part_told
label_forth (Local p) clock rest n f is = local_forth p rest n is
label_forth (Pair p a q b) clock rest n f is = pair_forth p a q b rest n.0 n.1 n.2 n.3 is
label_forth (Wake p a) clock rest n f is = wake_forth p a rest n.0 n.1 is
label_forth (Join p) clock rest n f is = join_forth p rest n is
label_forth Advance clock rest n f is = advance_forth clock rest f is

label_is_rest : (l : Label) (clock : ℤ) (rest : List ℕ) → IsRest (spaced (label_parts l clock) ++ rest)
label_is_rest (Local p) clock rest = refl
label_is_rest (Pair p a q b) clock rest = refl
label_is_rest (Wake p a) clock rest = refl
label_is_rest (Join p) clock rest = refl
label_is_rest Advance clock rest = refl

pub head_forth : (turn : ℕ) (l : Label) (clock : ℤ) (rest : List ℕ) → turn < 2 ^ 64 → IsNumbered l → FitsSigned w64 clock → IsRest rest
    → head_told (decimal turn ++ (spaced (label_parts l clock) ++ rest)) ≡ Some ((turn, l, clock_told l clock), rest)
unfolding head_told
head_forth turn l clock rest small n f is = by (spaced (label_parts l clock) ++ rest) (label_is_rest l clock rest) (label_forth l clock rest n f is)
  where
    by : (tail : List ℕ) → IsRest tail → label_told tail ≡ Some ((l, clock_told l clock), rest) → head_told (decimal turn ++ tail) ≡ Some ((turn, l, clock_told l clock), rest)
    by tail goes told =
        let part = part-decimal turn small in
        rw (front-part (decimal turn) tail part goes, after-part (decimal turn) tail part goes, number_forth (2 ^ 64) turn small (omega arith), told) refl

-- ---- details

digits_are_known : (n : ℕ) → n < 2 ^ 64 → bytes_eq (decimal n) unknown_part ≡ false
digits_are_known n small = by (bytes_eq (decimal n) unknown_part) refl
  where
    by : (b : Bool) → bytes_eq (decimal n) unknown_part ≡ b → b ≡ false
    by false q = refl
    by true q =
        let no : true ≡ false = sym (digits-decimal n small) ∙ ap (λ ds. list_all is_ascii_digit ds) (are_same (decimal n) unknown_part q) in
        absurd (cc)

unknown_place : place_told (spaced (unknown_part ∷ unknown_part ∷ [])) ≡ Some Unknown
unfolding place_told part_told
unknown_place = refl

unknown_sent : sent_told (spaced (unknown_part ∷ unknown_part ∷ [])) ≡ Some Unknown
unfolding sent_told part_told value_part
unknown_sent = refl

unknown_name : name_told (spaced (unknown_part ∷ [])) ≡ Some Unknown
unfolding name_told part_told
unknown_name = refl

place_forth : (name : List ℕ) (line : ℕ) → is_name name ≡ true → line < 2 ^ 32 → place_told (spaced (name ∷ decimal line ∷ [])) ≡ Some (At name line)
unfolding place_told
place_forth name line is small =
    rw (part_forth name (spaced (decimal line ∷ [])) (names.part-name name is) refl, part_forth (decimal line) [] (part-decimal line (omega arith)) tt, names.name_is_known name is, is, number_forth (2 ^ 32) line small (omega arith)) refl

name_forth : (name : List ℕ) → is_name name ≡ true → name_told (spaced (name ∷ [])) ≡ Some (Of name)
unfolding name_told
name_forth name is = rw (part_forth name [] (names.part-name name is) tt, names.name_is_known name is, is) refl

sent_forth : (channel : ℕ) (value : List ℕ) → channel < 2 ^ 32 → is_value_text value ≡ true → sent_told (spaced (decimal channel ∷ value ∷ [])) ≡ Some (Sent channel value)
unfolding sent_told value_part
sent_forth channel value small is =
    rw (append-nil value, part_forth (decimal channel) (32 ∷ value) (part-decimal channel (omega arith)) refl, digits_are_known channel (omega arith), is, number_forth (2 ^ 32) channel small (omega arith)) refl

pub detail_forth : (l : Label) (d : Detail) → Fits l d → detail_told l (spaced (detail_parts l d)) ≡ Some d
detail_forth (Local p) Unknown f = unknown_place
detail_forth (Local p) (At name line) f = place_forth name line (names.name_told name f.0) f.1
detail_forth (Pair p a q b) Unknown f = unknown_sent
detail_forth (Pair p a q b) (Sent channel value) f = sent_forth channel value f.0 f.1
detail_forth (Wake p a) Unknown f = unknown_name
detail_forth (Wake p a) (Of name) f = name_forth name (names.name_told name f)
detail_forth (Join p) Unknown f = unknown_name
detail_forth (Join p) (Of name) f = name_forth name (names.name_told name f)
detail_forth Advance Bare f = refl
detail_forth l d f = absurd f

unknown_is_rest : (l : Label) → IsRest (spaced (unknown_parts l))
unknown_is_rest (Local p) = refl
unknown_is_rest (Pair p a q b) = refl
unknown_is_rest (Wake p a) = refl
unknown_is_rest (Join p) = refl
unknown_is_rest Advance = tt

detail_is_rest : (l : Label) (d : Detail) → IsRest (spaced (detail_parts l d))
detail_is_rest l Unknown = unknown_is_rest l
detail_is_rest l Bare = tt
detail_is_rest l (At name line) = refl
detail_is_rest l (Of name) = refl
detail_is_rest l (Sent channel value) = refl

-- ---- whole lines

pub event_forth : (e : Event) → IsEvent e → event_told (event_text e) ≡ Some (as_told e)
unfolding event_told event_text
event_forth e i =
    rw (
      append_assoc (decimal e.turn) (spaced (label_parts e.label e.clock)) (spaced (detail_parts e.label e.detail)),
      head_forth e.turn e.label e.clock (spaced (detail_parts e.label e.detail)) i.turn i.label i.clock (detail_is_rest e.label e.detail),
      detail_forth e.label e.detail i.detail,
    ) refl

pub event_forth_1 : (e : Event) → IsEvent e → e.detail ≡ untold e.label → event_told_1 (event_text_1 e) ≡ Some (as_told e)
unfolding event_told_1 event_text_1
event_forth_1 e i none =
    rw (← append-nil (spaced (label_parts e.label e.clock)), head_forth e.turn e.label e.clock [] i.turn i.label i.clock tt, ← none) refl
