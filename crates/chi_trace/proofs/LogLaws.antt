-- A text is brought up to one log, or has one first line that doesn't fit.
use Rattle.std.proofs.Common.{◌≡◌, ◌≢◌, ℕ, suc, ◌+◌, ◌≤◌, ◌<◌, true, false, List, [], ◌∷◌, ◌++◌, length, refl, ap, sym, subst, ◌∙◌, Option, Some, None, ◌⊎◌, inl, inr, arith, append_assoc, append-nil, length-append, Bool, eqb-true, eq-eqb, zero}
use Rattle.std.specs.Prelude.{◌==◌, Result, Ok, Err, MatchResult}
use Rattle.chi_trace.specs.declared.event.Event.{Event}
use Rattle.chi_trace.specs.Lines.{first_line, first_line_1, event_text_1, event_line, IsLine1}
use Rattle.chi_trace.specs.declared.fault.LogFault.{LogFault}
use Rattle.chi_trace.specs.declared.fault.LogFault.TheVariants.{Form, NoMemory}
use Rattle.chi_trace.specs.Ends.{OneLine, IsCut, IsLastOf, IsRefusedAt}
use Rattle.chi_trace.specs.Logs.{ended, IsOld, AreOld, old_lines, new_lines, old_trace, new_trace, begins_small, IsLast, IsEnd, IsUp, IsRefused, BeginsOddly, Misfits, first, next, after_last}
use Rattle.chi_trace.specs.Told.{event_told_1}
use Rattle.chi_trace.proofs.LineLaws.{one_event_1}
use Rattle.chi_trace.proofs.OneLine.{one_event_line, event_small, cut, no_line, parted}
use Rattle.chi_trace.proofs.Reading.{is_line_1, no_line_1}

old_line : (e : Event) → IsOld e → IsLine1 (event_text_1 e) e
old_line e i = record { event = i.event; told = i.told; no_detail = i.no_detail; spelled = refl }

line_old : (text : List ℕ) (e : Event) → IsLine1 text e → IsOld e
line_old text e i = record { event = i.event; told = i.told; no_detail = i.no_detail }

one_old : (e f : Event) → IsOld e → IsOld f → event_text_1 e ≡ event_text_1 f → e ≡ f
one_old e f i j same =
    one_event_1 (event_text_1 e) e f (old_line e i) (record { event = j.event; told = j.told; no_detail = j.no_detail; spelled = same })

abbrev pub cut_off : List ℕ → List ℕ → List ℕ
cut_off [] text = text
cut_off (c ∷ cs) [] = []
cut_off (c ∷ cs) (d ∷ ds) = cut_off cs ds

cut_front : (xs ys : List ℕ) → cut_off xs (xs ++ ys) ≡ ys
cut_front [] ys = refl
cut_front (x ∷ xs) ys = cut_front xs ys

after_front : (xs ys zs : List ℕ) → xs ++ ys ≡ xs ++ zs → ys ≡ zs
after_front xs ys zs e = sym (cut_front xs ys) ∙ ap (cut_off xs) e ∙ cut_front xs zs

-- no event goes on there
abbrev pub Stops : List ℕ → Type 0
Stops rest = (e : Event) (more : List ℕ) → IsOld e → rest ≢ ended (event_text_1 e) ++ more

last_stops : (line more : List ℕ) → IsLast line → Stops (ended line ++ more)
last_stops line more last e rest old same =
    let lines = (cut line (event_text_1 e) more rest last.one_line (one_event_line e old.event) same).0 in
    let small : true ≡ false = sym last.small ∙ ap begins_small lines ∙ event_small e old.event in
    cc

end_stops : (rest : List ℕ) → IsEnd rest → Stops rest
end_stops rest (inl none) e more old same = nothing (event_text_1 e) more (sym none ∙ same)
  where
    nothing : (xs ys : List ℕ) → [] ≢ ended xs ++ ys
    nothing [] ys q = cc
    nothing (x ∷ xs) ys q = cc
end_stops rest (inr (line, last, is)) e more old same =
    last_stops line [] last e more old (append-nil (ended line) ∙ sym is ∙ same)

-- lines of events, and what stops them, are told from a text in one way
one_front : (xs ys : List Event) (a b : List ℕ) → AreOld xs → AreOld ys → Stops a → Stops b
    → old_lines xs ++ a ≡ old_lines ys ++ b → (xs ≡ ys) × (a ≡ b)
one_front [] [] a b x y s t e = (refl, e)
one_front [] (f ∷ ys) a b x y s t e =
    absurd (s f (old_lines ys ++ b) y.0 (e ∙ append_assoc (ended (event_text_1 f)) (old_lines ys) b))
one_front (f ∷ xs) [] a b x y s t e =
    absurd (t f (old_lines xs ++ a) x.0 (sym e ∙ append_assoc (ended (event_text_1 f)) (old_lines xs) a))
one_front (f ∷ xs) (g ∷ ys) a b x y s t e =
    let lines = cut (event_text_1 f) (event_text_1 g) (old_lines xs ++ a) (old_lines ys ++ b) (one_event_line f x.0.event) (one_event_line g y.0.event)
    (sym (append_assoc (ended (event_text_1 f)) (old_lines xs) a) ∙ e ∙ append_assoc (ended (event_text_1 g)) (old_lines ys) b) in
    let same = one_old f g x.0 y.0 lines.0 in
    let rest = one_front xs ys a b x.1 y.1 s t lines.1 in
    ((λ i. same i ∷ rest.0 i), rest.1)

one_trace : (text : List ℕ) (xs ys : List Event) (a b : List ℕ) → AreOld xs → AreOld ys → Stops a → Stops b
    → text ≡ old_trace xs ++ a → text ≡ old_trace ys ++ b → (xs ≡ ys) × (a ≡ b)
one_trace text xs ys a b x y s t p q =
    one_front xs ys a b x y s t
    (after_front (ended first_line_1) (old_lines xs ++ a) (old_lines ys ++ b)
    (sym (append_assoc (ended first_line_1) (old_lines xs) a) ∙ sym p ∙ q ∙ append_assoc (ended first_line_1) (old_lines ys) b))

pub one_up : (text up other : List ℕ) → IsUp text up → IsUp text other → up ≡ other
one_up text up other p q =
    let same = one_trace text p.events q.events p.rest q.rest p.old q.old (end_stops p.rest p.end) (end_stops q.rest q.end) p.is q.is in
    p.raised ∙ (λ i. new_trace (same.0 i) ++ same.1 i) ∙ sym q.raised

-- a text that begins with the first line doesn't misfit there
not_first : (text rest : List ℕ) (events : List Event) → ((more : List ℕ) → text ≢ ended first_line_1 ++ more) → text ≢ old_trace events ++ rest
not_first text rest events none is = none (old_lines events ++ rest) (is ∙ append_assoc (ended first_line_1) (old_lines events) rest)

end_is_odd : (rest : List ℕ) → IsEnd rest → BeginsOddly rest → ⊥
end_is_odd rest (inl none) odd = odd.some none
end_is_odd rest (inr (line, last, is)) odd = odd.no_last line [] last (is ∙ sym (append-nil (ended line)))

end_goes_on : (rest line more : List ℕ) → IsEnd rest → IsLast line → more ≢ [] → rest ≢ ended line ++ more
end_goes_on rest line more (inl none) last some e = nothing line (sym none ∙ e)
  where
    nothing : (xs : List ℕ) → [] ≢ ended xs ++ more
    nothing [] q = cc
    nothing (x ∷ xs) q = cc
end_goes_on rest line more (inr (other, also, is)) last some e =
    some (sym (cut other line [] more also.one_line last.one_line (append-nil (ended other) ∙ sym is ∙ e)).1)

pub up_or_misfit : (text up : List ℕ) (k : ℕ) → IsUp text up → Misfits text k → ⊥
up_or_misfit text up k p (first none is) = not_first text p.rest p.events none p.is
up_or_misfit text up k p (next events rest old odd is at) =
    let same = one_trace text p.events events p.rest rest p.old old (end_stops p.rest p.end) odd.no_event p.is is in
    end_is_odd rest (subst IsEnd same.1 p.end) odd
up_or_misfit text up k p (after_last events line more old last some is at) =
    let same = one_trace text p.events events p.rest (ended line ++ more) p.old old (end_stops p.rest p.end) (last_stops line more last) p.is is in
    end_goes_on p.rest line more p.end last some same.1

pub one_misfit : (text : List ℕ) (j k : ℕ) → Misfits text j → Misfits text k → j ≡ k
one_misfit text j k (first none is) (first other at) = is ∙ sym at
one_misfit text j k (first none is) (next events rest old odd p at) = absurd (not_first text rest events none p)
one_misfit text j k (first none is) (after_last events line more old last some p at) = absurd (not_first text (ended line ++ more) events none p)
one_misfit text j k (next events rest old odd p at) (first none is) = absurd (not_first text rest events none p)
one_misfit text j k (next xs a x odd p is) (next ys b y even q at) =
    let same = one_trace text xs ys a b x y odd.no_event even.no_event p q in
    is ∙ ap (λ (l : List Event). length l + 2) same.0 ∙ sym at
one_misfit text j k (next xs a x odd p is) (after_last ys line more y last some q at) =
    let same = one_trace text xs ys a (ended line ++ more) x y odd.no_event (last_stops line more last) p q in
    absurd (odd.no_last line more last same.1)
one_misfit text j k (after_last events line more old last some p at) (first none is) = absurd (not_first text (ended line ++ more) events none p)
one_misfit text j k (after_last ys line more y last some q at) (next xs a x odd p is) =
    let same = one_trace text xs ys a (ended line ++ more) x y odd.no_event (last_stops line more last) p q in
    absurd (odd.no_last line more last same.1)
one_misfit text j k (after_last xs line more x last some p is) (after_last ys other rest y also any q at) =
    let same = one_trace text xs ys (ended line ++ more) (ended other ++ rest) x y (last_stops line more last) (last_stops other rest also) p q in
    is ∙ ap (λ (l : List Event). length l + 3) same.0 ∙ sym at

-- each text is brought up or has a line that doesn't fit

pub data RestCase (text : List ℕ) : Type 0 where
  ends : (events : List Event) (rest : List ℕ) → AreOld events → IsEnd rest → text ≡ old_lines events ++ rest → RestCase text
  is_odd : (events : List Event) (rest : List ℕ) → AreOld events → BeginsOddly rest → text ≡ old_lines events ++ rest → RestCase text
  is_late : (events : List Event) (line more : List ℕ) → AreOld events → IsLast line → more ≢ [] → text ≡ old_lines events ++ (ended line ++ more) → RestCase text

-- a line that is none of an event, and doesn't begin with a small letter
pub odd_line : (text line more : List ℕ) → IsCut text line more → ((e : Event) → IsLine1 line e → ⊥) → begins_small line ≡ false → BeginsOddly text
odd_line text line more c none small = record {
  some = λ e. nothing line (sym e ∙ c.is);
  no_event = λ e rest old same.
      let lines = (cut line (event_text_1 e) more rest c.one_line (one_event_line e old.event) (sym c.is ∙ same)).0 in
      none e (record { event = old.event; told = old.told; no_detail = old.no_detail; spelled = lines });
  no_last = λ other rest last same.
      let lines = (cut line other more rest c.one_line last.one_line (sym c.is ∙ same)).0 in
      let both : true ≡ false = sym last.small ∙ ap begins_small (sym lines) ∙ small in
      cc;
}
  where
    nothing : (xs : List ℕ) → [] ≢ ended xs ++ more
    nothing [] q = cc
    nothing (x ∷ xs) q = cc

-- a text with no line feed
pub odd_end : (text : List ℕ) → OneLine text → text ≢ [] → BeginsOddly text
odd_end text one some = record {
  some = some;
  no_event = λ e more old same. no_line (event_text_1 e) more text one same;
  no_last = λ line more last same. no_line line more text one same;
}

cons_case : (text line more : List ℕ) (e : Event) → IsCut text line more → IsLine1 line e → RestCase more → RestCase text
cons_case text line more e c i r = by r
  where
    grown : (events : List Event) (rest : List ℕ) → more ≡ old_lines events ++ rest → text ≡ old_lines (e ∷ events) ++ rest
    grown events rest is =
        c.is ∙ (λ j. ended (i.spelled j) ++ is j) ∙ sym (append_assoc (ended (event_text_1 e)) (old_lines events) rest)

    by : RestCase more → RestCase text
    by (ends events rest old end is) = ends (e ∷ events) rest (line_old line e i, old) end (grown events rest is)
    by (is_odd events rest old odd is) = is_odd (e ∷ events) rest (line_old line e i, old) odd (grown events rest is)
    by (is_late events late rest old last some is) = is_late (e ∷ events) late rest (line_old line e i, old) last some (grown events (ended late ++ rest) is)

last_case : (text line more : List ℕ) → IsCut text line more → IsLast line → RestCase text
last_case text line [] c last = ends [] text tt (inr (line, last, c.is ∙ append-nil (ended line))) refl
last_case text line (d ∷ ds) c last = is_late [] line (d ∷ ds) tt last (λ e. cc) c.is

pub rest_case : (fuel : ℕ) (text : List ℕ) → length text ≤ fuel → RestCase text
rest_case fuel [] few = ends [] [] tt (inl refl) refl
rest_case zero (d ∷ ds) few = absurd (omega arith)
rest_case (suc fuel) (d ∷ ds) few = by (rest_case fuel) (parted (d ∷ ds))
  where
    shorter : (line more : List ℕ) → IsCut (d ∷ ds) line more → length more ≤ fuel
    shorter line more c =
        let all = ap length c.is in
        let parts = length-append (ended line) more in
        let feed = length-append line (10 ∷ []) in
        omega arith

    other : (line more : List ℕ) → IsCut (d ∷ ds) line more → ((e : Event) → IsLine1 line e → ⊥) → (b : Bool) → begins_small line ≡ b → RestCase (d ∷ ds)
    other line more c none true q = last_case (d ∷ ds) line more c (record { small = q; one_line = c.one_line })
    other line more c none false q = is_odd [] (d ∷ ds) tt (odd_line (d ∷ ds) line more c none q) refl

    at : ((more : List ℕ) → length more ≤ fuel → RestCase more) → (line more : List ℕ) → IsCut (d ∷ ds) line more → (o : Option Event)
        → event_told_1 line ≡ o → RestCase (d ∷ ds)
    at go line more c (Some e) q = cons_case (d ∷ ds) line more e c (is_line_1 line e (sym q)) (go more (shorter line more c))
    at go line more c None q = other line more c (no_line_1 line (sym q)) (begins_small line) refl

    by : ((more : List ℕ) → length more ≤ fuel → RestCase more) → OneLine (d ∷ ds) ⊎ ((line : List ℕ) × (more : List ℕ) × IsCut (d ∷ ds) line more)
        → RestCase (d ∷ ds)
    by go (inl one) = is_odd [] (d ∷ ds) tt (odd_end (d ∷ ds) one (λ e. cc)) refl
    by go (inr (line, more, c)) = at go line more c (event_told_1 line) refl

traced : (text rest : List ℕ) (events : List Event) (tail : List ℕ) → text ≡ ended first_line_1 ++ rest → rest ≡ old_lines events ++ tail → text ≡ old_trace events ++ tail
traced text rest events tail is rests = is ∙ ap (λ l. ended first_line_1 ++ l) rests ∙ sym (append_assoc (ended first_line_1) (old_lines events) tail)

of_rest : (text rest : List ℕ) → text ≡ ended first_line_1 ++ rest → RestCase rest → ((up : List ℕ) × IsUp text up) ⊎ ((k : ℕ) × Misfits text k)
of_rest text rest is (ends events tail old end rests) =
    inl (new_trace events ++ tail, record { events = events; old = old; rest = tail; end = end; is = traced text rest events tail is rests; raised = refl })
of_rest text rest is (is_odd events tail old odd rests) = inr (length events + 2, next events tail old odd (traced text rest events tail is rests) refl)
of_rest text rest is (is_late events line more old last some rests) =
    inr (length events + 3, after_last events line more old last some (traced text rest events (ended line ++ more) is rests) refl)

starts : (front text : List ℕ) → ((more : List ℕ) × (text ≡ front ++ more)) ⊎ ((more : List ℕ) → text ≢ front ++ more)
starts [] text = inl (text, refl)
starts (c ∷ cs) [] = inr (λ more e. cc)
starts (c ∷ cs) (d ∷ ds) = by (d == c) refl (starts cs ds)
  where
    by : (b : Bool) → (d == c) ≡ b → ((more : List ℕ) × (ds ≡ cs ++ more)) ⊎ ((more : List ℕ) → ds ≢ cs ++ more)
        → ((more : List ℕ) × ((d ∷ ds) ≡ (c ∷ cs) ++ more)) ⊎ ((more : List ℕ) → (d ∷ ds) ≢ (c ∷ cs) ++ more)
    by true q (inl (more, e)) = inl (more, λ i. eqb-true d c q i ∷ e i)
    by true q (inr none) = inr (λ more e. none more (ap (cut_off (c ∷ [])) (first_same c d more e)))
      where
        first_same : (c d : ℕ) (more : List ℕ) → (d ∷ ds) ≡ (c ∷ cs) ++ more → (c ∷ ds) ≡ c ∷ (cs ++ more)
        first_same c d more e = ap (λ l. c ∷ cut_off (c ∷ []) l) e
    by false q r = inr (λ more e. differ (ap head_of e))
      where
        head_of : List ℕ → ℕ
        head_of [] = 0
        head_of (x ∷ xs) = x

        differ : d ≡ c → ⊥
        differ same = let is : (d == c) ≡ true = eq-eqb d c same in cc

pub up_some : (text : List ℕ) → ((up : List ℕ) × IsUp text up) ⊎ ((k : ℕ) × Misfits text k)
up_some text = by (starts (ended first_line_1) text)
  where
    by : ((more : List ℕ) × (text ≡ ended first_line_1 ++ more)) ⊎ ((more : List ℕ) → text ≢ ended first_line_1 ++ more)
        → ((up : List ℕ) × IsUp text up) ⊎ ((k : ℕ) × Misfits text k)
    by (inl (more, is)) = of_rest text more is (rest_case (length more) more (omega arith))
    by (inr none) = inr (1, first none refl)

-- the loop over the lines

-- a front of a log was brought up to that, and so many lines, the first one among them, come to here
pub record ComesTo (text up rest : List ℕ) (number : ℕ) : Type 0 where
  pub events : List Event
  pub old : AreOld events
  pub is : text ≡ old_trace events ++ rest
  pub raised : up ≡ new_trace events
  pub number_is : number ≡ length events + 2
  pub counted : number + length rest ≤ length text

pub comes_first : (text rest up : List ℕ) → text ≡ ended first_line_1 ++ rest → up ≡ ended first_line → ComesTo text up rest 2
comes_first text rest up is same =
    let all = ap length is in
    let parts = length-append (ended first_line_1) rest in
    record { events = []; old = tt; is = is; raised = same; number_is = refl; counted = omega arith }

old_snoc : (events : List Event) (e : Event) → old_lines (events ++ e ∷ []) ≡ old_lines events ++ ended (event_text_1 e)
old_snoc [] e = append-nil (ended (event_text_1 e))
old_snoc (x ∷ xs) e = ap (λ l. ended (event_text_1 x) ++ l) (old_snoc xs e) ∙ sym (append_assoc (ended (event_text_1 x)) (old_lines xs) (ended (event_text_1 e)))

new_snoc : (events : List Event) (e : Event) → new_lines (events ++ e ∷ []) ≡ new_lines events ++ event_line e
new_snoc [] e = append-nil (event_line e)
new_snoc (x ∷ xs) e = ap (λ l. event_line x ++ l) (new_snoc xs e) ∙ sym (append_assoc (event_line x) (new_lines xs) (event_line e))

all_snoc : (events : List Event) (e : Event) → AreOld events → IsOld e → AreOld (events ++ e ∷ [])
all_snoc [] e old also = (also, tt)
all_snoc (x ∷ xs) e old also = (old.0, all_snoc xs e old.1 also)

pub comes_next : (text up rest line more : List ℕ) (number : ℕ) (e : Event) → ComesTo text up rest number → IsCut rest line more → IsLine1 line e
    → ComesTo text (up ++ event_line e) more (number + 1)
comes_next text up rest line more number e c off i =
    let all = ap length off.is in
    let parts = length-append (ended line) more in
    let feed = length-append line (10 ∷ []) in
    let longer = length-append c.events (e ∷ []) in
    let counted = c.counted in
    let number_is = c.number_is in
    record {
      events = c.events ++ e ∷ [];
      old = all_snoc c.events e c.old (line_old line e i);
      is = c.is ∙ ap (λ l. old_trace c.events ++ l) (off.is ∙ ap (λ l. ended l ++ more) i.spelled) ∙ regroup (ended first_line_1) (old_lines c.events) (ended (event_text_1 e)) more
          ∙ ap (λ l. (ended first_line_1 ++ l) ++ more) (sym (old_snoc c.events e));
      raised = ap (λ l. l ++ event_line e) c.raised ∙ append_assoc (ended first_line) (new_lines c.events) (event_line e)
          ∙ ap (λ l. ended first_line ++ l) (sym (new_snoc c.events e));
      number_is = omega arith;
      counted = omega arith;
    }
  where
    regroup : (a b d m : List ℕ) → (a ++ b) ++ (d ++ m) ≡ (a ++ (b ++ d)) ++ m
    regroup a b d m = simp append_assoc

pub comes_done : (text up rest : List ℕ) (number : ℕ) → ComesTo text up rest number → rest ≡ [] → IsUp text up
comes_done text up rest number c none =
    record { events = c.events; old = c.old; rest = rest; end = inl none; is = c.is; raised = c.raised ∙ sym (append-nil (new_trace c.events)) ∙ ap (λ l. new_trace c.events ++ l) (sym none) }

pub comes_open : (text up rest : List ℕ) (number : ℕ) → ComesTo text up rest number → OneLine rest → rest ≢ [] → Misfits text number
comes_open text up rest number c one some = next c.events rest c.old (odd_end rest one some) c.is c.number_is

pub comes_odd : (text up rest line more : List ℕ) (number : ℕ) → ComesTo text up rest number → IsCut rest line more → ((e : Event) → IsLine1 line e → ⊥)
    → begins_small line ≡ false → Misfits text number
comes_odd text up rest line more number c off none small = next c.events rest c.old (odd_line rest line more off none small) c.is c.number_is

pub comes_late : (text up rest line more : List ℕ) (number : ℕ) → ComesTo text up rest number → IsCut rest line more → begins_small line ≡ true
    → more ≢ [] → Misfits text (number + 1)
comes_late text up rest line more number c off small some =
    let number_is = c.number_is in
    after_last c.events line more c.old (record { small = small; one_line = off.one_line }) some (c.is ∙ ap (λ l. old_trace c.events ++ l) off.is) (omega arith)

pub comes_last : (text up rest line more : List ℕ) (number : ℕ) → ComesTo text up rest number → IsCut rest line more → begins_small line ≡ true
    → more ≡ [] → IsUp text (up ++ ended line)
comes_last text up rest line more number c off small none =
    let line_is : rest ≡ ended line = off.is ∙ ap (λ l. ended line ++ l) none ∙ append-nil (ended line) in
    record {
      events = c.events;
      old = c.old;
      rest = ended line;
      end = inr (line, record { small = small; one_line = off.one_line }, refl);
      is = c.is ∙ ap (λ l. old_trace c.events ++ l) line_is;
      raised = ap (λ l. l ++ ended line) c.raised;
    }

pub cut_shorter : (text line more : List ℕ) → IsCut text line more → length more < length text
cut_shorter text line more c =
    let all = ap length c.is in
    let parts = length-append (ended line) more in
    let feed = length-append line (10 ∷ []) in
    omega arith

-- what comes of a line that is none of an event
pub last_given : {A : Type 0} (items : A → List ℕ) (text up rest line more : List ℕ) (number : ℕ) (result : Result A LogFault)
    → ComesTo text up rest number → IsCut rest line more → ((e : Event) → IsLine1 line e → ⊥)
    → MatchResult result (λ log. IsLastOf line more up (items log)) (IsRefusedAt line more number)
    → MatchResult result (λ log. IsUp text (items log)) (IsRefused text)
last_given items text up rest line more number (Ok log) c off none l =
    subst (λ x. IsUp text x) (sym l.is) (comes_last text up rest line more number c off l.small l.none)
last_given items text up rest line more number (Err (Form k)) c off none (inl (small, same)) =
    subst (λ n. Misfits text n) (sym same) (comes_odd text up rest line more number c off none small)
last_given items text up rest line more number (Err (Form k)) c off none (inr (small, some, same)) =
    subst (λ n. Misfits text n) (sym same) (comes_late text up rest line more number c off small some)
last_given items text up rest line more number (Err NoMemory) c off none l = tt
