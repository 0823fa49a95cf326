-- What is read as an event is the line of that event.
use Rattle.std.proofs.Common.{◌≡◌, ℕ, ◌+◌, ◌^◌, ◌<◌, ◌≤◌, Bool, true, false, cond, List, [], ◌∷◌, ◌++◌, bytes_eq, refl, ap, sym, subst, ◌∙◌, Option, Some, None, ℤ, pos, FitsSigned, w64, rules, append_assoc}
use Rattle.std.specs.Prelude.{option_and_then, codes, unwrap_or, ◌==◌}
use Rattle.std.specs.Fmt.{decimal}
use Rattle.std.proofs.lemmas.Bool.{eqb-true}
use Rattle.std.proofs.lemmas.List.{append-nil, take-append-drop}
use Rattle.std.specs.List.{prefix_len}
use Rattle.chi_core.specs.declared.label.Label.{Label}
use Rattle.chi_core.specs.declared.label.Label.TheVariants.{Local, Pair, Wake, Join, Advance}
use Rattle.chi_num.specs.RealText.{real_text_of}
use Rattle.chi_trace.specs.declared.event.Detail.{Detail}
use Rattle.chi_trace.specs.declared.event.Detail.TheVariants.{Unknown, Bare, At, Of, Sent}
use Rattle.chi_trace.specs.declared.event.Event.{Event}
use Rattle.chi_trace.specs.Events.{unknown_part, is_value_text, Fits, untold, IsNumbered, IsEvent, clock_told, as_told}
use Rattle.chi_trace.specs.Lines.{label_parts, detail_parts, spaced, event_text, event_text_1, IsLine, IsLine1}
use Rattle.chi_trace.specs.Told.{is_part_byte, front, after, part_told, number_told, number_part, two_told, time_told, is_name, local_told, pair_told, wake_told, join_told, advance_told, label_by, label_told, head_told, ended, place_of, place_told, name_of, name_told, value_part, sent_of, sent_told, detail_told, event_of, event_told, event_told_1}
use Rattle.chi_trace.proofs.Names.{told_name}
use Rattle.chi_trace.proofs.Numbers.{AreTwo, are_same, number_back, number_part_back, two_back, time_back}
use Rattle.chi_trace.proofs.Cuts.{then_some, some_same, some_pair, part_back}

-- ---- labels

-- after its kind stand the label's parts, and then what is left
pub record IsLabel (text : List ℕ) (l : Label) (clock : ℤ) (left : List ℕ) : Type 0 where
  pub numbered : IsNumbered l
  pub fits : FitsSigned w64 clock
  pub told : clock_told l clock ≡ clock
  pub whole : text ≡ spaced (label_parts l clock) ++ left

abbrev after_kind : List ℕ → List ℕ → (Label × ℤ) → List ℕ → Type 0
after_kind kind rest a left = IsLabel (32 ∷ (kind ++ rest)) a.0 a.1 left

zero_fits : FitsSigned w64 (pos 0)
zero_fits = search rules

more : (text x part tail left : List ℕ) → text ≡ 32 ∷ (part ++ x) → x ≡ tail ++ left → text ≡ 32 ∷ ((part ++ tail) ++ left)
more text x part tail left e s = e ∙ ap (λ xs. 32 ∷ (part ++ xs)) s ∙ ap (λ xs. 32 ∷ xs) (sym (append_assoc part tail left))

more_two : (text x tail left : List ℕ) (two : ℕ × ℕ) → AreTwo text two x → x ≡ tail ++ left
    → text ≡ 32 ∷ ((decimal two.0 ++ (32 ∷ (decimal two.1 ++ tail))) ++ left)
more_two text x tail left two t s =
    more text (32 ∷ (decimal two.1 ++ x)) (decimal two.0) (32 ∷ (decimal two.1 ++ tail)) left t.whole
    (more (32 ∷ (decimal two.1 ++ x)) x (decimal two.1) tail left refl s)

local_back : (rest left : List ℕ) (a : Label × ℤ) → local_told rest ≡ Some (a, left) → after_kind (codes "local") rest a left
unfolding local_told
local_back rest left a e =
    let p = then_some (number_part rest) (λ p. Some ((Local p.0, pos 0), p.1)) (a, left) e in
    let same = some_pair (Local p.0.0, pos 0) a p.0.1 left p.2 in
    let number = number_part_back rest p.0.1 p.0.0 p.1 in
    subst (λ a. after_kind (codes "local") rest a left) same.0 (record {
      numbered = number.0;
      fits = zero_fits;
      told = refl;
      whole = ap (λ xs. 32 ∷ (codes "local" ++ xs)) (more rest p.0.1 (decimal p.0.0) [] left number.1 same.1);
    })

join_back : (rest left : List ℕ) (a : Label × ℤ) → join_told rest ≡ Some (a, left) → after_kind (codes "join") rest a left
unfolding join_told
join_back rest left a e =
    let p = then_some (number_part rest) (λ p. Some ((Join p.0, pos 0), p.1)) (a, left) e in
    let same = some_pair (Join p.0.0, pos 0) a p.0.1 left p.2 in
    let number = number_part_back rest p.0.1 p.0.0 p.1 in
    subst (λ a. after_kind (codes "join") rest a left) same.0 (record {
      numbered = number.0;
      fits = zero_fits;
      told = refl;
      whole = ap (λ xs. 32 ∷ (codes "join" ++ xs)) (more rest p.0.1 (decimal p.0.0) [] left number.1 same.1);
    })

wake_back : (rest left : List ℕ) (a : Label × ℤ) → wake_told rest ≡ Some (a, left) → after_kind (codes "wake") rest a left
unfolding wake_told
wake_back rest left a e =
    let two = then_some (two_told rest) (λ two. Some ((Wake two.0.0 two.0.1, pos 0), two.1)) (a, left) e in
    let same = some_pair (Wake two.0.0.0 two.0.0.1, pos 0) a two.0.1 left two.2 in
    let are = two_back rest two.0.1 two.0.0 two.1 in
    subst (λ a. after_kind (codes "wake") rest a left) same.0 (record {
      numbered = (are.first, are.second);
      fits = zero_fits;
      told = refl;
      whole = ap (λ xs. 32 ∷ (codes "wake" ++ xs)) (more_two rest two.0.1 [] left two.0.0 are same.1);
    })

pair_back : (rest left : List ℕ) (a : Label × ℤ) → pair_told rest ≡ Some (a, left) → after_kind (codes "pair") rest a left
unfolding pair_told
pair_back rest left a e =
    let s =
    then_some (two_told rest) (λ s. option_and_then (λ r. Some ((Pair s.0.0 s.0.1 r.0.0 r.0.1, pos 0), r.1)) (two_told s.1)) (a, left) e
    in
    let r = then_some (two_told s.0.1) (λ r. Some ((Pair s.0.0.0 s.0.0.1 r.0.0 r.0.1, pos 0), r.1)) (a, left) s.2 in
    let same = some_pair (Pair s.0.0.0 s.0.0.1 r.0.0.0 r.0.0.1, pos 0) a r.0.1 left r.2 in
    let senders = two_back rest s.0.1 s.0.0 s.1 in
    let receivers = two_back s.0.1 r.0.1 r.0.0 r.1 in
    let tail = spaced (decimal r.0.0.0 ∷ decimal r.0.0.1 ∷ []) in
    subst (λ a. after_kind (codes "pair") rest a left) same.0 (record {
      numbered = (senders.first, senders.second, receivers.first, receivers.second);
      fits = zero_fits;
      told = refl;
      whole =
          ap (λ xs. 32 ∷ (codes "pair" ++ xs))
          (more_two rest s.0.1 tail left s.0.0 senders (more_two s.0.1 r.0.1 [] left r.0.0 receivers same.1));
    })

advance_back : (rest left : List ℕ) (a : Label × ℤ) → advance_told rest ≡ Some (a, left) → after_kind (codes "advance") rest a left
unfolding advance_told
advance_back rest left a e =
    let part = then_some (part_told rest) (λ part. option_and_then (λ units. Some ((Advance, units), part.1)) (time_told part.0)) (a, left) e in
    let units = then_some (time_told part.0.0) (λ units. Some ((Advance, units), part.0.1)) (a, left) part.2 in
    let same = some_pair (Advance, units.0) a part.0.1 left units.2 in
    let time = time_back part.0.0 units.0 units.1 in
    let text : rest ≡ 32 ∷ (real_text_of units.0 ++ part.0.1) =
    part_back rest part.0.0 part.0.1 part.1 ∙ ap (λ xs. 32 ∷ (xs ++ part.0.1)) time.1 in
    subst (λ a. after_kind (codes "advance") rest a left) same.0 (record {
      numbered = tt;
      fits = time.0;
      told = refl;
      whole = ap (λ xs. 32 ∷ (codes "advance" ++ xs)) (more rest part.0.1 (real_text_of units.0) [] left text same.1);
    })

kind_back : (kind rest left : List ℕ) (a : Label × ℤ) → label_by kind rest ≡ Some (a, left) → after_kind kind rest a left
kind_back kind rest left a =
    by (bytes_eq kind (codes "local")) refl (bytes_eq kind (codes "pair")) refl (bytes_eq kind (codes "wake")) refl
    (bytes_eq kind (codes "join")) refl (bytes_eq kind (codes "advance")) refl
  where
    this : (word : List ℕ) → bytes_eq kind word ≡ true → after_kind word rest a left → after_kind kind rest a left
    this word q i = subst (λ k. after_kind k rest a left) (sym (are_same kind word q)) i

    by : (l : Bool) → bytes_eq kind (codes "local") ≡ l → (p : Bool) → bytes_eq kind (codes "pair") ≡ p
        → (w : Bool) → bytes_eq kind (codes "wake") ≡ w → (j : Bool) → bytes_eq kind (codes "join") ≡ j
        → (d : Bool) → bytes_eq kind (codes "advance") ≡ d
        → cond l (local_told rest) (cond p (pair_told rest) (cond w (wake_told rest) (cond j (join_told rest) (cond d (advance_told rest) None)))) ≡ Some (a, left)
        → after_kind kind rest a left
    by true ql p qp w qw j qj d qd e = this (codes "local") ql (local_back rest left a e)
    by false ql true qp w qw j qj d qd e = this (codes "pair") qp (pair_back rest left a e)
    by false ql false qp true qw j qj d qd e = this (codes "wake") qw (wake_back rest left a e)
    by false ql false qp false qw true qj d qd e = this (codes "join") qj (join_back rest left a e)
    by false ql false qp false qw false qj true qd e = this (codes "advance") qd (advance_back rest left a e)
    by false ql false qp false qw false qj false qd e = absurd (cc)

label_back : (text left : List ℕ) (a : Label × ℤ) → label_told text ≡ Some (a, left) → IsLabel text a.0 a.1 left
unfolding label_told
label_back text left a e =
    let kind = then_some (part_told text) (λ kind. label_by kind.0 kind.1) (a, left) e in
    subst (λ t. IsLabel t a.0 a.1 left) (sym (part_back text kind.0.0 kind.0.1 kind.1)) (kind_back kind.0.0 kind.0.1 left a kind.2)

-- a turn, and then a label
pub record IsHead (text : List ℕ) (h : ℕ × Label × ℤ) (left : List ℕ) : Type 0 where
  pub turn : h.0 < 2 ^ 64
  pub label : (tail : List ℕ) × IsLabel tail h.1 h.2 left × (text ≡ decimal h.0 ++ tail)

pub head_back : (text left : List ℕ) (h : ℕ × Label × ℤ) → head_told text ≡ Some (h, left) → IsHead text h left
unfolding head_told
head_back text left h e =
    let turn =
    then_some (number_told (2 ^ 64) (front text)) (λ turn. option_and_then (λ label. Some ((turn, label.0.0, label.0.1), label.1)) (label_told (after text))) (h, left) e
    in
    let label = then_some (label_told (after text)) (λ label. Some ((turn.0, label.0.0, label.0.1), label.1)) (h, left) turn.2 in
    let same = some_pair (turn.0, label.0.0.0, label.0.0.1) h label.0.1 left label.2 in
    let number = number_back (2 ^ 64) turn.0 (front text) turn.1 in
    let is = label_back (after text) label.0.1 label.0.0 label.1 in
    let whole : text ≡ decimal turn.0 ++ after text =
    sym (take-append-drop (prefix_len is_part_byte text) text) ∙ ap (λ xs. xs ++ after text) number.1 in
    subst (λ h. IsHead text h left) same.0 (record {
      turn = number.0;
      label = (after text, subst (λ r. IsLabel (after text) label.0.0.0 label.0.0.1 r) same.1 is, whole);
    })

-- ---- details

-- a text is the parts of a detail of the label
pub record IsDetail (text : List ℕ) (l : Label) (d : Detail) : Type 0 where
  pub fits : Fits l d
  pub whole : text ≡ spaced (detail_parts l d)

ended_back : {A : Type 0} (a b : A) (left : List ℕ) → ended a left ≡ Some b → (a ≡ b) × (left ≡ [])
ended_back a b [] e = (some_same a b e, refl)
ended_back a b (c ∷ cs) e = absurd (cc)

last : (part left : List ℕ) → left ≡ [] → part ++ left ≡ part ++ []
last part left e = ap (λ xs. part ++ xs) e

place_of_back : (p : ℕ) (name line left : List ℕ) (d : Detail) → place_of name line left ≡ Some d
    → IsDetail (32 ∷ (name ++ (32 ∷ (line ++ left)))) (Local p) d
place_of_back p name line left d =
    by (bytes_eq name unknown_part) refl (bytes_eq line unknown_part) refl (is_name name) refl (number_told (2 ^ 32) line) refl
  where
    by : (u : Bool) → bytes_eq name unknown_part ≡ u → (v : Bool) → bytes_eq line unknown_part ≡ v → (n : Bool) → is_name name ≡ n
        → (o : Option ℕ) → number_told (2 ^ 32) line ≡ o
        → cond u (cond v (ended Unknown left) None) (cond n (option_and_then (λ n. ended (At name n) left) o) None) ≡ Some d
        → IsDetail (32 ∷ (name ++ (32 ∷ (line ++ left)))) (Local p) d
    by true qu true qv n qn o qo e =
        let end = ended_back Unknown d left e in
        subst (λ d. IsDetail (32 ∷ (name ++ (32 ∷ (line ++ left)))) (Local p) d) end.0 (record {
          fits = tt;
          whole = rw (are_same name unknown_part qu, are_same line unknown_part qv, end.1) refl;
        })
    by true qu false qv n qn o qo e = absurd (cc)
    by false qu v qv true qn (Some k) qo e =
        let end = ended_back (At name k) d left e in
        let number = number_back (2 ^ 32) k line qo in
        subst (λ d. IsDetail (32 ∷ (name ++ (32 ∷ (line ++ left)))) (Local p) d) end.0 (record {
          fits = (told_name name qn, number.0);
          whole = ap (λ xs. 32 ∷ (name ++ (32 ∷ xs))) (ap (λ xs. xs ++ left) number.1 ∙ last (decimal k) left end.1);
        })
    by false qu v qv true qn None qo e = absurd (cc)
    by false qu v qv false qn o qo e = absurd (cc)

place_back : (p : ℕ) (rest : List ℕ) (d : Detail) → place_told rest ≡ Some d → IsDetail rest (Local p) d
unfolding place_told
place_back p rest d e =
    let name = then_some (part_told rest) (λ name. option_and_then (λ line. place_of name.0 line.0 line.1) (part_told name.1)) d e in
    let line = then_some (part_told name.0.1) (λ line. place_of name.0.0 line.0 line.1) d name.2 in
    let whole : rest ≡ 32 ∷ (name.0.0 ++ (32 ∷ (line.0.0 ++ line.0.1))) =
    part_back rest name.0.0 name.0.1 name.1 ∙ ap (λ xs. 32 ∷ (name.0.0 ++ xs)) (part_back name.0.1 line.0.0 line.0.1 line.1) in
    subst (λ t. IsDetail t (Local p) d) (sym whole) (place_of_back p name.0.0 line.0.0 line.0.1 d line.2)

sent_of_back : (p a q b : ℕ) (channel value : List ℕ) (d : Detail) → sent_of channel value ≡ Some d
    → IsDetail (32 ∷ (channel ++ (32 ∷ value))) (Pair p a q b) d
sent_of_back p a q b channel value d =
    by (bytes_eq channel unknown_part) refl (bytes_eq value unknown_part) refl (is_value_text value) refl (number_told (2 ^ 32) channel) refl
  where
    by : (u : Bool) → bytes_eq channel unknown_part ≡ u → (v : Bool) → bytes_eq value unknown_part ≡ v → (t : Bool) → is_value_text value ≡ t
        → (o : Option ℕ) → number_told (2 ^ 32) channel ≡ o
        → cond u (cond v (Some Unknown) None) (cond t (option_and_then (λ n. Some (Sent n value)) o) None) ≡ Some d
        → IsDetail (32 ∷ (channel ++ (32 ∷ value))) (Pair p a q b) d
    by true qu true qv t qt o qo e =
        subst (λ d. IsDetail (32 ∷ (channel ++ (32 ∷ value))) (Pair p a q b) d) (some_same Unknown d e) (record {
          fits = tt;
          whole = rw (are_same channel unknown_part qu, are_same value unknown_part qv) refl;
        })
    by true qu false qv t qt o qo e = absurd (cc)
    by false qu v qv true qt (Some k) qo e =
        let number = number_back (2 ^ 32) k channel qo in
        subst (λ d. IsDetail (32 ∷ (channel ++ (32 ∷ value))) (Pair p a q b) d) (some_same (Sent k value) d e) (record {
          fits = (number.0, qt);
          whole = ap (λ xs. 32 ∷ (xs ++ (32 ∷ value))) number.1 ∙ ap (λ xs. 32 ∷ (decimal k ++ (32 ∷ xs))) (sym (append-nil value));
        })
    by false qu v qv true qt None qo e = absurd (cc)
    by false qu v qv false qt o qo e = absurd (cc)

value_back : (rest value : List ℕ) → value_part rest ≡ Some value → rest ≡ 32 ∷ value
unfolding value_part
value_back [] value e = absurd (cc)
value_back (c ∷ cs) value e = by (c == 32) refl e
  where
    by : (b : Bool) → (c == 32) ≡ b → cond b (Some cs) None ≡ Some value → c ∷ cs ≡ 32 ∷ value
    by false q e = absurd (cc)
    by true q e = ap (λ x. x ∷ cs) (eqb-true c 32 q) ∙ ap (λ xs. 32 ∷ xs) (some_same cs value e)

sent_back : (p a q b : ℕ) (rest : List ℕ) (d : Detail) → sent_told rest ≡ Some d → IsDetail rest (Pair p a q b) d
unfolding sent_told
sent_back p a q b rest d e =
    let channel = then_some (part_told rest) (λ channel. option_and_then (λ value. sent_of channel.0 value) (value_part channel.1)) d e in
    let value = then_some (value_part channel.0.1) (λ value. sent_of channel.0.0 value) d channel.2 in
    let whole : rest ≡ 32 ∷ (channel.0.0 ++ (32 ∷ value.0)) =
    part_back rest channel.0.0 channel.0.1 channel.1 ∙ ap (λ xs. 32 ∷ (channel.0.0 ++ xs)) (value_back channel.0.1 value.0 value.1) in
    subst (λ t. IsDetail t (Pair p a q b) d) (sym whole) (sent_of_back p a q b channel.0.0 value.0 d value.2)

-- a name alone, or none
record IsNamed (text : List ℕ) (d : Detail) : Type 0 where
  fits : (p a : ℕ) → Fits (Wake p a) d × Fits (Join p) d
  whole : (p a : ℕ) → (text ≡ spaced (detail_parts (Wake p a) d)) × (text ≡ spaced (detail_parts (Join p) d))

name_of_back : (name left : List ℕ) (d : Detail) → name_of name left ≡ Some d → IsNamed (32 ∷ (name ++ left)) d
name_of_back name left d = by (bytes_eq name unknown_part) refl (is_name name) refl
  where
    by : (u : Bool) → bytes_eq name unknown_part ≡ u → (n : Bool) → is_name name ≡ n
        → cond u (ended Unknown left) (cond n (ended (Of name) left) None) ≡ Some d → IsNamed (32 ∷ (name ++ left)) d
    by true qu n qn e =
        let end = ended_back Unknown d left e in
        let is : 32 ∷ (name ++ left) ≡ 32 ∷ 45 ∷ [] = rw (are_same name unknown_part qu, end.1) refl in
        subst (λ d. IsNamed (32 ∷ (name ++ left)) d) end.0 (record { fits = λ p a. (tt, tt); whole = λ p a. (is, is) })
    by false qu true qn e =
        let end = ended_back (Of name) d left e in
        let is : 32 ∷ (name ++ left) ≡ 32 ∷ (name ++ []) = ap (λ xs. 32 ∷ xs) (last name left end.1) in
        let named = told_name name qn in
        subst (λ d. IsNamed (32 ∷ (name ++ left)) d) end.0 (record { fits = λ p a. (named, named); whole = λ p a. (is, is) })
    by false qu false qn e = absurd (cc)

name_back : (rest : List ℕ) (d : Detail) → name_told rest ≡ Some d → IsNamed rest d
unfolding name_told
name_back rest d e =
    let name = then_some (part_told rest) (λ name. name_of name.0 name.1) d e in
    subst (λ t. IsNamed t d) (sym (part_back rest name.0.0 name.0.1 name.1)) (name_of_back name.0.0 name.0.1 d name.2)

detail_back : (l : Label) (rest : List ℕ) (d : Detail) → detail_told l rest ≡ Some d → IsDetail rest l d
detail_back (Local p) rest d e = place_back p rest d e
detail_back (Pair p a q b) rest d e = sent_back p a q b rest d e
detail_back (Wake p a) rest d e = let n = name_back rest d e in record { fits = (n.fits p a).0; whole = (n.whole p a).0 }
detail_back (Join p) rest d e = let n = name_back rest d e in record { fits = (n.fits p 0).1; whole = (n.whole p 0).1 }
detail_back Advance rest d e =
    let end = ended_back Bare d rest e in
    subst (λ d. IsDetail rest Advance d) end.0 (record { fits = tt; whole = end.1 })

-- ---- whole lines

untold_fits : (l : Label) → Fits l (untold l)
untold_fits (Local p) = tt
untold_fits (Pair p a q b) = tt
untold_fits (Wake p a) = tt
untold_fits (Join p) = tt
untold_fits Advance = tt

whole_event : (h : ℕ × Label × ℤ) (left text : List ℕ) (d : Detail) → IsHead text h left → Fits h.1 d → IsEvent (event_of h d)
whole_event h left text d i f = record { turn = i.turn; label = i.label.1.numbered; clock = i.label.1.fits; detail = f }

pub event_back : (text : List ℕ) (e : Event) → event_told text ≡ Some e → IsLine text e
unfolding event_told event_text
event_back text e is =
    let head = then_some (head_told text) (λ head. option_and_then (λ detail. Some (event_of head.0 detail)) (detail_told head.0.1 head.1)) e is in
    let detail = then_some (detail_told head.0.0.1 head.0.1) (λ detail. Some (event_of head.0.0 detail)) e head.2 in
    let h = head_back text head.0.1 head.0.0 head.1 in
    let d = detail_back head.0.0.1 head.0.1 detail.0 detail.1 in
    let label = h.label.1 in
    subst (λ e. IsLine text e) (some_same (event_of head.0.0 detail.0) e detail.2) (record {
      event = whole_event head.0.0 head.0.1 text detail.0 h d.fits;
      told = ap (λ clock. event_of (head.0.0.0, head.0.0.1, clock) detail.0) label.told;
      spelled =
          h.label.2
          ∙ ap (λ xs. decimal head.0.0.0 ++ xs) (label.whole ∙ ap (λ xs. spaced (label_parts head.0.0.1 head.0.0.2) ++ xs) d.whole)
          ∙ sym (append_assoc (decimal head.0.0.0) (spaced (label_parts head.0.0.1 head.0.0.2)) (spaced (detail_parts head.0.0.1 detail.0)));
    })

pub event_back_1 : (text : List ℕ) (e : Event) → event_told_1 text ≡ Some e → IsLine1 text e
unfolding event_told_1 event_text_1
event_back_1 text e is =
    let head = then_some (head_told text) (λ head. ended (event_of head.0 (untold head.0.1)) head.1) e is in
    let end = ended_back (event_of head.0.0 (untold head.0.0.1)) e head.0.1 head.2 in
    let h = head_back text head.0.1 head.0.0 head.1 in
    let label = h.label.1 in
    subst (λ e. IsLine1 text e) end.0 (record {
      event = whole_event head.0.0 head.0.1 text (untold head.0.0.1) h (untold_fits head.0.0.1);
      told = ap (λ clock. event_of (head.0.0.0, head.0.0.1, clock) (untold head.0.0.1)) label.told;
      no_detail = refl;
      spelled =
          h.label.2
          ∙ ap (λ xs. decimal head.0.0.0 ++ xs)
          (label.whole ∙ ap (λ xs. spaced (label_parts head.0.0.1 head.0.0.2) ++ xs) end.1 ∙ append-nil (spaced (label_parts head.0.0.1 head.0.0.2)));
    })
