-- The text of pieces: what was written, before what is to come.
use Rattle.std.proofs.Common.{◌≡◌, ℕ, ◌+◌, ◌<◌, ◌≤◌, nat_le, Bool, true, false, ◌&&◌, cond, Option, Some, None, ◌⊎◌, inl, inr, Result, Ok, Err, List, [], ◌∷◌, ◌++◌, length, get_or, drop, subst, sym, ◌∙◌, ap, refl, arith}
use Rattle.std.specs.Prelude.{option_map, is_some}
use Rattle.std.specs.Option.{option_and_then}
use Rattle.std.proofs.lemmas.Bool.{false≢true, and_parts, cases_lt}
use Rattle.std.proofs.lemmas.List.{append-nil, append_assoc, length-append, drop_more, drop_all}
use Rattle.chi_value.specs.declared.value.Value.{Value, Value-F, out-Value}
use Rattle.chi_value.specs.declared.format.Field.{Field}
use Rattle.chi_value.specs.declared.format.Piece.{Piece}
use Rattle.chi_value.specs.declared.format.Piece.TheVariants.{Plain, Whole, Any, Fixed}
use Rattle.chi_value.specs.declared.text.limit.TheConstants.{MOST_TEXT}
use Rattle.chi_value.specs.declared.text.fault.TextFault.{TextFault}
use Rattle.chi_value.specs.declared.text.fault.TextFault.TheVariants as text_fault
use Rattle.chi_value.specs.Limit as limit
use Rattle.chi_value.specs.Plain.{is_plain, within}
use Rattle.chi_format.specs.Format.{any_text, whole_text, fixed_text, filled, shown, before, rendered, is_whole, is_real, takes, may_render}
use Rattle.chi_format.specs.Growth.{Grows}
use Rattle.chi_format.specs.SoFar.{is_shown}
use Rattle.chi_format.specs.Refusal.{PastLimit, refusal_of}

abbrev Names : Type 0
Names = List (List (List ℕ))

-- the condition and the definition agree

mapped : {A B : Type 0} (f : A → B) (o : Option A) → is_some (option_map f o) ≡ is_some o
mapped f None = refl
mapped f (Some x) = refl

whole_shown : (v : Value-F Value) → is_some (whole_text v) ≡ is_whole v
whole_shown (Value-F.Int number) = refl
whole_shown _ = refl

given : {A : Type 0} (b : Bool) (x : A) → is_some (cond b (Some x) None) ≡ b
given true x = refl
given false x = refl

fixed_shown : (k : ℕ) (v : Value-F Value) → is_some (fixed_text k v) ≡ is_real v && nat_le k 9
fixed_shown k (Value-F.Real units) = given (nat_le k 9) _
fixed_shown k _ = refl

pub shown_is : (names : Names) (p : Piece) (v : Value) → is_some (shown names p v) ≡ takes names p v
shown_is names (Plain bytes) v = refl
shown_is names (Any field) v = mapped (filled field) (any_text names v) ∙ given (is_plain v && within names v) _
shown_is names (Whole field) v = mapped (filled field) (whole_text (out-Value v)) ∙ whole_shown (out-Value v)
shown_is names (Fixed field k) v = mapped (filled field) (fixed_text k (out-Value v)) ∙ fixed_shown k (out-Value v)

turned : (text rest : Option (List ℕ)) → is_some (option_and_then (before rest) text) ≡ is_some text && is_some rest
turned None rest = refl
turned (Some text) rest = mapped (λ after. text ++ after) rest

one_more : (names : Names) (p : Piece) (v : Value) (rest : Option (List ℕ)) (b : Bool) → is_some rest ≡ b
    → is_some (option_and_then (before rest) (shown names p v)) ≡ takes names p v && b
one_more names p v rest b h = turned (shown names p v) rest ∙ ap (λ s. s && is_some rest) (shown_is names p v) ∙ ap (λ r. takes names p v && r) h

pub rendered_is : (names : Names) (pieces : List Piece) (values : List Value) → is_some (rendered names pieces values) ≡ may_render names pieces values
rendered_is names [] [] = refl
rendered_is names [] (v ∷ values) = refl
rendered_is names (Plain bytes ∷ pieces) values = mapped (λ after. bytes ++ after) (rendered names pieces values) ∙ rendered_is names pieces values
rendered_is names (Any field ∷ pieces) [] = refl
rendered_is names (Whole field ∷ pieces) [] = refl
rendered_is names (Fixed field k ∷ pieces) [] = refl
rendered_is names (Any field ∷ pieces) (v ∷ values) = one_more names (Any field) v _ _ (rendered_is names pieces values)
rendered_is names (Whole field ∷ pieces) (v ∷ values) = one_more names (Whole field) v _ _ (rendered_is names pieces values)
rendered_is names (Fixed field k ∷ pieces) (v ∷ values) = one_more names (Fixed field k) v _ _ (rendered_is names pieces values)

-- one piece more

-- each piece that isn't plain is shown
pub shown_kind : (p : Piece) → ((x : Field) × p ≡ Any x) ⊎ (((x : Field) × p ≡ Whole x) ⊎ ((x : Field) × (k : ℕ) × p ≡ Fixed x k)) → is_shown p ≡ true
shown_kind p (inl h) = ap is_shown h.1
shown_kind p (inr (inl h)) = ap is_shown h.1
shown_kind p (inr (inr h)) = ap is_shown h.2

-- a text that was written, before the rest
unfoldable pub written : List ℕ → Option (List ℕ) → Option (List ℕ)
written text rest = before rest text

pub written-none : (rest : Option (List ℕ)) → written [] rest ≡ rest
unfolding written
written-none None = refl
written-none (Some text) = refl

written-more : (text more : List ℕ) (rest : Option (List ℕ)) → written text (before rest more) ≡ written (text ++ more) rest
unfolding written
written-more text more None = refl
written-more text more (Some rest) = ap Some (sym (append_assoc text more rest))

turn : {A : Type 0} (xs : List A) (k : ℕ) (x : A) → k < length xs → x ≡ get_or xs k x → drop k xs ≡ x ∷ drop (k + 1) xs
turn xs k x h at = drop_more xs k x h ∙ ap (λ y. y ∷ drop (k + 1) xs) (sym at)

pub written-plain : (names : Names) (text : List ℕ) (pieces : List Piece) (k : ℕ) (p : Piece) (bytes : List ℕ) (values : List Value)
    → k < length pieces → p ≡ get_or pieces k p → p ≡ Plain bytes
    → written text (rendered names (drop k pieces) values) ≡ written (text ++ bytes) (rendered names (drop (k + 1) pieces) values)
written-plain names text pieces k p bytes values h at is =
    ap (λ l. written text (rendered names l values)) (turn pieces k p h at ∙ ap (λ y. y ∷ drop (k + 1) pieces) is)
    ∙ written-more text bytes (rendered names (drop (k + 1) pieces) values)

pub fits-plain : (names : Names) (pieces : List Piece) (k : ℕ) (p : Piece) (bytes : List ℕ) (values : List Value)
    → k < length pieces → p ≡ get_or pieces k p → p ≡ Plain bytes
    → may_render names (drop k pieces) values ≡ true → may_render names (drop (k + 1) pieces) values ≡ true
fits-plain names pieces k p bytes values h at is fits =
    sym (ap (λ l. may_render names l values) (turn pieces k p h at ∙ ap (λ y. y ∷ drop (k + 1) pieces) is)) ∙ fits

takes_first : (names : Names) (p : Piece) (pieces : List Piece) (v : Value) (values : List Value) → is_shown p ≡ true
    → may_render names (p ∷ pieces) (v ∷ values) ≡ true → (takes names p v ≡ true) × (may_render names pieces values ≡ true)
takes_first names (Plain bytes) pieces v values h fits = absurd (false≢true h)
takes_first names (Any field) pieces v values h fits = and_parts _ _ fits
takes_first names (Whole field) pieces v values h fits = and_parts _ _ fits
takes_first names (Fixed field k) pieces v values h fits = and_parts _ _ fits

shown_first : (names : Names) (p : Piece) (pieces : List Piece) (v : Value) (values : List Value) → is_shown p ≡ true
    → rendered names (p ∷ pieces) (v ∷ values) ≡ option_and_then (before (rendered names pieces values)) (shown names p v)
shown_first names (Plain bytes) pieces v values h = absurd (false≢true h)
shown_first names (Any field) pieces v values h = refl
shown_first names (Whole field) pieces v values h = refl
shown_first names (Fixed field k) pieces v values h = refl

-- the piece and the value of a turn
pub record Turn (names : Names) (pieces : List Piece) (values : List Value) (k n : ℕ) (p : Piece) (v : Value) : Type 0 where
  pub shows : is_shown p ≡ true
  pub below : k < length pieces
  pub piece : p ≡ get_or pieces k p
  pub left : n < length values
  pub value : v ≡ get_or values n v
  pub fits : may_render names (drop k pieces) (drop n values) ≡ true

-- no value is missing
no_value : (names : Names) (p : Piece) (pieces : List Piece) → is_shown p ≡ true → may_render names (p ∷ pieces) [] ≡ false
no_value names (Plain bytes) pieces h = absurd (false≢true h)
no_value names (Any field) pieces h = refl
no_value names (Whole field) pieces h = refl
no_value names (Fixed field k) pieces h = refl

pub some_left : (names : Names) (pieces : List Piece) (values : List Value) (k n : ℕ) (p : Piece) → is_shown p ≡ true → k < length pieces
    → p ≡ get_or pieces k p → may_render names (drop k pieces) (drop n values) ≡ true → n < length values
some_left names pieces values k n p shows below piece fits =
    elim (cases_lt n (length values)) [
      | inl less ↦ less
      | inr none ↦ absurd (false≢true (sym (no_value names p (drop (k + 1) pieces) shows)
          ∙ subst (λ vs. may_render names (p ∷ drop (k + 1) pieces) vs ≡ true) (drop_all n values none)
          (subst (λ ps. may_render names ps (drop n values) ≡ true) (turn pieces k p below piece) fits)))
    ]

pub turn_at : (names : Names) (pieces : List Piece) (values : List Value) (k n : ℕ) (p : Piece) (v : Value)
    → ((x : Field) × p ≡ Any x) ⊎ (((x : Field) × p ≡ Whole x) ⊎ ((x : Field) × (places : ℕ) × p ≡ Fixed x places))
    → k < length pieces → p ≡ get_or pieces k p → v ≡ get_or values n v → may_render names (drop k pieces) (drop n values) ≡ true
    → Turn names pieces values k n p v
turn_at names pieces values k n p v kind below piece value fits = record {
  shows = shown_kind p kind;
  below = below;
  piece = piece;
  left = some_left names pieces values k n p (shown_kind p kind) below piece fits;
  value = value;
  fits = fits;
}

turn_fits : {names : Names} {pieces : List Piece} {values : List Value} {k n : ℕ} {p : Piece} {v : Value} → Turn names pieces values k n p v
    → (takes names p v ≡ true) × (may_render names (drop (k + 1) pieces) (drop (n + 1) values) ≡ true)
turn_fits {names} {pieces} {values} {k} {n} {p} {v} t =
    takes_first names p (drop (k + 1) pieces) v (drop (n + 1) values) t.shows
    (subst (λ ps. may_render names ps (v ∷ drop (n + 1) values) ≡ true) (turn pieces k p t.below t.piece)
    (subst (λ vs. may_render names (drop k pieces) vs ≡ true) (turn values n v t.left t.value) t.fits))

pub takes-next : {names : Names} {pieces : List Piece} {values : List Value} {k n : ℕ} {p : Piece} {v : Value} → Turn names pieces values k n p v
    → takes names p v ≡ true
takes-next t = (turn_fits t).0

pub fits-shown : {names : Names} {pieces : List Piece} {values : List Value} {k n : ℕ} {p : Piece} {v : Value} → Turn names pieces values k n p v
    → may_render names (drop (k + 1) pieces) (drop (n + 1) values) ≡ true
fits-shown t = (turn_fits t).1

after : (text more : List ℕ) (rest shown : Option (List ℕ)) → shown ≡ Some more → written text (option_and_then (before rest) shown) ≡ written (text ++ more) rest
after text more rest shown h = ap (λ s. written text (option_and_then (before rest) s)) h ∙ written-more text more rest

turn_written : {names : Names} {pieces : List Piece} {values : List Value} {k n : ℕ} {p : Piece} {v : Value} → Turn names pieces values k n p v
    → (text more : List ℕ) → shown names p v ≡ Some more
    → written text (rendered names (drop k pieces) (drop n values)) ≡ written (text ++ more) (rendered names (drop (k + 1) pieces) (drop (n + 1) values))
turn_written {names} {pieces} {values} {k} {n} {p} {v} t text more h =
    ap (λ ps. written text (rendered names ps (drop n values))) (turn pieces k p t.below t.piece)
    ∙ ap (λ vs. written text (rendered names (p ∷ drop (k + 1) pieces) vs)) (turn values n v t.left t.value)
    ∙ ap (written text) (shown_first names p (drop (k + 1) pieces) v (drop (n + 1) values) t.shows)
    ∙ after text more (rendered names (drop (k + 1) pieces) (drop (n + 1) values)) (shown names p v) h

pub rest-plain : (names : Names) (text new given : List ℕ) (pieces : List Piece) (k : ℕ) (p : Piece) (bytes : List ℕ) (values : List Value) (all : Option (List ℕ))
    → k < length pieces → p ≡ get_or pieces k p → p ≡ Plain bytes → given ≡ bytes → new ≡ text ++ given
    → written text (rendered names (drop k pieces) values) ≡ all → written new (rendered names (drop (k + 1) pieces) values) ≡ all
rest-plain names text new given pieces k p bytes values all below at is same grown whole =
    ap (λ t. written t (rendered names (drop (k + 1) pieces) values)) (grown ∙ ap (λ b. text ++ b) same)
    ∙ sym (written-plain names text pieces k p bytes values below at is) ∙ whole

pub rest-shown : {names : Names} {pieces : List Piece} {values : List Value} {k n : ℕ} {p : Piece} {v : Value} → Turn names pieces values k n p v
    → (text new : List ℕ) (done : Unit {0}) (more all : Option (List ℕ)) → shown names p v ≡ more → Grows (Ok done) text new more
    → written text (rendered names (drop k pieces) (drop n values)) ≡ all
    → (length new ≤ MOST_TEXT) × (written new (rendered names (drop (k + 1) pieces) (drop (n + 1) values)) ≡ all)
rest-shown t text new done None all is grown whole = absurd grown
rest-shown {names} {pieces} {values} {k} {n} t text new done (Some more) all is grown whole =
    (grown.1, ap (λ x. written x (rendered names (drop (k + 1) pieces) (drop (n + 1) values))) grown.0 ∙ sym (turn_written t text more is) ∙ whole)

-- what refuses a part refuses the whole
past : (f : TextFault) (text more : List ℕ) (rest all : Option (List ℕ)) → is_some rest ≡ true → written (text ++ more) rest ≡ all
    → limit.PastLimit f (length text + length more) → PastLimit (refusal_of f) all
unfolding written
past text_fault.NoMemory text more rest all some is h = tt
past text_fault.Limit text more None all some is h = absurd (false≢true some)
past text_fault.Limit text more (Some rest) all some is h =
    subst (PastLimit (refusal_of text_fault.Limit)) is
    (let sizes : length ((text ++ more) ++ rest) ≡ (length text + length more) + length rest =
    length-append (text ++ more) rest ∙ ap (λ n. n + length rest) (length-append text more) in
    omega (arith, h, sizes))

pub past-plain : (f : TextFault) (names : Names) (text new given : List ℕ) (pieces : List Piece) (k : ℕ) (p : Piece) (bytes : List ℕ) (values : List Value) (all : Option (List ℕ))
    → k < length pieces → p ≡ get_or pieces k p → p ≡ Plain bytes → given ≡ bytes → may_render names (drop k pieces) values ≡ true
    → written text (rendered names (drop k pieces) values) ≡ all → limit.Appends (Err f) text new given → PastLimit (refusal_of f) all
past-plain f names text new given pieces k p bytes values all h at is same fits whole refused =
    past f text bytes (rendered names (drop (k + 1) pieces) values) all
    (rendered_is names (drop (k + 1) pieces) values ∙ fits-plain names pieces k p bytes values h at is fits)
    (sym (written-plain names text pieces k p bytes values h at is) ∙ whole)
    (subst (λ b. limit.PastLimit f (length text + length b)) same refused)

pub past-shown : {names : Names} {pieces : List Piece} {values : List Value} {k n : ℕ} {p : Piece} {v : Value} → Turn names pieces values k n p v
    → (f : TextFault) (text new : List ℕ) (more all : Option (List ℕ)) → written text (rendered names (drop k pieces) (drop n values)) ≡ all
    → shown names p v ≡ more → Grows (Err f) text new more → PastLimit (refusal_of f) all
past-shown t f text new None all whole is refused = absurd refused
past-shown {names} {pieces} {values} {k} {n} t f text new (Some more) all whole is refused =
    past f text more (rendered names (drop (k + 1) pieces) (drop (n + 1) values)) all
    (rendered_is names (drop (k + 1) pieces) (drop (n + 1) values) ∙ fits-shown t)
    (sym (turn_written t text more is) ∙ whole) refused

-- the end: no piece and no value is left
pub written-all : (names : Names) (text : List ℕ) (pieces : List Piece) (k : ℕ) (values : List Value) (all : Option (List ℕ)) → length pieces ≤ k
    → may_render names (drop k pieces) values ≡ true → written text (rendered names (drop k pieces) values) ≡ all → all ≡ Some text
unfolding written
written-all names text pieces k [] all h fits is =
    sym is ∙ ap (λ ps. before (rendered names ps []) text) (drop_all k pieces h) ∙ ap Some (append-nil text)
written-all names text pieces k (v ∷ values) all h fits is =
    absurd (false≢true (sym (ap (λ ps. may_render names ps (v ∷ values)) (drop_all k pieces h)) ∙ fits))

pub ruleset turns = (written-none, written-all)
