-- Names that are bound.
use Rattle.std.proofs.Common.{◌+◌, ◌≤◌, ◌++◌, drop, ◌≡◌, ◌≢◌, ℕ, ◌<◌, Bool, true, false, nat_lt, List, [], ◌∷◌, Option, Some, None, length, get_or, refl, ap, sym, ◌∙◌, rules, arith, slice_set}
use Rattle.std.specs.Prelude.{if◌then◌else◌, option_map, reverse}
use Rattle.std.proofs.lemmas.List.{drop_more, drop_all, reverse-append, reverse-reverse}
use Rattle.chi_core.specs.Reading.{parts_of}
use Rattle.chi_core_frame.specs.Bindings.{bound_parts}
use Rattle.std.specs.Option.{option_and_then}
use Rattle.chi_value.specs.declared.value.Value.{Value}
use Rattle.chi_core.specs.Variables.{Variables, Bindings, with_slot, bound, bind, side_by_side}

bind_at : (o : Option Variables) → option_and_then (bind []) o ≡ o
bind_at None = refl
bind_at (Some v) = refl

bound_one : (slot : ℕ) (x : Value) (variables : Variables) → bound (slot ∷ []) x variables ≡ with_slot slot x variables
bound_one slot x variables = bind_at (with_slot slot x variables)

pub only : (slots : List ℕ) (slot : ℕ) → length slots ≡ 1 → slot ≡ get_or slots 0 slot → slots ≡ slot ∷ []
only [] slot e at = absurd (omega arith)
only (a ∷ []) slot e at = ap (λ a. a ∷ []) (sym at)
only (a ∷ b ∷ rest) slot e at = absurd (omega arith)

slot_there : (slot : ℕ) (x : Value) (variables : Variables) → with_slot slot x variables ≢ None → slot < length variables
slot_there slot x variables h = by_test (nat_lt slot (length variables)) refl h
  where
    by_test : (b : Bool) → nat_lt slot (length variables) ≡ b → (if b then Some (slice_set variables slot (Some x)) else None) ≢ None → slot < length variables
    by_test true e h = search (rules, e)
    by_test false e h = absurd (h refl)

pub one_there : (slots : List ℕ) (slot : ℕ) (x : Value) (variables : Variables) → slots ≡ slot ∷ [] → bound slots x variables ≢ None → slot < length variables
one_there slots slot x variables e h = slot_there slot x variables (λ a. h (ap (λ l. bound l x variables) e ∙ bound_one slot x variables ∙ a))

pub one_is : (slots : List ℕ) (slot : ℕ) (x : Value) (variables new : Variables) → slots ≡ slot ∷ [] → with_slot slot x variables ≡ Some new → bound slots x variables ≡ Some new
one_is slots slot x variables new e is = ap (λ l. bound l x variables) e ∙ bound_one slot x variables ∙ is

-- several names

several : (slots : List ℕ) (x : Value) (variables : Variables) → length slots ≢ 1
    → bound slots x variables ≡ option_and_then (λ bindings. bind bindings variables) (option_and_then (side_by_side slots) (parts_of x))
several [] x variables h = refl
several (a ∷ []) x variables h = absurd (h refl)
several (a ∷ b ∷ rest) x variables h = refl

module _ (slots : List ℕ) (x : Value) (variables : Variables) (many : length slots ≢ 1) where
  pub some_parts : bound slots x variables ≢ None → parts_of x ≢ None
  some_parts h e = h (several slots x variables many ∙ ap (λ o. option_and_then (λ bindings. bind bindings variables) (option_and_then (side_by_side slots) o)) e)

  parts_at : (parts : List Value) → parts_of x ≡ Some parts → bound slots x variables ≡ bound_parts slots parts variables
  parts_at parts e = several slots x variables many ∙ ap (λ o. option_and_then (λ bindings. bind bindings variables) (option_and_then (side_by_side slots) o)) e

  pub parts_there : (parts : List Value) → parts_of x ≡ Some parts → bound slots x variables ≢ None → bound_parts slots parts variables ≢ None
  parts_there parts e h a = h (parts_at parts e ∙ a)

  pub parts_give : (parts : List Value) (new : Variables) → parts_of x ≡ Some parts → bound_parts slots parts variables ≡ Some new → bound slots x variables ≡ Some new
  parts_give parts new e g = parts_at parts e ∙ g

-- one after another
module _ (slot : ℕ) (x : Value) (slots : List ℕ) (rest : List Value) (variables : Variables) where
  at : (o : Option Bindings) → option_and_then (λ bindings. bind bindings variables) (option_map (λ rest. (slot, x) ∷ rest) o) ≢ None
      → (slot < length variables) × ((new : Variables) → with_slot slot x variables ≡ Some new
      → option_and_then (λ bindings. bind bindings variables) (option_map (λ rest. (slot, x) ∷ rest) o) ≡ option_and_then (λ bindings. bind bindings new) o)
  at None h = absurd (h refl)
  at (Some bindings) h = (
    slot_there slot x variables (λ e. h (ap (option_and_then (bind bindings)) e)),
    λ new e. ap (option_and_then (bind bindings)) e,
  )

  pub part_there : bound_parts (slot ∷ slots) (x ∷ rest) variables ≢ None → slot < length variables
  part_there h = (at (side_by_side slots rest) h).0

  pub part_goes : (new : Variables) → bound_parts (slot ∷ slots) (x ∷ rest) variables ≢ None → with_slot slot x variables ≡ Some new
      → bound_parts (slot ∷ slots) (x ∷ rest) variables ≡ bound_parts slots rest new
  part_goes new h e = (at (side_by_side slots rest) h).1 new e

module _ (all : List ℕ) (i slot : ℕ) (values rest : List Value) (x : Value) (variables : Variables) (h : i < length all) (is : slot ≡ get_or all i slot) (e : values ≡ rest ++ x ∷ []) where
  same : bound_parts (drop i all) (reverse values) variables ≡ bound_parts (slot ∷ drop (i + 1) all) (x ∷ reverse rest) variables
  same =
      ap (λ l. bound_parts l (reverse values) variables) (drop_more all i slot h ∙ ap (λ s. s ∷ drop (i + 1) all) (sym is))
      ∙ ap (λ l. bound_parts (slot ∷ drop (i + 1) all) l variables) (ap reverse e ∙ reverse-append rest (x ∷ []))

  pub turn_there : bound_parts (drop i all) (reverse values) variables ≢ None → slot < length variables
  turn_there there = part_there slot x (drop (i + 1) all) (reverse rest) variables (λ a. there (same ∙ a))

  pub turn_goes : (new : Variables) → bound_parts (drop i all) (reverse values) variables ≢ None → with_slot slot x variables ≡ Some new
      → bound_parts (drop i all) (reverse values) variables ≡ bound_parts (drop (i + 1) all) (reverse rest) new
  turn_goes new there e2 = same ∙ part_goes slot x (drop (i + 1) all) (reverse rest) variables new (λ a. there (same ∙ a)) e2

pub turn_none : (all : List ℕ) (i : ℕ) (values : List Value) (variables : Variables) → i < length all → values ≡ []
    → bound_parts (drop i all) (reverse values) variables ≢ None → ⊥
turn_none all i values variables h e there =
    there (ap (λ l. bound_parts l (reverse values) variables) (drop_more all i 0 h) ∙ ap (λ l. bound_parts (get_or all i 0 ∷ drop (i + 1) all) (reverse l) variables) e)

pub turn_last : (left : List Value) (variables : Variables) → bound_parts [] left variables ≢ None → bound_parts [] left variables ≡ Some variables
turn_last [] variables h = refl
turn_last (x ∷ left) variables h = absurd (h refl)

pub turn_over : (all : List ℕ) (i : ℕ) (left : List Value) (variables : Variables) → length all ≤ i → bound_parts (drop i all) left variables ≢ None → bound_parts (drop i all) left variables ≡ Some variables
turn_over all i left variables h there =
    let past : drop i all ≡ [] = drop_all i all h in
    let again : bound_parts (drop i all) left variables ≡ bound_parts [] left variables = ap (λ l. bound_parts l left variables) past in
    again ∙ turn_last left variables (λ a. there (again ∙ a))

pub backwards : (values left : List Value) → left ≡ reverse values → reverse left ≡ values
backwards values left e = ap reverse e ∙ reverse-reverse values

pub ruleset turns = (turn_there, turn_goes, turn_none, turn_over, backwards)

pub ruleset one_name = (only, one_there, one_is, some_parts, parts_there, parts_give)
