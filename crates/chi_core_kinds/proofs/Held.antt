-- Variables that hold values of their kinds: more and fewer slots that count as set, slots that are set, names that are bound.
use Rattle.std.proofs.Common.{◌≡◌, ℕ, zero, suc, ◌<◌, Bool, true, false, ◌||◌, cond, nat_eq, lt-ltb, eq-eqb, List, [], ◌∷◌, length, Option, Some, None, refl, sym, ap, subst, ◌∙◌}
use Rattle.std.proofs.lemmas.Bool.{eqb-true, eqb-false}
use Rattle.std.proofs.lemmas.List.{length-set}
use Rattle.std.proofs.lemmas.Option.{slice_get_within}
use Rattle.std.specs.Prelude.{slice_get, slice_set, IsTrue}
use Rattle.std.specs.Option.{IsSomeAnd, option_map, option_and_then}
use Rattle.chi_types.specs.declared.ty.Ty.{Ty, Ty-F, out-Ty}
use Rattle.chi_value.specs.declared.value.Value.{Value, Value-F, out-Value}
use Rattle.chi_core.specs.Kinded.{HoldsOf, Held, WalksFit, Binds, no_binding, one_binding}
use Rattle.chi_core.specs.Kinds.{Kind, Every}
use Rattle.chi_core.specs.Of.{World, Wider, IsOf, Of, of_tuple, of_list, of_set, of_dictionary, PartsOf, no_part, one_part}
use Rattle.chi_core.specs.Reading.{parts_in, elements_in}
use Rattle.chi_core.specs.Scopes.{Scope}
use Rattle.chi_core.specs.SetSlots.{Known, also, also_all}
use Rattle.chi_core.specs.SoundParts.{SlotsTakeParts, no_slot, one_slot, SlotsTake, element_itself, its_parts, WalkedOver, a_list, a_set, a_dictionary}
use Rattle.chi_core.specs.Standing.{Frame, Inner, Looping, Walking}
use Rattle.chi_core.specs.Variables.{Variables, Bindings, set_value, value_at, with_slot, side_by_side, bindings_of, bind, bound, bindings_at}
use Rattle.chi_core.proofs.Lists.{every_nil, every_cons}
use Rattle.chi_core.proofs.Worlds.{grows, value_grows}
use Rattle.chi_core_kinds.proofs.Lists.{set_there, set_elsewhere}

-- what counts as set in one place does in another
abbrev pub Within : Known → Known → Type 0
Within known after = (k : ℕ) → IsTrue (known k) → IsTrue (after k)

-- where one thing is, another is made of it, which there is
pub some_then : {A B : Type 0} (P : A → Type 0) (Q : B → Type 0) (f : A → Option B) (o : Option A) → IsSomeAnd o P → ((x : A) → P x → IsSomeAnd (f x) Q)
    → IsSomeAnd (option_and_then f o) Q
some_then P Q f None h after = h
some_then P Q f (Some x) h after = after x h

pub some_map : {A B : Type 0} (P : A → Type 0) (Q : B → Type 0) (f : A → B) (o : Option A) → IsSomeAnd o P → ((x : A) → P x → Q (f x)) → IsSomeAnd (option_map f o) Q
some_map P Q f None h after = h
some_map P Q f (Some x) h after = after x h

pub within_also : (slot : ℕ) (known : Known) → Within known (also slot known)
within_also slot known k h = by_test (nat_eq k slot)
  where
    by_test : (b : Bool) → IsTrue (b || known k)
    by_test true = refl
    by_test false = h

pub within_all : (slots : List ℕ) (known : Known) → Within known (also_all slots known)
within_all [] known k h = h
within_all (s ∷ slots) known k h = within_all slots (also s known) k (within_also s known k h)

pub also_there : (slot : ℕ) (known : Known) → IsTrue (also slot known slot)
also_there slot known = ap (λ b. b || known slot) (eq-eqb slot slot refl)

-- the slots that are added count as set
pub all_there : (slots : List ℕ) (known : Known) → Every (λ slot. IsTrue (also_all slots known slot)) slots
all_there [] known = every_nil (λ slot. IsTrue (known slot))
all_there (s ∷ slots) known =
    every_cons (λ slot. IsTrue (also_all slots (also s known) slot)) s slots (within_all slots (also s known) s (also_there s known)) (all_there slots (also s known))

holds_grows : (w v : World) → Wider w v → (o : Option Kind) (x : Option (Option Value)) → HoldsOf w o x → HoldsOf v o x
holds_grows w v wider None x h = h
holds_grows w v wider (Some T) None h = h
holds_grows w v wider (Some T) (Some None) h = h
holds_grows w v wider (Some T) (Some (Some x)) h = grows w v wider (out-Value x) T h

pub held_grows : (w v : World) → Wider w v → (scope : Scope) (known : Known) (variables : Variables) → Held w scope known variables → Held v scope known variables
held_grows w v wider scope known variables h = record {
  sized = h.sized;
  each = λ slot k. holds_grows w v wider (slice_get scope.slots slot) (slice_get variables slot) (h.each slot k);
}

pub binds_grow : (w v : World) → Wider w v → (scope : Scope) (slots : List ℕ) (bindings : Bindings) → Binds w scope slots bindings → Binds v scope slots bindings
binds_grow w v wider scope _ _ no_binding = no_binding
binds_grow w v wider scope _ _ (one_binding slot slots x bindings T e is rest) =
    one_binding slot slots x bindings T e (grows w v wider (out-Value x) T is) (binds_grow w v wider scope slots bindings rest)

pub walks_grow : (w v : World) → Wider w v → (scope : Scope) (frames : List Frame) → WalksFit w scope frames → WalksFit v scope frames
walks_grow w v wider scope [] h = h
walks_grow w v wider scope (Inner rest ∷ frames) h = walks_grow w v wider scope frames h
walks_grow w v wider scope (Looping line test block rest ∷ frames) h = walks_grow w v wider scope frames h
walks_grow w v wider scope (Walking line slots elements container block rest ∷ frames) h =
    ((h.0.0, h.0.1, λ k x e. value_grows w v wider x h.0.0 (h.0.2 k x e)), walks_grow w v wider scope frames h.1)

module _ (w : World) (scope : Scope) where
  pub held_less : (known after : Known) (variables : Variables) → Within known after → Held w scope after variables → Held w scope known variables
  held_less known after variables within h = record { sized = h.sized; each = λ slot k. h.each slot (within slot k) }

  -- a slot that gets a value of its kind
  held_set : (known : Known) (variables : Variables) (slot : ℕ) (T : Kind) (v : Value) → slice_get scope.slots slot ≡ Some T → IsOf w T v
      → Held w scope known variables → slot < length variables → Held w scope (also slot known) (slice_set variables slot (Some v))
  held_set known variables slot T v e is h there = record {
    sized = length-set variables slot (Some v) ∙ h.sized;
    each = λ k kn. by_place k (nat_eq k slot) refl kn;
  }
    where
      P : ℕ → Option (Option Value) → Type 0
      P k o = HoldsOf w (slice_get scope.slots k) o

      here : HoldsOf w (slice_get scope.slots slot) (slice_get (slice_set variables slot (Some v)) slot)
      here = subst (P slot) (sym (set_there variables slot (Some v) there)) (subst (λ o. HoldsOf w o (Some (Some v))) (sym e) is)

      by_place : (k : ℕ) (b : Bool) → nat_eq k slot ≡ b → IsTrue (b || known k) → P k (slice_get (slice_set variables slot (Some v)) k)
      by_place k true same kn = subst (λ k. P k (slice_get (slice_set variables slot (Some v)) k)) (sym (eqb-true k slot same)) here
      by_place k false differ kn = subst (P k) (sym (set_elsewhere variables slot k (Some v) (eqb-false k slot differ))) (h.each k kn)

  pub held_with : (known : Known) (variables : Variables) (slot : ℕ) (T : Kind) (v : Value) → slice_get scope.slots slot ≡ Some T → IsOf w T v → Held w scope known variables
      → IsSomeAnd (with_slot slot v variables) (Held w scope (also slot known))
  held_with known variables slot T v e is h =
      let there : slot < length variables = subst (λ n. slot < n) (sym h.sized) (slice_get_within scope.slots slot T e) in
      subst (λ b. IsSomeAnd (cond b (Some (slice_set variables slot (Some v))) None) (Held w scope (also slot known))) (sym (lt-ltb slot (length variables) there))
      (held_set known variables slot T v e is h there)

  pub held_bind : (slots : List ℕ) (bindings : Bindings) → Binds w scope slots bindings → (known : Known) (variables : Variables) → Held w scope known variables
      → IsSomeAnd (bind bindings variables) (Held w scope (also_all slots known))
  held_bind _ _ no_binding known variables h = h
  held_bind _ _ (one_binding slot slots x bindings T e is rest) known variables h =
      some_then (Held w scope (also slot known)) (Held w scope (also_all slots (also slot known))) (bind bindings) (with_slot slot x variables)
      (held_with known variables slot T x e is h) (held_bind slots bindings rest (also slot known))

  beside : (slots : List ℕ) (parts : List (List ℕ × Ty)) (xs : List Value) → SlotsTakeParts scope slots parts → PartsOf w xs parts
      → IsSomeAnd (side_by_side slots xs) (Binds w scope slots)
  beside _ _ _ no_slot no_part = no_binding
  beside _ _ _ (one_slot slot slots p parts e more) (one_part x xs _ _ is are) =
      some_map (Binds w scope slots) (Binds w scope (slot ∷ slots)) _ (side_by_side slots xs) (beside slots parts xs more are)
      (λ bindings binds. one_binding slot slots x bindings (out-Ty p.1) e is binds)

  spread_parts : (slots : List ℕ) (parts : List (List ℕ × Ty)) (x : Value-F Value) → SlotsTakeParts scope slots parts → Of w x (Ty-F.TupleOf parts)
      → IsSomeAnd (option_and_then (side_by_side slots) (parts_in x)) (Binds w scope slots)
  spread_parts slots parts _ take (of_tuple xs _ are) = beside slots parts xs take are

  named : (slots : List ℕ) (T : Kind) (x : Value) → SlotsTake scope slots T → IsOf w T x → IsSomeAnd (bindings_of slots x) (Binds w scope slots)
  named _ _ x (element_itself slot T e) is = one_binding slot [] x [] T e is no_binding
  named _ _ x (its_parts slot other slots parts take) is = spread_parts (slot ∷ other ∷ slots) parts (out-Value x) take is

  -- names that take an element hold it
  pub held_bound : (slots : List ℕ) (T : Kind) (x : Value) → SlotsTake scope slots T → IsOf w T x → (known : Known) (variables : Variables) → Held w scope known variables
      → IsSomeAnd (bound slots x variables) (Held w scope (also_all slots known))
  held_bound slots T x take is known variables h =
      some_then (Binds w scope slots) (Held w scope (also_all slots known)) (λ bindings. bind bindings variables) (bindings_of slots x) (named slots T x take is)
      (λ bindings binds. held_bind slots bindings binds known variables h)

  read_binding : (slot : ℕ) (slots : List ℕ) (o : Option Kind) (x : Option (Option Value)) (rest : Option Bindings) → slice_get scope.slots slot ≡ o → HoldsOf w o x
      → IsSomeAnd rest (Binds w scope slots) → IsSomeAnd (option_and_then (λ x. option_map (λ rest. (slot, x) ∷ rest) rest) (set_value x)) (Binds w scope (slot ∷ slots))
  read_binding slot slots None x rest e h more = absurd h
  read_binding slot slots (Some T) None rest e h more = absurd h
  read_binding slot slots (Some T) (Some None) rest e h more = absurd h
  read_binding slot slots (Some T) (Some (Some x)) rest e h more =
      some_map (Binds w scope slots) (Binds w scope (slot ∷ slots)) _ rest more (λ bindings binds. one_binding slot slots x bindings T e h binds)

  -- what names that count as set are bound to
  pub held_bindings : (names : List ℕ) (known : Known) (variables : Variables) → Every (λ slot. IsTrue (known slot)) names → Held w scope known variables
      → IsSomeAnd (bindings_at names variables) (Binds w scope names)
  held_bindings [] known variables all h = no_binding
  held_bindings (slot ∷ names) known variables all h =
      read_binding slot names (slice_get scope.slots slot) (slice_get variables slot) (bindings_at names variables) refl (h.each slot (all zero slot refl))
      (held_bindings names known variables (λ k. all (suc k)) h)

  value_holds : (T : Kind) (o : Option Kind) (x : Option (Option Value)) → o ≡ Some T → HoldsOf w o x → IsSomeAnd (set_value x) (IsOf w T)
  value_holds T None x e h = absurd h
  value_holds T (Some U) None e h = absurd h
  value_holds T (Some U) (Some None) e h = absurd h
  value_holds T (Some U) (Some (Some x)) e h = let same : U ≡ T = cc in subst (λ T. IsOf w T x) same h

  -- a slot that counts as set has a value of its kind
  pub held_value : (known : Known) (variables : Variables) (slot : ℕ) (T : Kind) → Held w scope known variables → IsTrue (known slot) → slice_get scope.slots slot ≡ Some T
      → IsSomeAnd (value_at variables slot) (IsOf w T)
  held_value known variables slot T h k e = value_holds T (slice_get scope.slots slot) (slice_get variables slot) e (h.each slot k)

  -- the elements of a container
  pub elements_fit : (T element : Kind) (x : Value-F Value) → WalkedOver T element → Of w x T → IsSomeAnd (elements_in x) (Every (IsOf w element))
  elements_fit _ _ _ (a_list t) (of_list xs _ short each) = each
  elements_fit _ _ _ (a_set t) (of_set xs _ short plain ascending each) = each
  elements_fit _ _ _ (a_dictionary key has) (of_dictionary xs _ _ short plain ascending each) = each
