-- What keeps the names in agreement with the program, and makes what is sound: one after another, alone, and in blocks.
use Rattle.std.proofs.Common.{◌≡◌, ℕ, Bool, true, false, not, List, [], ◌∷◌, ◌++◌, Option, Some, None, refl, sym, subst}
use Rattle.std.specs.Prelude.{option_map, if◌then◌else◌}
use Rattle.chi_token.specs.declared.place.Place.{Place}
use Rattle.chi_core.specs.Scopes.{Scope}
use Rattle.chi_core.specs.SetSlots.{Known as Set}
use Rattle.chi_check_types.specs.declared.fault.Fault.{Fault}
use Rattle.chi_check_types.specs.Faults.{are_none}
use Rattle.chi_check_types.specs.Names.{Names}
use Rattle.chi_check_types.specs.Typed.{Typed, broken_if}
use Rattle.chi_check_expr.proofs.Kept.{Each}
use Rattle.chi_check_laws.specs.KnownNames.{AllStand}
use Rattle.chi_check_laws.proofs.Conversions.{some_is, mapped, chained}
use Rattle.chi_check.specs.Below.chi_check_stat_lines.specs.declared.state.State.{State}
use Rattle.chi_check.specs.Below.chi_check_stat_lines.specs.Stated.{Turn, both, in_turn, alone}
use Rattle.chi_check.specs.Below.chi_check_stat_lines.specs.States.{block}
use Rattle.chi_check_laws.specs.Bodies.{SlotsHave, Grows, Agrees}
use Rattle.chi_check_laws.proofs.More.{Within}
use Rattle.chi_check_laws.proofs.States.{grows_none, grows_on, cut_grows, agrees_cut, agrees_more, slots_before}

-- ---- what several parts come to

pub both_made : {A B C : Type 0} (f : A → B → C) (a : Option A) (b : Option B) (c : C) → both f a b ≡ Some c → (x : A) × (y : B) × (a ≡ Some x) × (b ≡ Some y) × (f x y ≡ c)
both_made f a b c e =
    let first = chained (λ x. option_map (f x) b) a c e in
    let second = mapped (f first.0) b c first.2 in
    (first.0, second.0, first.1, second.1, second.2)

pub held_made : {A : Type 0} (fs : List Fault) (o : Option A) (a : A) → (if are_none fs then o else None) ≡ Some a → (fs ≡ []) × (o ≡ Some a)
held_made [] o a e = (refl, e)
held_made (f ∷ fs) o a e = absurd (cc)

pub unbroken : (b : Bool) (rule : ℕ) (place : Place) → broken_if b rule place ≡ [] → b ≡ false
unbroken true rule place e = absurd (cc)
unbroken false rule place e = refl

pub not_false : (b : Bool) → not b ≡ false → b ≡ true
not_false true e = refl
not_false false e = absurd (cc)

pub each_append : {A : Type 0} (P : A → Type 0) (xs ys : List A) → Each P xs → Each P ys → Each P (xs ++ ys)
each_append P [] ys h k = k
each_append P (x ∷ xs) ys h k = (h.0, each_append P xs ys h.1 k)

-- ---- turns

module _ (scope : Scope) {A : Type 0} (P : Set → List A → Type 0) (next : List A → Set → Set) where
  -- P of what is made, where some slots count as set, and what counts after it
  pub record Kept (f : Turn State A) : Type 0 where
    pub grows : (s : State) → Grows s (f s).next
    pub sound : (set : Set) (s : State) (xs : List A) → SlotsHave scope (f s).next.slots → Agrees scope set s → (f s).made ≡ Some xs
        → P set xs × Agrees scope (next xs set) (f s).next

  -- P holds of lists by their parts
  pub record ByParts : Type 0 where
    pub none : (set : Set) → P set []
    pub append : (set : Set) (xs ys : List A) → P set xs → P (next xs set) ys → P set (xs ++ ys)
    pub next_none : (set : Set) → next [] set ≡ set
    pub next_append : (set : Set) (xs ys : List A) → next (xs ++ ys) set ≡ next ys (next xs set)
    pub next_more : (set : Set) (xs : List A) → Within set (next xs set)

  module _ (parts : ByParts) where
    pub in_turn_kept : (fs : List (Turn State A)) → Each Kept fs → Kept (in_turn fs)
    in_turn_kept [] h = record {
      grows = grows_none;
      sound = λ set s xs have all e.
          let none : [] ≡ xs = some_is [] xs e in
          (subst (P set) none (parts.none set), subst (λ xs. Agrees scope (next xs set) s) none (subst (λ set. Agrees scope set s) (sym (parts.next_none set)) all));
    }
    in_turn_kept (f ∷ fs) h = let rest = in_turn_kept fs h.1 in record {
      grows = λ s. grows_on s (f s).next (in_turn fs (f s).next).next (h.0.grows s) (rest.grows (f s).next);
      sound = λ set s xs have all e.
          let middle = (f s).next in
          let last = (in_turn fs middle).next in
          let m = both_made (λ x y. x ++ y) (f s).made (in_turn fs middle).made xs e in
          let first = h.0.sound set s m.0 (slots_before scope middle last (rest.grows middle) have) all m.2 in
          let second = rest.sound (next m.0 set) middle m.1 have first.1 m.3 in (
            subst (P set) m.4 (parts.append set m.0 m.1 first.0 second.0),
            subst (λ xs. Agrees scope (next xs set) last) m.4 (subst (λ set. Agrees scope set last) (sym (parts.next_append set m.0 m.1)) second.1),
          );
    }

    -- what changes no state
    pub alone_kept : (t : Names → Typed A) → ((set : Set) (names : Names) (x : A) → AllStand scope set names → (t names).made ≡ Some x → P set (x ∷ [])) → Kept (λ s. alone s (t s.names))
    alone_kept t h = record {
      grows = grows_none;
      sound = λ set s xs have all e.
          let m = mapped (λ x. x ∷ []) (t s.names).made xs e in
          (subst (P set) m.2 (h set s.names m.0 all.names m.1), agrees_more scope set (next xs set) s (parts.next_more set xs) all);
    }

    -- a block, after which the names are those before it
    pub block_sound : (fs : List (Turn State A)) → Each Kept fs → (set : Set) (s : State) (xs : List A) → SlotsHave scope (block fs s).next.slots → Agrees scope set s → (block fs s).made ≡ Some xs
        → P set xs × Agrees scope set (block fs s).next
    block_sound fs h set s xs have all e =
        let inner = in_turn_kept fs h in
        let made = inner.sound set s xs have all e in
        (made.0, agrees_cut scope set (next xs set) s (in_turn fs s).next (inner.grows s) all made.1)

    pub block_grows : (fs : List (Turn State A)) → Each Kept fs → (s : State) → Grows s (block fs s).next
    block_grows fs h s = cut_grows s (in_turn fs s).next ((in_turn_kept fs h).grows s)
