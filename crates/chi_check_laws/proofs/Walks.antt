-- Walks: the names that they bind are of the kinds of what is walked over.
use Rattle.std.proofs.Common.{◌≡◌, ℕ, suc, Bool, true, false, List, [], ◌∷◌, ◌++◌, map, length, Option, Some, None, is_some, refl, sym, ap, subst, ◌∙◌, arith}
use Rattle.std.proofs.lemmas.Bool.{eqb-true, eq-eqb}
use Rattle.std.specs.Prelude.{nat_eq, slice_get, if◌then◌else◌}
use Rattle.chi_token.specs.declared.place.Place.{Place}
use Rattle.chi_tree.specs.declared.statement.Walk.{Walk}
use Rattle.chi_tree.specs.declared.type_tree.Name.{Name}
use Rattle.chi_types.specs.declared.ty.Ty.{Ty, Ty-F, out-Ty}
use Rattle.chi_types.specs.Same.{nameless, beside}
use Rattle.chi_core.specs.Kinds.{kind_of, erased}
use Rattle.chi_core.specs.Scopes.{Scope}
use Rattle.chi_core.specs.SetSlots.{Known as Set, also, also_all}
use Rattle.chi_core.specs.Sound.{SoundIn}
use Rattle.chi_core.specs.SoundParts as part
use Rattle.chi_core.specs.SoundParts.{SlotsTake, SlotsTakeParts}
use Rattle.chi_core.specs.SoundTypes.{SoundParts, no_part, one_part}
use Rattle.chi_core.proofs.Erased.{kind_at}
use Rattle.chi_check_types.specs.declared.known.Known.{Known}
use Rattle.chi_check_types.specs.declared.meant.Made.{Made}
use Rattle.chi_check_types.specs.declared.rules.TheConstants.{WALK_NAMES}
use Rattle.chi_check_types.specs.Names.{Names}
use Rattle.chi_check_expr.proofs.Kept.{Each}
use Rattle.chi_check_expr.proofs.Nodes.{settled_made}
use Rattle.chi_check_laws.specs.KnownNames.{AllStand, SlotStands, SoundMade, Stands}
use Rattle.chi_check_laws.proofs.Conversions.{some_is, mapped, chosen}
use Rattle.chi_check_laws.proofs.TypeKinds.{parts_of_tuple}
use Rattle.chi_check.specs.Below.chi_check_stat_rules.specs.declared.home.Home.{Home}
use Rattle.chi_check.specs.Below.chi_check_stat_rules.specs.declared.parts.Walked.{Walked}
use Rattle.chi_check.specs.Below.chi_check_stat_rules.specs.Walks.{element_type, types_of_parts, name_types, walked, walked_by, walk_over, walk_of}
use Rattle.chi_check_laws.proofs.SoundValues.{walked_sound}
use Rattle.chi_check.specs.Below.chi_check_stat_lines.specs.declared.state.Binder.{Binder}
use Rattle.chi_check.specs.Below.chi_check_stat_lines.specs.declared.state.Binder.TheVariants as binder
use Rattle.chi_check.specs.Below.chi_check_stat_lines.specs.declared.state.Opened.{Opened}
use Rattle.chi_check.specs.Below.chi_check_stat_lines.specs.declared.state.State.{State}
use Rattle.chi_check.specs.Below.chi_check_stat_lines.specs.Stated.{in_turn}
use Rattle.chi_check.specs.Below.chi_check_stat_lines.specs.States.{is_taken, bound, with_variable, next_slot, slot_if, first_type, other_types, bindings}
use Rattle.chi_check.specs.Below.chi_check_stat_lines.specs.Values.{value_in}
use Rattle.chi_check.specs.Below.chi_check_stat_lines.specs.Declarations.{opened, opening, types_of, walk_in, walk_place}
use Rattle.chi_check.specs.Below.chi_check_stat_rules.specs.Places.{expr_place}
use Rattle.chi_check_laws.specs.Bodies.{reads_as, SlotsHave, Agrees, Grows}
use Rattle.chi_check_laws.specs.Whole.{has_any}
use Rattle.chi_check_laws.proofs.More.{also_more, also_itself, names_more}
use Rattle.chi_check_laws.proofs.States.{get_last, name_stands, slots_more, variable_grows, slots_before, grows_none, grows_on}
use Rattle.chi_check_laws.proofs.Statements.{SoundWalk}
use Rattle.chi_check_laws.proofs.Turns.{both_made}
use Rattle.chi_check_laws.proofs.Values.{value_sound}

module _ (scope : Scope) where
  -- ---- one new name

  bound_stands : (b : Binder) (set : Set) (slot : ℕ) (t : Ty) → SlotStands scope set slot t → Stands scope set (bound b slot (Some t))
  bound_stands binder.Variable set slot t h = h
  bound_stands binder.Unwind set slot t h = h

  with_new : (taken : Bool) (set : Set) (names : Names) (name : List ℕ) (k : Known) → taken ≡ false → AllStand scope set names → Stands scope set k
      → AllStand scope set (if taken then names else (names ++ (name, k) ∷ []))
  with_new true set names name k new all st = absurd (cc)
  with_new false set names name k new all st = name_stands scope set names name k all st

  -- a new variable is the next slot, of the kind of its type
  pub variable_stands : (b : Binder) (name : Name) (t : Ty) (set : Set) (s : State) → is_taken s.names name.text ≡ false → SoundIn scope.core t → SlotsHave scope (with_variable b name (Some t) s).slots → Agrees scope set s
      → (slice_get scope.slots (next_slot s) ≡ Some (kind_of t)) × Agrees scope (also (next_slot s) set) (with_variable b name (Some t) s)
  variable_stands b name t set s new ty have all =
      let slot = next_slot s in
      let is = have slot t (get_last s.slots t) in
      let counts = also_itself slot set (eq-eqb slot slot refl) in
      let before = names_more scope set (also slot set) (also_more slot set) s.names all.names in
      let stands = bound_stands b (also slot set) slot t (record { counts = counts; is = is; ty = ty }) in (
        is,
        record {
          names = with_new (is_taken s.names name.text) (also slot set) s.names name.text (bound b slot (Some t)) new before stands;
          slots = slots_more scope b name t s all.slots ty;
        },
      )

  pub slot_made : (taken : Bool) (t : Option Ty) (slot : ℕ) (slots : List ℕ) → slot_if taken (is_some t) slot ≡ Some slots → (taken ≡ false) × (u : Ty) × (t ≡ Some u) × (slot ∷ [] ≡ slots)
  slot_made true t slot slots e = absurd (cc)
  slot_made false None slot slots e = absurd (cc)
  slot_made false (Some u) slot slots e = (refl, u, refl, some_is _ slots e)

  -- ---- several names

  -- as many slots as types, each of the kind of its type
  abbrev pub SlotsAre : List ℕ → List Ty → Type 0
  SlotsAre [] [] = Unit {0}
  SlotsAre (slot ∷ slots) (t ∷ ts) = (slice_get scope.slots slot ≡ Some (kind_of t)) × SlotsAre slots ts
  SlotsAre _ _ = ⊥

  pub bindings_grow : (b : Binder) (names : List Name) (types : List Ty) (s : State) → Grows s (in_turn (bindings b names types) s).next
  bindings_grow b [] types s = grows_none s
  bindings_grow b (name ∷ names) types s =
      let middle = with_variable b name (first_type types) s in
      grows_on s middle (in_turn (bindings b names (other_types types)) middle).next (variable_grows b name (first_type types) s) (bindings_grow b names (other_types types) middle)

  bindings_stand : (b : Binder) (names : List Name) (types : List Ty) (set : Set) (s : State) (slots : List ℕ) → length names ≡ length types → Each (SoundIn scope.core) types
      → SlotsHave scope (in_turn (bindings b names types) s).next.slots → Agrees scope set s → (in_turn (bindings b names types) s).made ≡ Some slots
      → SlotsAre slots types × Agrees scope (also_all slots set) (in_turn (bindings b names types) s).next
  bindings_stand b [] [] set s slots long ty have all e =
      let none : [] ≡ slots = some_is [] slots e in
      (subst (λ slots. SlotsAre slots []) none tt, subst (λ slots. Agrees scope (also_all slots set) s) none all)
  bindings_stand b [] (t ∷ types) set s slots long ty have all e = absurd (omega (arith, long))
  bindings_stand b (name ∷ names) [] set s slots long ty have all e = absurd (omega (arith, long))
  bindings_stand b (name ∷ names) (t ∷ types) set s slots long ty have all e =
      let middle = with_variable b name (Some t) s in
      let last = (in_turn (bindings b names types) middle).next in
      let m = both_made (λ x y. x ++ y) (slot_if (is_taken s.names name.text) true (next_slot s)) (in_turn (bindings b names types) middle).made slots e in
      let new = slot_made (is_taken s.names name.text) (Some t) (next_slot s) m.0 m.2 in
      let first = variable_stands b name t set s new.0 ty.0 (slots_before scope middle last (bindings_grow b names types middle) have) all in
      let fewer : length names ≡ length types = omega (arith, long) in
      let rest = bindings_stand b names types (also (next_slot s) set) middle m.1 fewer ty.1 have first.1 m.3 in
      let is : next_slot s ∷ m.1 ≡ slots = ap (λ xs. xs ++ m.1) new.3 ∙ m.4 in
      (subst (λ slots. SlotsAre slots (t ∷ types)) is (first.0, rest.0), subst (λ slots. Agrees scope (also_all slots set) last) is rest.1)

  -- ---- the types of the names

  -- what is walked over, by so many names
  record NamesTake (count : ℕ) (element : Ty) (types : List Ty) : Type 0 where
    long : count ≡ length types
    ty : Each (SoundIn scope.core) types
    take : (slots : List ℕ) → SlotsAre slots types → SlotsTake scope slots (kind_of element)

  parts_types : (parts : List (List ℕ × Ty)) → SoundParts (length scope.core.names.kinds) parts → Each (SoundIn scope.core) (map (λ part. part.1) parts)
  parts_types _ no_part = tt
  parts_types _ (one_part part parts s rest) = (s, parts_types parts rest)

  slots_take_parts : (slots : List ℕ) (parts : List (List ℕ × Ty)) → SlotsAre slots (map (λ part. part.1) parts) → SlotsTakeParts scope slots (nameless (map (beside erased) parts))
  slots_take_parts [] [] h = part.no_slot
  slots_take_parts [] (p ∷ parts) h = absurd h
  slots_take_parts (slot ∷ slots) [] h = absurd h
  slots_take_parts (slot ∷ slots) (p ∷ parts) h = part.one_slot slot slots ([], erased p.1) _ h.0 (slots_take_parts slots parts h.1)

  several : (slots : List ℕ) (parts : List (List ℕ × Ty)) → (length parts ≡ 0 → ⊥) → (length parts ≡ 1 → ⊥) → SlotsAre slots (map (λ part. part.1) parts)
      → SlotsTake scope slots (Ty-F.TupleOf (nameless (map (beside erased) parts)))
  several slots [] some more h = absurd (some refl)
  several slots (p ∷ []) some more h = absurd (more refl)
  several [] (p ∷ q ∷ parts) some more h = absurd h
  several (slot ∷ []) (p ∷ q ∷ parts) some more h = absurd h.1
  several (slot ∷ other ∷ slots) (p ∷ q ∷ parts) some more h = part.its_parts slot other slots _ (slots_take_parts (slot ∷ other ∷ slots) (p ∷ q ∷ parts) h)

  single : (element : Ty) (slots : List ℕ) → SlotsAre slots (element ∷ []) → SlotsTake scope slots (kind_of element)
  single element [] h = absurd h
  single element (slot ∷ []) h = part.element_itself slot (kind_of element) h.0
  single element (slot ∷ other ∷ slots) h = absurd h.1

  length_types : (parts : List (List ℕ × Ty)) → length (map (λ part. part.1) parts) ≡ length parts
  length_types [] = refl
  length_types (p ∷ parts) = ap suc (length_types parts)

  several_by : (count : ℕ) (element : Ty) (types : List Ty) → (count ≡ 0 → ⊥) → (count ≡ 1 → ⊥) → SoundIn scope.core element → (layer : Ty-F Ty) → out-Ty element ≡ layer → types_of_parts count layer ≡ Some types → NamesTake count element types
  several_by count element types some more sound (Ty-F.TupleOf parts) p e =
      let c = chosen (nat_eq (length parts) count) (map (λ part. part.1) parts) types e in
      let long : length parts ≡ count = eqb-true (length parts) count c.0 in
      subst (NamesTake count element) c.1 (record {
        long = sym (length_types parts ∙ long);
        ty = parts_types parts (parts_of_tuple _ element parts p sound);
        take = λ slots h. subst (SlotsTake scope slots) (sym (kind_at element _ p)) (several slots parts (λ z. some (sym long ∙ z)) (λ z. more (sym long ∙ z)) h);
      })
  several_by count element types some more sound _ p e = absurd (cc)

  names_by : (b : Bool) (count : ℕ) (element : Ty) (types : List Ty) → nat_eq count 1 ≡ b → (count ≡ 0 → ⊥) → SoundIn scope.core element
      → (if b then Some (element ∷ []) else types_of_parts count (out-Ty element)) ≡ Some types → NamesTake count element types
  names_by true count element types is some sound e =
      subst (NamesTake count element) (some_is (element ∷ []) types e) (record { long = eqb-true count 1 is; ty = (sound, tt); take = single element })
  names_by false count element types is some sound e =
      several_by count element types some (λ one. false_true (sym is ∙ eq-eqb count 1 one)) sound (out-Ty element) refl e
    where
      false_true : false ≡ true → ⊥
      false_true e = cc

  -- ---- a walk

  record SoundWalked (set : Set) (count : ℕ) (w : Walked) : Type 0 where
    long : count ≡ length w.types
    ty : Each (SoundIn scope.core) w.types
    walk : (slots : List ℕ) → SlotsAre slots w.types → SoundWalk scope set slots w.container

  over_by : (set : Set) (place first : Place) (count : ℕ) (m : Made) (o : Option Ty) (w : Walked) → (count ≡ 0 → ⊥) → SoundMade scope set m → element_type (out-Ty m.ty) ≡ o → (walk_over place first count m.core o).made ≡ Some w → SoundWalked set count w
  over_by set place first count m None w some h is e = absurd (cc)
  over_by set place first count m (Some element) w some h is e =
      let f = mapped (walked m.core) (name_types count element) w (settled_made WALK_NAMES first (walked_by count m.core element) w e) in
      let over = walked_sound scope set m.ty element h.ty is in
      let n = names_by (nat_eq count 1) count element f.0 refl some over.1 f.1 in
      subst (SoundWalked set count) f.2 (record {
        long = n.long;
        ty = n.ty;
        walk = λ slots are short streams. record { kind = kind_of m.ty; element = kind_of element; has_kind = h.kind short streams; over = over.0; take = n.take slots are };
      })

  walk_by : (set : Set) (place first : Place) (count : ℕ) (o : Option Made) (w : Walked) → (count ≡ 0 → ⊥) → ((m : Made) → o ≡ Some m → SoundMade scope set m) → (walk_of place first count o).made ≡ Some w → SoundWalked set count w
  walk_by set place first count None w some s e = absurd (cc)
  walk_by set place first count (Some m) w some s e = over_by set place first count m (element_type (out-Ty m.ty)) w some (s m refl) refl e

  opened_by : (b : Binder) (names : List Name) (over : Option Walked) (set : Set) (s : State) (o : Opened) → ((w : Walked) → over ≡ Some w → SoundWalked set (length names) w)
      → SlotsHave scope (in_turn (bindings b names (types_of over)) s).next.slots → Agrees scope set s → opening over (in_turn (bindings b names (types_of over)) s).made ≡ Some o
      → SoundWalk scope set o.slots o.container × Agrees scope (also_all o.slots set) (in_turn (bindings b names (types_of over)) s).next
  opened_by b names None set s o sound have all e = absurd (cc)
  opened_by b names (Some w) set s o sound have all e =
      let m = both_made opened (Some w.container) (in_turn (bindings b names w.types) s).made o e in
      let walks = sound w refl in
      let bind = bindings_stand b names w.types set s m.1 walks.long walks.ty have all m.3 in
      let container : w.container ≡ m.0 = some_is w.container m.0 m.2 in
      subst (λ (o : Opened). SoundWalk scope set o.slots o.container × Agrees scope (also_all o.slots set) (in_turn (bindings b names w.types) s).next) m.4
      (subst (SoundWalk scope set m.1) container (walks.walk m.1 bind.0), bind.1)

any_names : (names : List Name) → has_any names ≡ true → length names ≡ 0 → ⊥
any_names [] w e = absurd (cc)
any_names (name ∷ names) w e = suc_never (length names) e
  where
    suc_never : (n : ℕ) → suc n ≡ 0 → ⊥
    suc_never n e = absurd (omega (arith, e))

module _ (h : Home) (scope : Scope) (role : reads_as h ≡ Some scope.role) (b : Binder) (walk : Walk) where
  pub walk_grows : (s : State) → Grows s (walk_in h b walk s).next
  walk_grows s = bindings_grow scope b walk.names (types_of (walk_of (expr_place walk.container) (walk_place walk.names (expr_place walk.container)) (length walk.names) (value_in h s.names walk.container).made).made) s

  pub walk_sound : (set : Set) (s : State) (o : Opened) → has_any walk.names ≡ true → SlotsHave scope (walk_in h b walk s).next.slots → Agrees scope set s → (walk_in h b walk s).made ≡ Some o
      → SoundWalk scope set o.slots o.container × Agrees scope (also_all o.slots set) (walk_in h b walk s).next
  walk_sound set s o w have all e =
      let place = expr_place walk.container in
      let over = walk_of place (walk_place walk.names place) (length walk.names) (value_in h s.names walk.container).made in
      opened_by scope b walk.names over.made set s o
      (λ found is. walk_by scope set place (walk_place walk.names place) (length walk.names) (value_in h s.names walk.container).made found (any_names walk.names w) (value_sound h scope role set s.names all.names walk.container) is) have all e
