-- Stores into parts of values.
use Rattle.std.proofs.Common.{◌≡◌, ℕ, suc, ◌-◌, ◌<◌, ◌≤◌, ℤ, pos, negsuc, Bool, true, false, cond, Option, None, Some, List, [], ◌∷◌, length, IsTrue, refl, sym, subst, arith}
use Rattle.std.proofs.lemmas.Bool.{and_from, ltb-true}
use Rattle.std.specs.List.{list_all}
use Rattle.std.specs.Prelude.{nat_lt, is_none, not, ◌&&◌, slice_get, slice_set}
use Rattle.chi_types.specs.declared.ty.Ty.{Ty, Ty-F, out-Ty}
use Rattle.chi_types.specs.Plain.{is_plain}
use Rattle.chi_value.specs.declared.value.TheConstants.{MOST_ELEMENTS}
use Rattle.chi_value.specs.declared.value.Value.{Value, Value-F, out-Value}
use Rattle.chi_value.specs.declared.value.Value.TheVariants as value
use Rattle.chi_value.specs.Alike.{alike}
use Rattle.chi_sets.specs.Dictionaries.{ascending_by_key, by_key, entry, keys, values, value_at, with_entry}
use Rattle.chi_sets.proofs.DictionaryLaws.{with_entry_ascends}
use Rattle.chi_ops.specs.Conditions.{is_key}
use Rattle.chi_ops.specs.Kinds.{is_int}
use Rattle.chi_ops.specs.Outcome.{Outcome, gives, faults, wrong, limit_fault, outcome_map}
use Rattle.chi_ops.specs.Places.{place_of}
use Rattle.chi_ops.specs.Store.{Step, by, part, fits_along, changed_at, change_place, put_key, change_key, store_key, stored, put}
use Rattle.chi_core.specs.Containers.{done}
use Rattle.chi_core.specs.Kinds.{Kind, Every, entry_of}
use Rattle.chi_core.specs.Of.{World, IsShort, IsOf}
use Rattle.chi_core.proofs.Alikes.{alike_of, each_passes}
use Rattle.chi_core.proofs.Tidied.{tidy_of}
use Rattle.chi_core_kinds.specs.Laws.{WellOf, PathLeads, no_step, into_list, into_dictionary, into_tuple}
use Rattle.chi_core_kinds.proofs.Conditions.{alike_to_all, key_is, keys_are, values_are, plain_kind}
use Rattle.chi_core_kinds.proofs.Dictionaries.{value_found}
use Rattle.chi_core_kinds.proofs.Elements.{every_set, every_placed, length_changed, there}
use Rattle.chi_core_kinds.proofs.Entries.{length_with, length_replaced}
use Rattle.chi_core_kinds.proofs.Shapes.{int_is, list_is, dictionary_is, a_tuple, a_list, a_dictionary, a_pair, well_where, well_done, well_fault}
use Rattle.chi_core_kinds.proofs.Parts.{tuple_is, part_there, parts_set}

-- what a store comes to: a value of the kind, or a fault
abbrev Comes : World → Kind → Outcome → Type 0
Comes w T (gives v) = IsOf w T v
Comes w T (faults fault) = Unit {0}
Comes w T wrong = ⊥

well_comes : (w : World) (T : Kind) (o : Outcome) → Comes w T o → WellOf w T (done o)
well_comes w T (gives v) h = well_done w T v h
well_comes w T (faults fault) h = well_fault w T fault
well_comes w T wrong h = absurd h

comes_mapped : (w : World) (T U : Kind) (f : Value → Value) → ((v : Value) → IsOf w T v → IsOf w U (f v)) → (o : Outcome) → Comes w T o → Comes w U (outcome_map f o)
comes_mapped w T U f g (gives v) h = g v h
comes_mapped w T U f g (faults fault) h = tt
comes_mapped w T U f g wrong h = h

comes_changed : (w : World) (T U : Kind) (made : List Value → Value) (items : List Value) (change : Value → Outcome) (place : ℕ) (o : Option Value) (old : Value) → o ≡ Some old
    → Comes w T (change old) → ((v : Value) → IsOf w T v → IsOf w U (made (slice_set items place v))) → Comes w U (changed_at made items change place o)
comes_changed w T U made items change place None old e h g = absurd (cc)
comes_changed w T U made items change place (Some item) old e h g =
    let same : old ≡ item = cc in comes_mapped w T U (λ x. made (slice_set items place x)) g (change item) (subst (λ v. Comes w T (change v)) same h)

-- a place that an index names is there
place_inside : (size : ℕ) (i : ℤ) (k : ℕ) → place_of size i ≡ Some k → k < size
place_inside size (pos n) k e = decided (nat_lt n size) (ltb-true n size) e
  where
    decided : (b : Bool) → (b ≡ true → n < size) → cond b (Some n) None ≡ Some k → k < size
    decided true h e = let same : n ≡ k = cc in subst (λ m. m < size) same (h refl)
    decided false h e = absurd (cc)
place_inside size (negsuc n) k e = decided (nat_lt n size) (ltb-true n size) e
  where
    decided : (b : Bool) → (b ≡ true → n < size) → cond b (Some (size - suc n)) None ≡ Some k → k < size
    decided true h e = let same : size - suc n ≡ k = cc in let below = h refl in subst (λ m. m < size) same (omega (arith, below))
    decided false h e = absurd (cc)

module _ (w : World) (t : Ty) (items : List Value) (short : IsShort items) (each : Every (IsOf w (out-Ty t)) items) (change : Value → Outcome)
    (changes : (v : Value) → IsOf w (out-Ty t) v → Comes w (out-Ty t) (change v)) where
  comes_place : (o : Option ℕ) → ((k : ℕ) → o ≡ Some k → k < length items) → Comes w (Ty-F.ListOf t) (change_place items change o)
  comes_place None inside = tt
  comes_place (Some place) inside =
      let found = there items place (inside place refl) in
      comes_changed w (out-Ty t) (Ty-F.ListOf t) value.ListOf items change place (slice_get items place) found.0 found.1 (changes found.0 (each place found.0 found.1))
      (λ v is.
      let same = length_changed place v items in
      a_list w (slice_set items place v) t (omega (arith, short, same)) (every_set (IsOf w (out-Ty t)) place v items is each))

module _ (w : World) (key has : Ty) (items : List Value) (short : IsShort items) (plain : IsTrue (is_plain key)) (up : IsTrue (ascending_by_key items))
    (each : Every (IsOf w (entry_of key has)) items) (i : Value) (keyed : IsOf w (out-Ty key) i) where
  set_entry : (x : Value) → IsOf w (out-Ty has) x → IsShort (with_entry items (entry i x)) → IsOf w (Ty-F.DictOf key has) (value.DictOf (with_entry items (entry i x)))
  set_entry x is small =
      a_dictionary w (with_entry items (entry i x)) key has small plain (with_entry_ascends items (entry i x) up)
      (every_placed (IsOf w (entry_of key has)) by_key items (entry i x) each (a_pair w i x key has keyed is))

  comes_put_key : (x : Value) → IsOf w (out-Ty has) x → Comes w (Ty-F.DictOf key has) (put_key items i x)
  comes_put_key x is = decided (value_at items i) (length_replaced items i x) (nat_lt (length items) MOST_ELEMENTS) (ltb-true (length items) MOST_ELEMENTS)
    where
      decided : (o : Option Value) → ((v : Value) → o ≡ Some v → length (with_entry items (entry i x)) ≤ length items) → (b : Bool) → (b ≡ true → length items < MOST_ELEMENTS)
          → Comes w (Ty-F.DictOf key has) (cond (is_none o && not b) (faults limit_fault) (gives (value.DictOf (with_entry items (entry i x)))))
      decided (Some v) there b room = let same = there v refl in set_entry x is (omega (arith, short, same))
      decided None there true room = let one = length_with items i x in let few = room refl in set_entry x is (omega (arith, one, few))
      decided None there false room = tt

  comes_change_key : (change : Value → Outcome) → ((v : Value) → IsOf w (out-Ty has) v → Comes w (out-Ty has) (change v)) → (o : Option Value) → ((v : Value) → o ≡ Some v → IsOf w (out-Ty has) v)
      → ((x v : Value) → o ≡ Some v → length (with_entry items (entry i x)) ≤ length items) → Comes w (Ty-F.DictOf key has) (change_key items i change o)
  comes_change_key change changes None found there = tt
  comes_change_key change changes (Some v) found there =
      comes_mapped w (out-Ty has) (Ty-F.DictOf key has) (λ x. value.DictOf (with_entry items (entry i x)))
      (λ x is. let same = there x v refl in set_entry x is (omega (arith, short, same))) (change v) (changes v (found v refl))

  comes_key : (path : List Step) (x : Value) (change : Value → Outcome) → (path ≡ [] → IsOf w (out-Ty has) x) → ((v : Value) → IsOf w (out-Ty has) v → Comes w (out-Ty has) (change v))
      → Comes w (Ty-F.DictOf key has) (store_key path items i x change)
  comes_key [] x change last changes = comes_put_key x (last refl)
  comes_key (s ∷ path) x change last changes =
      comes_change_key change changes (value_at items i) (λ v e. value_found w key has items i v each e) (λ y v e. length_replaced items i y v e)

-- a path of no steps leads to the kind itself
path_ends : (w : World) (path : List Step) (T U : Kind) → PathLeads w path T U → path ≡ [] → T ≡ U
path_ends w _ _ _ (no_step T) e = refl
path_ends w _ _ _ (into_list i path t U is leads) e = absurd (cc)
path_ends w _ _ _ (into_dictionary i path key has U is leads) e = absurd (cc)
path_ends w _ _ _ (into_tuple number path parts p U there leads) e = absurd (cc)

-- what stands at each container, by the layers of the value and of the step

module _ (path : List Step) (x v : Value) (items : List Value) where
  list_stored : (i : Value) (n : ℤ) → out-Value v ≡ Value-F.ListOf items → out-Value i ≡ Value-F.Int n → stored (by i ∷ path) x v ≡ change_place items (stored path x) (place_of (length items) n)
  list_stored i n is is' = rw (is, is', stored) refl

  dictionary_stored : (i : Value) → out-Value v ≡ Value-F.DictOf items → stored (by i ∷ path) x v ≡ store_key path items i x (stored path x)
  dictionary_stored i is = rw (is, stored) refl

  tuple_stored : (k : ℕ) → out-Value v ≡ Value-F.TupleOf items → stored (part k ∷ path) x v ≡ changed_at value.TupleOf items (stored path x) k (slice_get items k)
  tuple_stored k is = rw (is, stored) refl

  list_fits : (i : Value) (n : ℤ) → out-Value v ≡ Value-F.ListOf items → out-Value i ≡ Value-F.Int n → list_all (fits_along path x) items ≡ true → fits_along (by i ∷ path) x v ≡ true
  list_fits i n is is' all = rw (is, is', fits_along, is_int) all

  dictionary_fits : (i : Value) → out-Value v ≡ Value-F.DictOf items → is_key i ≡ true → list_all (alike i) (keys items) ≡ true → list_all (fits_along path x) (values items) ≡ true
      → fits_along (by i ∷ path) x v ≡ true
  dictionary_fits i is a b c = rw (is, fits_along) (and_from _ _ (and_from _ _ a b) c)

  tuple_fits : (k : ℕ) (p : Value) → out-Value v ≡ Value-F.TupleOf items → slice_get items k ≡ Some p → fits_along path x p ≡ true → fits_along (part k ∷ path) x v ≡ true
  tuple_fits k p is e h = rw (is, e, fits_along) h

module _ (w : World) where
  fits : (path : List Step) (T U : Kind) → PathLeads w path T U → (x v : Value) → IsOf w U x → IsOf w T v → fits_along path x v ≡ true
  fits _ _ _ (no_step T) x v h l = alike_of w x v T h l
  fits _ _ _ (into_list i path t U is leads) x v h l =
      let s = list_is w t (out-Value v) l in
      let n = int_is w (out-Value i) is in
      list_fits path x v s.items i n.0 s.is n.1 (each_passes (fits_along path x) s.items (λ k y e. fits path (out-Ty t) U leads x y h (s.each k y e)))
  fits _ _ _ (into_dictionary i path key has U is leads) x v h l =
      let s = dictionary_is w key has (out-Value v) l in
      dictionary_fits path x v s.items i s.is (key_is w (out-Ty key) (plain_kind key s.plain) i is) (alike_to_all w (out-Ty key) (keys s.items) (keys_are w key has s.items s.each) i is)
      (each_passes (fits_along path x) (values s.items) (λ k y e. fits path (out-Ty has) U leads x y h (values_are w key has s.items s.each k y e)))
  fits _ _ _ (into_tuple number path parts p U inside leads) x v h l =
      let s = tuple_is w parts (out-Value v) l in
      let found = part_there w s.items parts s.are number p inside in
      tuple_fits path x v s.items number found.0 s.is found.1 (fits path (out-Ty p.1) U leads x found.0 h found.2)

  comes : (path : List Step) (T U : Kind) → PathLeads w path T U → (x : Value) → IsOf w U x → (v : Value) → IsOf w T v → Comes w T (stored path x v)
  comes _ _ _ (no_step T) x h v l = h
  comes _ _ _ (into_list i path t U is leads) x h v l =
      let s = list_is w t (out-Value v) l in
      let n = int_is w (out-Value i) is in
      subst (Comes w (Ty-F.ListOf t)) (sym (list_stored path x v s.items i n.0 s.is n.1))
      (comes_place w t s.items s.short s.each (stored path x) (comes path (out-Ty t) U leads x h) (place_of (length s.items) n.0) (place_inside (length s.items) n.0))
  comes _ _ _ (into_dictionary i path key has U is leads) x h v l =
      let s = dictionary_is w key has (out-Value v) l in
      subst (Comes w (Ty-F.DictOf key has)) (sym (dictionary_stored path x v s.items i s.is))
      (comes_key w key has s.items s.short s.plain s.ascending s.each i is path x (stored path x)
      (λ e. subst (λ T. IsOf w T x) (sym (path_ends w path (out-Ty has) U leads e)) h) (comes path (out-Ty has) U leads x h))
  comes _ _ _ (into_tuple number path parts p U inside leads) x h v l =
      let s = tuple_is w parts (out-Value v) l in
      let found = part_there w s.items parts s.are number p inside in
      subst (Comes w (Ty-F.TupleOf parts)) (sym (tuple_stored path x v s.items number s.is))
      (comes_changed w (out-Ty p.1) (Ty-F.TupleOf parts) value.TupleOf s.items (stored path x) number (slice_get s.items number) found.0 found.1 (comes path (out-Ty p.1) U leads x h found.0 found.2)
      (λ y is. a_tuple w (slice_set s.items number y) parts (parts_set w s.items parts s.are number p inside y is)))

  pub well_put : (path : List Step) (T U : Kind) → PathLeads w path T U → (x v : Value) → IsOf w U x → IsOf w T v → WellOf w T (done (put path x v))
  well_put path T U leads x v h l =
      well_where w T _ _ (and_from _ _ (and_from _ _ (tidy_of w x U h) (tidy_of w v T l)) (fits path T U leads x v h l)) (well_comes w T (stored path x v) (comes path T U leads x h v l))
