-- What a store meets along its path.
use Rattle.std.proofs.Common.{◌≡◌, ◌<◌, arith, ℤ, ℕ, zero, suc, Bool, true, false, ◌&&◌, IsTrue, cond, Option, None, Some, List, [], ◌∷◌, map, length, slice_get, slice_set, is_some, refl, sym, ap, ◌∙◌, subst}
use Rattle.std.proofs.lemmas.Bool.{false≢true, and_parts, and_from}
use Rattle.std.proofs.lemmas.List.{set-set}
use Rattle.std.specs.Prelude.{find, unwrap_or, option_and_then}
use Rattle.std.specs.List.{list_all, cons_option}
use Rattle.chi_value.specs.declared.value.Value.{Value, Value-F, map-Value, para-roll-Value, out-Value, roll-out-Value}
use Rattle.chi_value.specs.declared.value.Value.TheVariants as value
use Rattle.chi_value.specs.Alike.{uniform, uniform_step, all_alike, part_itself, part_holds}
use Rattle.chi_value.specs.Alike.{alike}
use Rattle.chi_sets.specs.Dictionaries.{keys, value_in, value_of, values, value_at}
use Rattle.chi_ops.specs.Conditions.{is_key}
use Rattle.chi_ops.specs.Kinds.{is_int}
use Rattle.chi_ops.specs.Paths.{is_index}
use Rattle.chi_ops.specs.Places.{place_of}
use Rattle.chi_ops.specs.declared.fault.OpFault.{OpFault}
use Rattle.chi_ops.specs.declared.fault.OpFault.TheVariants as fault
use Rattle.chi_ops.specs.Outcome.{Fault, Outcome, gives, faults, wrong, outcome_map}
use Rattle.chi_ops.specs.Refusal.{Refuses}
use Rattle.chi_ops.specs.Store.{Step, by, part, changed_at, change_place, fits_along, store_key, stored}
use Rattle.chi_ops.specs.Tidy.{tidy, all_tidy, sorted, is_dictionary_list}
use Rattle.chi_ops.proofs.TidyLaws.{beside, sorted_at}

-- what holds of all elements holds of each

some_equal : {A : Type 0} (x y : A) → Some x ≡ Some y → x ≡ y
some_equal x y e = ap (λ o. unwrap_or o x) e

pub holds_at : {A : Type 0} (p : A → Bool) (xs : List A) (k : ℕ) (x : A) → list_all p xs ≡ true → slice_get xs k ≡ Some x → p x ≡ true
holds_at p [] k x all is = absurd (false≢true (ap is_some is))
holds_at p (y ∷ ys) zero x all is = subst (λ z. p z ≡ true) (some_equal y x is) (and_parts (p y) (list_all p ys) all).0
holds_at p (y ∷ ys) (suc k) x all is = holds_at p ys k x (and_parts (p y) (list_all p ys) all).1 is

all_both : (p q : Value → Bool) (xs : List Value) → list_all p xs ≡ true → list_all q xs ≡ true → list_all (λ x. p x && q x) xs ≡ true
all_both p q [] h k = refl
all_both p q (x ∷ xs) h k =
    let ps = and_parts (p x) (list_all p xs) h in
    let qs = and_parts (q x) (list_all q xs) k in
    and_from _ _ (and_from _ _ ps.0 qs.0) (all_both p q xs ps.1 qs.1)

-- the parts of a tidy value are tidy

abbrev pub beside_uniform : Value → Value × Bool
beside_uniform v = (v, uniform v)

pub uniform_at : (v : Value) (layer : Value-F Value) → out-Value v ≡ layer →
    uniform v ≡ uniform_step (map-Value Value (Value × Bool) beside_uniform layer)
uniform_at v layer is =
    ap uniform (sym (roll-out-Value v)) ∙ para-roll-Value Bool uniform_step (out-Value v) ∙
    ap (λ l. uniform_step (map-Value Value (Value × Bool) beside_uniform l)) is

all_uniform : (xs : List Value) → list_all part_holds (map beside_uniform xs) ≡ list_all uniform xs
all_uniform [] = refl
all_uniform (x ∷ xs) = ap (λ rest. uniform x && rest) (all_uniform xs)

all_sorted : (xs : List Value) → list_all part_holds (map beside xs) ≡ list_all sorted xs
all_sorted [] = refl
all_sorted (x ∷ xs) = ap (λ rest. sorted x && rest) (all_sorted xs)

joined : (xs : List Value) → list_all part_holds (map beside_uniform xs) ≡ true → list_all part_holds (map beside xs) ≡ true →
    all_tidy xs ≡ true
joined xs h k = all_both uniform sorted xs (sym (all_uniform xs) ∙ h) (sym (all_sorted xs) ∙ k)

pub list_tidy : (v : Value) (items : List Value) → v ≡ value.ListOf items → IsTrue (tidy v) → all_tidy items ≡ true
list_tidy v items is h =
    let parts = and_parts (uniform v) (sorted v) h in
    let layer : out-Value v ≡ Value-F.ListOf items = ap out-Value is ∙ value.outs-ListOf items in
    let same = sym (uniform_at v (Value-F.ListOf items) layer) ∙ parts.0 in
    joined items
    (and_parts (list_all part_holds (map beside_uniform items)) (all_alike (map part_itself (map beside_uniform items))) same).0
    (sym (sorted_at v (Value-F.ListOf items) layer) ∙ parts.1)

pub tuple_tidy : (v : Value) (items : List Value) → v ≡ value.TupleOf items → IsTrue (tidy v) → all_tidy items ≡ true
tuple_tidy v items is h =
    let parts = and_parts (uniform v) (sorted v) h in
    let layer : out-Value v ≡ Value-F.TupleOf items = ap out-Value is ∙ value.outs-TupleOf items in
    joined items (sym (uniform_at v (Value-F.TupleOf items) layer) ∙ parts.0) (sym (sorted_at v (Value-F.TupleOf items) layer) ∙ parts.1)

pub entries_tidy : (v : Value) (items : List Value) → v ≡ value.DictOf items → IsTrue (tidy v) → all_tidy items ≡ true
entries_tidy v items is h =
    let parts = and_parts (uniform v) (sorted v) h in
    let layer : out-Value v ≡ Value-F.DictOf items = ap out-Value is ∙ value.outs-DictOf items in
    let same = sym (uniform_at v (Value-F.DictOf items) layer) ∙ parts.0 in
    let order = sym (sorted_at v (Value-F.DictOf items) layer) ∙ parts.1 in
    joined items
    (and_parts (list_all part_holds (map beside_uniform items)) (all_alike (map part_itself (map beside_uniform items))) same).0
    (and_parts (list_all part_holds (map beside items)) (is_dictionary_list (map part_itself (map beside items))) order).0

-- what a key has

nothing : {A : Type 0} (x : Value) → None ≡ Some x → A
nothing x e = absurd (false≢true (ap is_some e))

entry_layer : (layer : Value-F Value) (has : Value) → value_in layer ≡ Some has → (key : Value) × (layer ≡ Value-F.TupleOf (key ∷ has ∷ []))
entry_layer (Value-F.TupleOf []) has e = nothing has e
entry_layer (Value-F.TupleOf (k ∷ [])) has e = nothing has e
entry_layer (Value-F.TupleOf (k ∷ (h ∷ []))) has e = (k, ap (λ x. Value-F.TupleOf (k ∷ x ∷ [])) (some_equal h has e))
entry_layer (Value-F.TupleOf (k ∷ (h ∷ (x ∷ xs)))) has e = nothing has e
entry_layer _ has e = nothing has e

has_tidy : (e has : Value) → value_of e ≡ Some has → tidy e ≡ true → tidy has ≡ true
has_tidy e has is h =
    let entry = entry_layer (out-Value e) has is in
    let parts = and_parts (uniform e) (sorted e) h in
    let both = entry.0 ∷ has ∷ [] in
    let all = joined both (sym (uniform_at e (Value-F.TupleOf both) entry.1) ∙ parts.0) (sym (sorted_at e (Value-F.TupleOf both) entry.1) ∙ parts.1) in
    holds_at tidy both 1 has all refl

all_with : (p : Value → Bool) (o : Option Value) (xs : List Value) → ((x : Value) → o ≡ Some x → p x ≡ true) → list_all p xs ≡ true →
    list_all p (cons_option o xs) ≡ true
all_with p None xs h k = k
all_with p (Some x) xs h k = and_from _ _ (h x refl) k

pub values_tidy : (entries : List Value) → all_tidy entries ≡ true → all_tidy (values entries) ≡ true
values_tidy [] h = refl
values_tidy (e ∷ es) h =
    let parts = and_parts (tidy e) (all_tidy es) h in
    all_with tidy (value_of e) (values es) (λ has is. has_tidy e has is parts.0) (values_tidy es parts.1)

first_of : (p : Value → Bool) (o : Option Value) (xs : List Value) (x : Value) → o ≡ Some x → list_all p (cons_option o xs) ≡ true → p x ≡ true
first_of p None xs x e h = nothing x e
first_of p (Some y) xs x e h = subst (λ z. p z ≡ true) (some_equal y x e) (and_parts (p y) (list_all p xs) h).0

others_of : (p : Value → Bool) (o : Option Value) (xs : List Value) → list_all p (cons_option o xs) ≡ true → list_all p xs ≡ true
others_of p None xs h = h
others_of p (Some y) xs h = (and_parts (p y) (list_all p xs) h).1

found : (p q : Value → Bool) (entries : List Value) (has : Value) → list_all p (values entries) ≡ true →
    option_and_then value_of (find q entries) ≡ Some has → p has ≡ true
found p q [] has all is = nothing has is
found p q (e ∷ es) has all is =
    let chosen : (b : Bool) → option_and_then value_of (cond b (Some e) (find q es)) ≡ Some has → p has ≡ true =
    λ b. elim b as (λ b. option_and_then value_of (cond b (Some e) (find q es)) ≡ Some has → p has ≡ true) [
      | true ↦ λ h. first_of p (value_of e) (values es) has h all
      | false ↦ λ h. found p q es has (others_of p (value_of e) (values es) all) h
    ] in
    chosen (q e) is

-- what holds of all that keys have holds of what a key has
pub holds_of_value : (p : Value → Bool) (entries : List Value) (key has : Value) → list_all p (values entries) ≡ true →
    value_at entries key ≡ Some has → p has ≡ true
holds_of_value p entries key has all is = found p _ entries has all is

-- the change of one element

mapped : (g : Value → Value) (o : Outcome) (f : Fault) → o ≡ faults f → outcome_map g o ≡ faults f
mapped g o f e = ap (outcome_map g) e

pub mapped_refuses : (g : Value → Value) (f : OpFault) (o : Outcome) → Refuses f o → Refuses f (outcome_map g o)
mapped_refuses g fault.Index o h = mapped g o _ h
mapped_refuses g fault.Key o h = mapped g o _ h
mapped_refuses g fault.Empty o h = mapped g o _ h
mapped_refuses g fault.Limit o h = mapped g o _ h
mapped_refuses g fault.SliceStep o h = mapped g o _ h
mapped_refuses g fault.NoMemory o h = tt

module _ (made : List Value → Value) (items : List Value) (change : Value → Outcome) (place : ℕ) (old : Value) where
  pub changed_gives : (dummy new : Value) (changed : List Value) → slice_get items place ≡ Some old → change old ≡ gives new →
      changed ≡ slice_set (slice_set items place dummy) place new →
      changed_at made items change place (slice_get items place) ≡ gives (made changed)
  changed_gives dummy new changed found is e =
      ap (changed_at made items change place) found ∙ ap (outcome_map (λ x. made (slice_set items place x))) is ∙
      ap (λ xs. gives (made xs)) (sym (e ∙ set-set items place dummy new))

  pub changed_refuses : (f : OpFault) → slice_get items place ≡ Some old → Refuses f (change old) →
      Refuses f (changed_at made items change place (slice_get items place))
  changed_refuses f found h =
      subst (Refuses f) (sym (ap (changed_at made items change place) found)) (mapped_refuses (λ x. made (slice_set items place x)) f (change old) h)

-- what a step meets, where the value fits along the path

module _ (path : List Step) (x v : Value) (items : List Value) where
  abbrev fits_by : Value → Value-F Value → Bool
  fits_by i layer = elim layer [
    | Value-F.ListOf items ↦ is_int i && list_all (fits_along path x) items
    | Value-F.DictOf items ↦ is_key i && list_all (alike i) (keys items) && list_all (fits_along path x) (values items)
    | _ ↦ false
  ]

  abbrev fits_there : Option Value → Bool
  fits_there o = elim o [ None ↦ false | Some p ↦ fits_along path x p ]

  abbrev fits_part : ℕ → Value-F Value → Bool
  fits_part k layer = elim layer [ Value-F.TupleOf parts ↦ fits_there (slice_get parts k) | _ ↦ false ]

  pub list_fits : (s : Step) → v ≡ value.ListOf items → fits_along (s ∷ path) x v ≡ true →
      (is_index s ≡ true) × (list_all (fits_along path x) items ≡ true)
  list_fits (by i) is h =
      and_parts (is_int i) (list_all (fits_along path x) items) (sym (ap (fits_by i) (ap out-Value is ∙ value.outs-ListOf items)) ∙ h)
  list_fits (part k) is h = absurd (false≢true (sym (ap (fits_part k) (ap out-Value is ∙ value.outs-ListOf items)) ∙ h))

  pub dictionary_fits : (s : Step) → v ≡ value.DictOf items → fits_along (s ∷ path) x v ≡ true →
      list_all (fits_along path x) (values items) ≡ true
  dictionary_fits (by i) is h =
      (and_parts (is_key i && list_all (alike i) (keys items)) (list_all (fits_along path x) (values items))
      (sym (ap (fits_by i) (ap out-Value is ∙ value.outs-DictOf items)) ∙ h)).1
  dictionary_fits (part k) is h = absurd (false≢true (sym (ap (fits_part k) (ap out-Value is ∙ value.outs-DictOf items)) ∙ h))

  tuple_fits : (k : ℕ) → v ≡ value.TupleOf items → fits_along (part k ∷ path) x v ≡ true → fits_there (slice_get items k) ≡ true
  tuple_fits k is h = sym (ap (fits_part k) (ap out-Value is ∙ value.outs-TupleOf items)) ∙ h

there_fits : (path : List Step) (x : Value) (o : Option Value) (item : Value) →
    elim o [ None ↦ false | Some p ↦ fits_along path x p ] ≡ true → o ≡ Some item → fits_along path x item ≡ true
there_fits path x None item h e = nothing item e
there_fits path x (Some p) item h e = subst (λ z. fits_along path x z ≡ true) (some_equal p item e) h

there_inside : (path : List Step) (x : Value) (items : List Value) (k : ℕ) →
    elim (slice_get items k) [ None ↦ false | Some p ↦ fits_along path x p ] ≡ true → k < length items
there_inside path x [] k h = absurd (false≢true h)
there_inside path x (p ∷ ps) zero h = omega arith
there_inside path x (p ∷ ps) (suc k) h = let less = there_inside path x ps k h in omega (arith, less)

pub part_fits : (path : List Step) (x v : Value) (items : List Value) (k : ℕ) → v ≡ value.TupleOf items →
    fits_along (part k ∷ path) x v ≡ true → (item : Value) → slice_get items k ≡ Some item → fits_along path x item ≡ true
part_fits path x v items k is h item found = there_fits path x (slice_get items k) item (tuple_fits path x v items k is h) found

pub part_inside : (path : List Step) (x v : Value) (items : List Value) (k : ℕ) → v ≡ value.TupleOf items →
    fits_along (part k ∷ path) x v ≡ true → k < length items
part_inside path x v items k is h = there_inside path x items k (tuple_fits path x v items k is h)

-- what a store comes to at each kind of container

module _ (path : List Step) (x v : Value) (items : List Value) where
  abbrev in_list : Value-F Value → Outcome
  in_list layer = elim layer [
    | Value-F.Int number ↦ change_place items (stored path x) (place_of (length items) number)
    | _ ↦ wrong
  ]

  abbrev stored_by : Value → Value-F Value → Outcome
  stored_by i layer = elim layer [
    | Value-F.ListOf items ↦ elim (out-Value i) [
      | Value-F.Int number ↦ change_place items (stored path x) (place_of (length items) number)
      | _ ↦ wrong
    ]
    | Value-F.DictOf items ↦ store_key path items i x (stored path x)
    | _ ↦ wrong
  ]

  abbrev stored_part : ℕ → Value-F Value → Outcome
  stored_part k layer = elim layer [
    | Value-F.TupleOf parts ↦ changed_at value.TupleOf parts (stored path x) k (slice_get parts k)
    | _ ↦ wrong
  ]

  pub stored_list : (s : Step) (number : ℤ) (o : Option ℕ) → v ≡ value.ListOf items → s ≡ by (value.Int number) →
      place_of (length items) number ≡ o → stored (s ∷ path) x v ≡ change_place items (stored path x) o
  stored_list s number o is step place =
      ap (λ s. stored (s ∷ path) x v) step ∙
      ap (stored_by (value.Int number)) (ap out-Value is ∙ value.outs-ListOf items) ∙
      ap in_list (value.outs-Int number) ∙ ap (change_place items (stored path x)) place

  pub stored_dictionary : (s : Step) (key : Value) → v ≡ value.DictOf items → s ≡ by key →
      stored (s ∷ path) x v ≡ store_key path items key x (stored path x)
  stored_dictionary s key is step =
      ap (λ s. stored (s ∷ path) x v) step ∙ ap (stored_by key) (ap out-Value is ∙ value.outs-DictOf items)

  pub stored_tuple : (s : Step) (k : ℕ) → v ≡ value.TupleOf items → s ≡ part k →
      stored (s ∷ path) x v ≡ changed_at value.TupleOf items (stored path x) k (slice_get items k)
  stored_tuple s k is step =
      ap (λ s. stored (s ∷ path) x v) step ∙ ap (stored_part k) (ap out-Value is ∙ value.outs-TupleOf items)
