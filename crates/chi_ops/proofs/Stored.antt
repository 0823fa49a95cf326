-- What is stored along a path is what is read along it.
use Rattle.std.proofs.Common.{◌≡◌, ℕ, zero, suc, ℤ, Bool, true, false, cond, Option, None, Some, List, [], ◌∷◌, length, slice_get, slice_set, is_some, is_none, nat_lt, not, ◌&&◌, refl, sym, ap, ◌∙◌}
use Rattle.std.proofs.lemmas.Bool.{false≢true}
use Rattle.std.proofs.lemmas.List.{length-set}
use Rattle.std.specs.Prelude.{option_and_then}
use Rattle.chi_value.specs.declared.value.TheConstants.{MOST_ELEMENTS}
use Rattle.chi_value.specs.declared.value.Value.{Value, Value-F, out-Value}
use Rattle.chi_value.specs.declared.value.Value.TheVariants as value
use Rattle.chi_sets.specs.Dictionaries.{entry, value_at, with_entry}
use Rattle.chi_sets.proofs.DictionaryLaws.{with_entry_value}
use Rattle.chi_ops.specs.Along.{read_along}
use Rattle.chi_ops.specs.Outcome.{Outcome, gives, faults, wrong, limit_fault, where_may, outcome_map}
use Rattle.chi_ops.specs.Places.{place_of, at_place}
use Rattle.chi_ops.specs.Store.{Step, by, part, may_put, changed_at, change_place, change_key, store_key, stored, put}

get_set : (xs : List Value) (k : ℕ) (old new : Value) → slice_get xs k ≡ Some old → slice_get (slice_set xs k new) k ≡ Some new
get_set [] k old new is = absurd (false≢true (ap is_some is))
get_set (x ∷ xs) zero old new is = refl
get_set (x ∷ xs) (suc k) old new is = get_set xs k old new is

abbrev given : Outcome → Option Value
given (gives v) = Some v
given (faults fault) = None
given wrong = None

-- a change that gives something

mapped_gives : (g : Value → Value) (o : Outcome) (w : Value) → outcome_map g o ≡ gives w → (new : Value) × ((o ≡ gives new) × (w ≡ g new))
mapped_gives g (gives v) w h = (v, (refl, (cc)))
mapped_gives g (faults fault) w h = absurd (cc)
mapped_gives g wrong w h = absurd (cc)

-- an element or part that was changed
record Changed (made : List Value → Value) (items : List Value) (change : Value → Outcome) (place : ℕ) (w : Value) : Type 0 where
  old : Value
  new : Value
  gave : change old ≡ gives new
  stands : slice_get (slice_set items place new) place ≡ Some new
  is : w ≡ made (slice_set items place new)

module _ (made : List Value → Value) (items : List Value) (change : Value → Outcome) (place : ℕ) (w : Value) where
  changed_from : (o : Option Value) → slice_get items place ≡ o → changed_at made items change place o ≡ gives w → Changed made items change place w
  changed_from None was h = absurd (cc)
  changed_from (Some old) was h =
      let gave = mapped_gives (λ x. made (slice_set items place x)) (change old) w h in
      record { old = old; new = gave.0; gave = gave.1.0; stands = get_set items place old gave.0 was; is = gave.1.1 }

  changed_is : changed_at made items change place (slice_get items place) ≡ gives w → Changed made items change place w
  changed_is h = changed_from (slice_get items place) refl h

-- what is read at each kind of container

module _ (path : List Step) (x : Value) (on : (v w : Value) → stored path x v ≡ gives w → read_along path w ≡ Some x) where
  reads_list : (i : Value) (number : ℤ) (items : List Value) (w : Value) → out-Value i ≡ Value-F.Int number → (o : Option ℕ) →
      place_of (length items) number ≡ o → change_place items (stored path x) o ≡ gives w → read_along (by i ∷ path) w ≡ Some x
  reads_list i number items w is None there h = absurd (cc)
  reads_list i number items w is (Some place) place_is h =
      let changed = changed_is value.ListOf items (stored path x) place w h in
      let set = slice_set items place changed.new in
      let out : out-Value w ≡ Value-F.ListOf set = ap out-Value changed.is ∙ value.outs-ListOf set in
      let there : place_of (length set) number ≡ Some place = ap (λ n. place_of n number) (length-set items place changed.new) ∙ place_is in
      let found : at_place set number ≡ Some changed.new = ap (option_and_then (slice_get set)) there ∙ changed.stands in
      rw (out, is, read_along) (ap (option_and_then (read_along path)) found ∙ on changed.old changed.new changed.gave)

  reads_tuple : (k : ℕ) (parts : List Value) (w : Value) → changed_at value.TupleOf parts (stored path x) k (slice_get parts k) ≡ gives w →
      read_along (part k ∷ path) w ≡ Some x
  reads_tuple k parts w h =
      let changed = changed_is value.TupleOf parts (stored path x) k w h in
      let set = slice_set parts k changed.new in
      let out : out-Value w ≡ Value-F.TupleOf set = ap out-Value changed.is ∙ value.outs-TupleOf set in
      rw (out, read_along) (ap (option_and_then (read_along path)) changed.stands ∙ on changed.old changed.new changed.gave)

  reads_entry : (i : Value) (items : List Value) (new w : Value) → w ≡ value.DictOf (with_entry items (entry i new)) →
      read_along path new ≡ Some x → read_along (by i ∷ path) w ≡ Some x
  reads_entry i items new w is h =
      let set = with_entry items (entry i new) in
      let out : out-Value w ≡ Value-F.DictOf set = ap out-Value is ∙ value.outs-DictOf set in
      rw (out, read_along) (ap (option_and_then (read_along path)) (with_entry_value items i new) ∙ h)

  reads_key : (i : Value) (items : List Value) (w : Value) (o : Option Value) → change_key items i (stored path x) o ≡ gives w →
      read_along (by i ∷ path) w ≡ Some x
  reads_key i items w None h = absurd (cc)
  reads_key i items w (Some has) h =
      let gave = mapped_gives (λ new. value.DictOf (with_entry items (entry i new))) (stored path x has) w h in
      reads_entry i items gave.0 w gave.1.1 (on has gave.0 gave.1.0)

put_key_is : (items : List Value) (key x w : Value) (full : Bool) →
    cond full (faults limit_fault) (gives (value.DictOf (with_entry items (entry key x)))) ≡ gives w →
    w ≡ value.DictOf (with_entry items (entry key x))
put_key_is items key x w true h = absurd (cc)
put_key_is items key x w false h = (cc)

reads_dictionary : (path : List Step) (x i : Value) (items : List Value) (w : Value) →
    ((v w : Value) → stored path x v ≡ gives w → read_along path w ≡ Some x) →
    store_key path items i x (stored path x) ≡ gives w → read_along (by i ∷ path) w ≡ Some x
reads_dictionary [] x i items w on h =
    reads_entry [] x on i items x w (put_key_is items i x w (is_none (value_at items i) && not (nat_lt (length items) MOST_ELEMENTS)) h) refl
reads_dictionary (step ∷ path) x i items w on h = reads_key (step ∷ path) x on i items w (value_at items i) h

reads_by : (path : List Step) (x v w i : Value) → ((v w : Value) → stored path x v ≡ gives w → read_along path w ≡ Some x) →
    stored (by i ∷ path) x v ≡ gives w → (layer : Value-F Value) → out-Value v ≡ layer → (key : Value-F Value) → out-Value i ≡ key →
    read_along (by i ∷ path) w ≡ Some x
reads_by path x v w i on h (Value-F.ListOf items) out (Value-F.Int number) is =
    reads_list path x on i number items w is (place_of (length items) number) refl (rw (out, is, stored) at h)
reads_by path x v w i on h (Value-F.ListOf items) out _ is = let none = rw (out, is, stored) at h in absurd (cc)
reads_by path x v w i on h (Value-F.DictOf items) out key is = reads_dictionary path x i items w on (rw (out, stored) at h)
reads_by path x v w i on h _ out key is = let none = rw (out, stored) at h in absurd (cc)

reads_part : (path : List Step) (x v w : Value) (k : ℕ) → ((v w : Value) → stored path x v ≡ gives w → read_along path w ≡ Some x) →
    stored (part k ∷ path) x v ≡ gives w → (layer : Value-F Value) → out-Value v ≡ layer → read_along (part k ∷ path) w ≡ Some x
reads_part path x v w k on h (Value-F.TupleOf parts) out = reads_tuple path x on k parts w (rw (out, stored) at h)
reads_part path x v w k on h _ out = let none = rw (out, stored) at h in absurd (cc)

pub read_stored : (path : List Step) (x v w : Value) → stored path x v ≡ gives w → read_along path w ≡ Some x
read_stored [] x v w h = sym (ap given h)
read_stored (by i ∷ path) x v w h = reads_by path x v w i (read_stored path x) h (out-Value v) refl (out-Value i) refl
read_stored (part k ∷ path) x v w h = reads_part path x v w k (read_stored path x) h (out-Value v) refl

allowed : (may : Bool) (o : Outcome) (w : Value) → where_may may o ≡ gives w → o ≡ gives w
allowed true o w h = h
allowed false o w h = absurd (cc)

pub read_put : (path : List Step) (x v w : Value) → put path x v ≡ gives w → read_along path w ≡ Some x
read_put path x v w h = read_stored path x v w (allowed (may_put path x v) (stored path x v) w h)
