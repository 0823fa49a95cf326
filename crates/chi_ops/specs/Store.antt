-- Storing a value into a part of another, along a path.
use Rattle.std.specs.Prelude.{ℕ, Bool, false, nat_lt, is_none, not, Option, None, Some, List, [], ◌∷◌, length, slice_get, slice_set, if◌then◌else◌, ◌&&◌}
use Rattle.std.specs.List.{list_all}
use Rattle.chi_value.specs.declared.value.TheConstants.{MOST_ELEMENTS}
use Rattle.chi_value.specs.declared.value.Value.{Value, Value-F, out-Value}
use Rattle.chi_value.specs.declared.value.Value.TheVariants as value
use Rattle.chi_value.specs.Alike.{alike}
use Rattle.chi_sets.specs.Dictionaries.{entry, keys, values, value_at, with_entry}
use Rattle.chi_ops.specs.Conditions.{is_key}
use Rattle.chi_ops.specs.Kinds.{is_int}
use Rattle.chi_ops.specs.Outcome.{Outcome, gives, faults, wrong, where_may, index_fault, key_fault, limit_fault, outcome_map}
use Rattle.chi_ops.specs.Places.{place_of}
use Rattle.chi_ops.specs.Tidy.{tidy}

-- one step of a path: by an index into a list or a key into a dictionary, as the container decides, or to a part of a tuple
pub data Step : Type 0 where
  by : Value → Step
  part : ℕ → Step

-- a value may stand where a path leads: a step by an int meets a list, one by a key alike to the others a dictionary,
-- one to a part a tuple that has it; and the value is alike to all that stand at such a place
abbrev pub fits_along : List Step → Value → Value → Bool
fits_along [] x v = alike x v
fits_along (by i ∷ path) x v = elim (out-Value v) [
  | Value-F.ListOf items ↦ is_int i && list_all (fits_along path x) items
  | Value-F.DictOf items ↦ is_key i && list_all (alike i) (keys items) && list_all (fits_along path x) (values items)
  | _ ↦ false
]
fits_along (part k ∷ path) x v = elim (out-Value v) [
  | Value-F.TupleOf parts ↦ elim (slice_get parts k) [ None ↦ false | Some p ↦ fits_along path x p ]
  | _ ↦ false
]

abbrev pub may_put : List Step → Value → Value → Bool
may_put path x v = tidy x && tidy v && fits_along path x v

-- a list or tuple with the element at a place changed
abbrev pub changed_at : (List Value → Value) → List Value → (Value → Outcome) → ℕ → Option Value → Outcome
changed_at made items change place None = wrong
changed_at made items change place (Some item) = outcome_map (λ x. made (slice_set items place x)) (change item)

abbrev pub change_place : List Value → (Value → Outcome) → Option ℕ → Outcome
change_place items change None = faults index_fault
change_place items change (Some place) = changed_at value.ListOf items change place (slice_get items place)

-- the last step to a key: it is replaced, or added where there is room
abbrev pub put_key : List Value → Value → Value → Outcome
put_key items key x =
    if is_none (value_at items key) && not (nat_lt (length items) MOST_ELEMENTS) then faults limit_fault
    else gives (value.DictOf (with_entry items (entry key x)))

-- a step on the way: the key is there
abbrev pub change_key : List Value → Value → (Value → Outcome) → Option Value → Outcome
change_key items key change None = faults key_fault
change_key items key change (Some has) = outcome_map (λ x. value.DictOf (with_entry items (entry key x))) (change has)

-- a step to a key, which is the last one or has more after it
abbrev pub store_key : List Step → List Value → Value → Value → (Value → Outcome) → Outcome
store_key [] items key x change = put_key items key x
store_key (step ∷ path) items key x change = change_key items key change (value_at items key)

-- the value with x in the place of the part that the path leads to; the first fault along the path decides
abbrev pub stored : List Step → Value → Value → Outcome
stored [] x v = gives x
stored (by i ∷ path) x v = elim (out-Value v) [
  | Value-F.ListOf items ↦ elim (out-Value i) [
    | Value-F.Int number ↦ change_place items (stored path x) (place_of (length items) number)
    | _ ↦ wrong
  ]
  | Value-F.DictOf items ↦ store_key path items i x (stored path x)
  | _ ↦ wrong
]
stored (part k ∷ path) x v = elim (out-Value v) [
  | Value-F.TupleOf parts ↦ changed_at value.TupleOf parts (stored path x) k (slice_get parts k)
  | _ ↦ wrong
]

-- a value stored along a path
abbrev pub put : List Step → Value → Value → Outcome
put path x v = where_may (may_put path x v) (stored path x v)
