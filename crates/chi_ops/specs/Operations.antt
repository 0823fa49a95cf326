-- The operations on all containers, and those on sets and dictionaries, each wrong (or none) exactly where its condition fails.
use Rattle.std.specs.Prelude.{ℕ, Bool, Option, None, Some, List, [], ◌∷◌, length, option_map, if◌then◌else◌}
use Rattle.chi_value.specs.declared.format.Kind.{Kind}
use Rattle.chi_value.specs.declared.format.Kind.TheVariants as kind
use Rattle.chi_value.specs.declared.value.Value.{Value, Value-F, out-Value}
use Rattle.chi_value.specs.declared.value.Value.TheVariants as value
use Rattle.chi_sets.specs.Sets.{among, set_of, union as set_union, meet as set_meet, minus as set_minus, is_subset}
use Rattle.chi_sets.specs.Dictionaries.{key_of, value_of, has as has_entry, keys, values, value_at, dictionary_of, dictionary_union, minus_keys as without_keys, entries_of}
use Rattle.chi_ops.specs.Conditions.{may_size, may_lookup, may_has, may_sub, may_pop, may_union, may_meet, may_minus, may_minus_keys, may_keys, may_values, may_build}
use Rattle.chi_ops.specs.Outcome.{Outcome, gives, faults, wrong, where_may, key_fault, empty_fault, gives_or, gives_within}

-- how many elements, entries or bytes there are
abbrev pub size : Value → Option ℕ
size v = if may_size v then elim (out-Value v) [
  | Value-F.Text bytes ↦ Some (length bytes)
  | Value-F.ListOf items ↦ Some (length items)
  | Value-F.SetOf items ↦ Some (length items)
  | Value-F.DictOf items ↦ Some (length items)
  | _ ↦ None
] else None

-- an element is in a list or set, or a key in a dictionary
abbrev pub has : Value → Value → Option Bool
has v x = if may_has v x then elim (out-Value v) [
  | Value-F.ListOf items ↦ Some (among items x)
  | Value-F.SetOf items ↦ Some (among items x)
  | Value-F.DictOf items ↦ Some (has_entry items x)
  | _ ↦ None
] else None

-- a set is a subset of another
abbrev pub sub : Value → Value → Option Bool
sub a b = if may_sub a b then elim (out-Value a) [
  | Value-F.SetOf xs ↦ elim (out-Value b) [ Value-F.SetOf ys ↦ Some (is_subset xs ys) | _ ↦ None ]
  | _ ↦ None
] else None

-- what a key has
abbrev pub lookup : Value → Value → Outcome
lookup d key = where_may (may_lookup d key) (elim (out-Value d) [
  | Value-F.DictOf items ↦ gives_or key_fault (value_at items key)
  | _ ↦ wrong
])

-- the first, and the rest as a container of the kind
abbrev pub first_and_rest : (List Value → Value) → List Value → Outcome
first_and_rest made [] = faults empty_fault
first_and_rest made (x ∷ xs) = gives (value.TupleOf (x ∷ made xs ∷ []))

-- a key, what it has, and the rest of the dictionary
abbrev pub entry_and_others : Option Value → Option Value → List Value → Outcome
entry_and_others (Some key) (Some has) es = gives (value.TupleOf (key ∷ has ∷ value.DictOf es ∷ []))
entry_and_others _ _ es = wrong

abbrev pub entry_and_rest : List Value → Outcome
entry_and_rest [] = faults empty_fault
entry_and_rest (e ∷ es) = entry_and_others (key_of e) (value_of e) es

-- the first, and the rest: of a set the least element, of a dictionary the least key and what it has
abbrev pub pop : Value → Outcome
pop v = where_may (may_pop v) (elim (out-Value v) [
  | Value-F.ListOf items ↦ first_and_rest value.ListOf items
  | Value-F.SetOf items ↦ first_and_rest value.SetOf items
  | Value-F.DictOf items ↦ entry_and_rest items
  | _ ↦ wrong
])

-- what is in either; of dictionaries the right one wins
abbrev pub union : Value → Value → Outcome
union a b = where_may (may_union a b) (elim (out-Value a) [
  | Value-F.SetOf xs ↦ elim (out-Value b) [
    | Value-F.SetOf ys ↦ gives_within (length (set_union xs ys)) (value.SetOf (set_union xs ys))
    | _ ↦ wrong
  ]
  | Value-F.DictOf xs ↦ elim (out-Value b) [
    | Value-F.DictOf ys ↦ gives_within (length (dictionary_union xs ys)) (value.DictOf (dictionary_union xs ys))
    | _ ↦ wrong
  ]
  | _ ↦ wrong
])

-- what is in both sets
abbrev pub meet : Value → Value → Outcome
meet a b = where_may (may_meet a b) (elim (out-Value a) [
  | Value-F.SetOf xs ↦ elim (out-Value b) [ Value-F.SetOf ys ↦ gives (value.SetOf (set_meet xs ys)) | _ ↦ wrong ]
  | _ ↦ wrong
])

-- what is in the first set and not in the second
abbrev pub minus : Value → Value → Outcome
minus a b = where_may (may_minus a b) (elim (out-Value a) [
  | Value-F.SetOf xs ↦ elim (out-Value b) [ Value-F.SetOf ys ↦ gives (value.SetOf (set_minus xs ys)) | _ ↦ wrong ]
  | _ ↦ wrong
])

-- a dictionary without the keys in a set
abbrev pub minus_keys : Value → Value → Outcome
minus_keys d removed = where_may (may_minus_keys d removed) (elim (out-Value d) [
  | Value-F.DictOf xs ↦ elim (out-Value removed) [
    | Value-F.SetOf ys ↦ gives (value.DictOf (without_keys xs ys))
    | _ ↦ wrong
  ]
  | _ ↦ wrong
])

-- the list of keys, ascending
abbrev pub keys_of : Value → Outcome
keys_of d = where_may (may_keys d) (elim (out-Value d) [
  | Value-F.DictOf items ↦ gives (value.ListOf (keys items))
  | _ ↦ wrong
])

-- the list of what the keys have, in the order of keys
abbrev pub values_of : Value → Outcome
values_of d = where_may (may_values d) (elim (out-Value d) [
  | Value-F.DictOf items ↦ gives (value.ListOf (values items))
  | _ ↦ wrong
])

-- the elements of a container of the kind, built of parts
abbrev pub elements_built : Kind → List Value → Option (List Value)
elements_built kind.TupleOf parts = Some parts
elements_built kind.ListOf parts = Some parts
elements_built kind.SetOf parts = Some (set_of parts)
elements_built kind.DictOf parts = option_map dictionary_of (entries_of parts)

abbrev pub of_kind : Kind → List Value → Value
of_kind kind.TupleOf = value.TupleOf
of_kind kind.ListOf = value.ListOf
of_kind kind.SetOf = value.SetOf
of_kind kind.DictOf = value.DictOf

abbrev pub built : Kind → Option (List Value) → Outcome
built k None = wrong
built k (Some elements) = gives_within (length elements) (of_kind k elements)

-- what a literal makes of its parts; of a dictionary they are a key, what it has, the next key and so on
abbrev pub build : Kind → List Value → Outcome
build k parts = where_may (may_build k parts) (built k (elements_built k parts))
