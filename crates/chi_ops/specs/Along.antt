-- Reading a part of a value along a path.
use Rattle.std.specs.Prelude.{Option, None, Some, List, [], ◌∷◌, slice_get, option_and_then}
use Rattle.chi_value.specs.declared.value.Value.{Value, Value-F, out-Value}
use Rattle.chi_sets.specs.Dictionaries.{value_at}
use Rattle.chi_ops.specs.Places.{at_place}
use Rattle.chi_ops.specs.Store.{Step, by, part}

-- what stands where a path leads: by its steps the element at an index of a list, what a key of a dictionary has, or a
-- part of a tuple
abbrev pub read_along : List Step → Value → Option Value
read_along [] v = Some v
read_along (by i ∷ path) v = elim (out-Value v) [
  | Value-F.ListOf items ↦ elim (out-Value i) [
    | Value-F.Int number ↦ option_and_then (read_along path) (at_place items number)
    | _ ↦ None
  ]
  | Value-F.DictOf items ↦ option_and_then (read_along path) (value_at items i)
  | _ ↦ None
]
read_along (part k ∷ path) v = elim (out-Value v) [
  | Value-F.TupleOf parts ↦ option_and_then (read_along path) (slice_get parts k)
  | _ ↦ None
]
