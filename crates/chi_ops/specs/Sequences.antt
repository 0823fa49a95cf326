-- The operations on lists and strings, each wrong exactly where its condition fails.
use Rattle.std.specs.Prelude.{ℕ, ◌+◌, ℤ, pos, Option, [], ◌∷◌, ◌++◌, length, map, insert, remove, option_map, unwrap_or, if◌then◌else◌}
use Rattle.std.specs.Ordering.{int_eq}
use Rattle.std.specs.List.{enumerate_from}
use Rattle.chi_value.specs.declared.value.Value.{Value, Value-F, out-Value}
use Rattle.chi_value.specs.declared.value.Value.TheVariants as value
use Rattle.chi_ops.specs.Conditions.{may_index, may_slice, may_join, may_insert_at, may_del, may_enumerate}
use Rattle.chi_ops.specs.Outcome.{Outcome, gives, faults, wrong, where_may, index_fault, step_fault, gives_or, gives_within}
use Rattle.chi_ops.specs.Places.{place_of, at_place}
use Rattle.chi_ops.specs.Progression.{count_from, progression}
use Rattle.chi_ops.specs.Slices.{slice_of}

-- one byte as a string
abbrev pub byte_text : ℕ → Value
byte_text byte = value.Text (byte ∷ [])

-- the element at an index, or the byte as a string
abbrev pub index : Value → ℤ → Outcome
index v i = where_may (may_index v i) (elim (out-Value v) [
  | Value-F.ListOf items ↦ gives_or index_fault (at_place items i)
  | Value-F.Text bytes ↦ gives_or index_fault (option_map byte_text (at_place bytes i))
  | _ ↦ wrong
])

-- the step where none is given is 1
abbrev pub step_of : Option ℤ → ℤ
step_of by = unwrap_or by (pos 1)

-- the elements or bytes from a place to before another, by steps
abbrev pub slice : Value → Option ℤ → Option ℤ → Option ℤ → Outcome
slice v first last by = where_may (may_slice v first last by) (
    if int_eq (step_of by) (pos 0) then faults step_fault
    else elim (out-Value v) [
      | Value-F.ListOf items ↦ gives (value.ListOf (slice_of items first last (step_of by)))
      | Value-F.Text bytes ↦ gives (value.Text (slice_of bytes first last (step_of by)))
      | _ ↦ wrong
    ])

-- one list or string after another
abbrev pub join : Value → Value → Outcome
join a b = where_may (may_join a b) (elim (out-Value a) [
  | Value-F.ListOf xs ↦ elim (out-Value b) [
    | Value-F.ListOf ys ↦ gives_within (length xs + length ys) (value.ListOf (xs ++ ys))
    | _ ↦ wrong
  ]
  | Value-F.Text xs ↦ elim (out-Value b) [
    | Value-F.Text ys ↦ gives_within (length xs + length ys) (value.Text (xs ++ ys))
    | _ ↦ wrong
  ]
  | _ ↦ wrong
])

-- a list with one more element, at a place that is at most the size
abbrev pub insert_at : Value → ℕ → Value → Outcome
insert_at v i x = where_may (may_insert_at v i x) (elim (out-Value v) [
  | Value-F.ListOf items ↦ gives_within (length items + 1) (value.ListOf (insert items i x))
  | _ ↦ wrong
])

-- a list without the element at an index
abbrev pub del : Value → ℤ → Outcome
del v i = where_may (may_del v i) (elim (out-Value v) [
  | Value-F.ListOf items ↦
      gives_or index_fault (option_map (λ place. value.ListOf (remove items place)) (place_of (length items) i))
  | _ ↦ wrong
])

-- ints from one to before another, by a step
abbrev pub range : ℤ → ℤ → ℤ → Outcome
range first last by =
    if int_eq by (pos 0) then faults step_fault
    else gives_within (count_from first last by) (value.ListOf (map value.Int (progression first last by)))

-- an index with its element
abbrev pub numbered : ℕ × Value → Value
numbered pair = value.TupleOf (value.Int (pos pair.0) ∷ pair.1 ∷ [])

-- the list of each index with its element
abbrev pub enumerate : Value → Outcome
enumerate v = where_may (may_enumerate v) (elim (out-Value v) [
  | Value-F.ListOf items ↦ gives (value.ListOf (map numbered (enumerate_from 0 items)))
  | _ ↦ wrong
])
