-- Operations on containers and strings, with their faults. Each is amiss where its condition doesn't hold.
use Rattle.std.specs.Prelude.{ℤ, pos, nat_eq, Bool, true, false, Option, Some, None, List, [], ◌∷◌, option_map}
use Rattle.chi_value.specs.declared.value.Value.{Value, Value-F, out-Value}
use Rattle.chi_value.specs.declared.value.Value.TheVariants as value
use Rattle.chi_ops.specs.Outcome as outcome
use Rattle.chi_ops.specs.Outcome.{Outcome}
use Rattle.chi_ops.specs.Operations.{size}
use Rattle.chi_ops.specs.Sequences.{index, del, range, slice}
use Rattle.chi_core.specs.declared.fault.FaultKind.{FaultKind}
use Rattle.chi_core.specs.declared.fault.FaultKind.TheVariants.{IndexRange, KeyMissing, EmptyPop, TooLarge, SliceStep}
use Rattle.chi_core.specs.Answer.{Gives, Fails, Amiss, Does, amiss, wanted}
use Rattle.chi_core.specs.Reading.{int_of}
use Rattle.chi_core.specs.Arithmetic.{on_int}

abbrev pub fault_of : outcome.Fault → FaultKind
fault_of outcome.index_fault = IndexRange
fault_of outcome.key_fault = KeyMissing
fault_of outcome.empty_fault = EmptyPop
fault_of outcome.limit_fault = TooLarge
fault_of outcome.step_fault = SliceStep

-- what an operation on containers comes to
abbrev pub done : Outcome → Does Value
done (outcome.gives v) view = Gives v view
done (outcome.faults fault) view = Fails (fault_of fault)
done outcome.wrong view = Amiss

-- the element of a list, or the byte of a string, at an index
abbrev pub element_at : Value → Value → Does Value
element_at a i = on_int (λ i. done (index a i)) (out-Value i)

-- a list without the element at an index
abbrev pub without : Value → Value → Does Value
without a i = on_int (λ i. done (del a i)) (out-Value i)

abbrev pub size_of : Value → Does Value
size_of a = wanted (option_map (λ n. value.Int (pos n)) (size a))

abbrev pub is_empty : Value → Does Value
is_empty a = wanted (option_map (λ n. value.Bool (nat_eq n 0)) (size a))

-- the ints from the first to before the last, so far apart
abbrev pub range_of : Value-F Value → Value-F Value → Value-F Value → Does Value
range_of (Value-F.Int first) (Value-F.Int last) (Value-F.Int by) = done (range first last by)
range_of _ _ _ = amiss

-- Slices: a bound that is given is the next of the operands.

abbrev pub bounds : List Bool → List Value → Option (List (Option ℤ))
bounds [] [] = Some []
bounds [] (b ∷ rest) = None
bounds (false ∷ given) operands = option_map (λ others. None ∷ others) (bounds given operands)
bounds (true ∷ given) [] = None
bounds (true ∷ given) (b ∷ rest) = with_bound (int_of b) (bounds given rest)
  where
    with_bound : Option ℤ → Option (List (Option ℤ)) → Option (List (Option ℤ))
    with_bound (Some x) (Some others) = Some (Some x ∷ others)
    with_bound _ _ = None

abbrev pub slice_by : Value → Option (List (Option ℤ)) → Does Value
slice_by a (Some (first ∷ last ∷ by ∷ [])) = done (slice a first last by)
slice_by a _ = amiss

-- the part of a list or string between bounds, of which some are given
abbrev pub sliced : Bool → Bool → Bool → Value → List Value → Does Value
sliced first last by a operands = slice_by a (bounds (first ∷ last ∷ by ∷ []) operands)
