-- Slices with each bound, and ranges near the ends of 64 bits.
use Rattle.std.proofs.Common.{◌≡◌, pos, negsuc, [], ◌∷◌, true, false}
use Rattle.std.specs.Prelude.{codes, ◌-◌, ◌^◌}
use Rattle.std.specs.Fmt.{digits}
use Rattle.chi_num.specs.Power.{power}
use Rattle.chi_num.specs.Decimal.{number_of}
use Rattle.chi_ops.specs.Progression.{numbers}
use Rattle.chi_dist.specs.Draws.{sampled}
use Rattle.chi_value.specs.declared.value.Value.{Value}
use Rattle.chi_value.specs.declared.value.Value.TheVariants as value
use Rattle.chi_core.specs.declared.op_name.OpName.TheVariants as op
use Rattle.chi_core.specs.declared.fault.FaultKind.TheVariants.{IndexRange, TooLarge}
use Rattle.chi_core.specs.Answer.{Fails}
use Rattle.chi_core_rows.proofs.Closed.{operations}
use Rattle.chi_core_rows.proofs.Operators.{of, gives}
use Rattle.chi_core_rows.proofs.Small.{int}

abbrev numbers_7 : Value
numbers_7 = value.ListOf (int 7 ∷ int 8 ∷ int 9 ∷ [])

-- a bound below 0 counts from the end
slices_from : of (op.Slice true false false) (numbers_7 ∷ (value.Int (negsuc 1)) ∷ []) ≡ gives (value.ListOf (int 8 ∷ int 9 ∷ []))
unfolding denote.Hole.Carrier.out digits numbers number_of power sampled
slices_from = simp operations

slices_upto : of (op.Slice false true false) (numbers_7 ∷ (value.Int (negsuc 0)) ∷ []) ≡ gives (value.ListOf (int 7 ∷ int 8 ∷ []))
unfolding denote.Hole.Carrier.out digits numbers number_of power sampled
slices_upto = simp operations

-- bounds beyond the ends are moved to them
slices_beyond : of (op.Slice true true false) (numbers_7 ∷ (value.Int (negsuc 8)) ∷ (int 9) ∷ []) ≡ gives numbers_7
unfolding denote.Hole.Carrier.out digits numbers number_of power sampled
slices_beyond = simp operations

-- a bound at the end leaves nothing, and so do bounds the other way round
slices_at_end : of (op.Slice true false false) (numbers_7 ∷ (int 3) ∷ []) ≡ gives (value.ListOf [])
unfolding denote.Hole.Carrier.out digits numbers number_of power sampled
slices_at_end = simp operations

slices_reversed : of (op.Slice true true false) (numbers_7 ∷ (int 2) ∷ (int 1) ∷ []) ≡ gives (value.ListOf [])
unfolding denote.Hole.Carrier.out digits numbers number_of power sampled
slices_reversed = simp operations

-- backwards, before the bound
slices_down_to : of (op.Slice true true true) (numbers_7 ∷ (int 2) ∷ (int 0) ∷ (value.Int (negsuc 0)) ∷ []) ≡ gives (value.ListOf (int 9 ∷ int 8 ∷ []))
unfolding denote.Hole.Carrier.out digits numbers number_of power sampled
slices_down_to = simp operations

-- backwards from beyond the end, by two
slices_down_from : of (op.Slice true false true) (numbers_7 ∷ (int 9) ∷ (value.Int (negsuc 1)) ∷ []) ≡ gives (value.ListOf (int 9 ∷ int 7 ∷ []))
unfolding denote.Hole.Carrier.out digits numbers number_of power sampled
slices_down_from = simp operations

slices_text : of (op.Slice true false false) ((value.Text (codes "abc")) ∷ (int 1) ∷ []) ≡ gives (value.Text (codes "bc"))
unfolding denote.Hole.Carrier.out digits numbers number_of power sampled
slices_text = simp operations

-- next to the greatest and the least int
range_greatest : of op.Range ((value.Int (pos (2 ^ 63 - 2))) ∷ (value.Int (pos (2 ^ 63 - 1))) ∷ (value.Int (pos (2 ^ 63 - 1))) ∷ []) ≡ gives (value.ListOf (value.Int (pos (2 ^ 63 - 2)) ∷ []))
unfolding denote.Hole.Carrier.out digits numbers number_of power sampled
range_greatest = simp operations

range_least : of op.Range ((value.Int (negsuc (2 ^ 63 - 2))) ∷ (value.Int (negsuc (2 ^ 63 - 1))) ∷ (value.Int (negsuc 0)) ∷ []) ≡ gives (value.ListOf (value.Int (negsuc (2 ^ 63 - 2)) ∷ []))
unfolding denote.Hole.Carrier.out digits numbers number_of power sampled
range_least = simp operations

-- one more than there may be
range_too_large : of op.Range ((int 1_048_577) ∷ []) ≡ Fails TooLarge
unfolding denote.Hole.Carrier.out digits numbers number_of power sampled
range_too_large = simp operations

del_end : of op.Del (numbers_7 ∷ (value.Int (negsuc 2)) ∷ []) ≡ gives (value.ListOf (int 8 ∷ int 9 ∷ []))
unfolding denote.Hole.Carrier.out digits numbers number_of power sampled
del_end = simp operations

del_past : of op.Del (numbers_7 ∷ (value.Int (negsuc 3)) ∷ []) ≡ Fails IndexRange
unfolding denote.Hole.Carrier.out digits numbers number_of power sampled
del_past = simp operations
