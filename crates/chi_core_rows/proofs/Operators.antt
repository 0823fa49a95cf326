-- Operators, predefined names and casts.
use Rattle.std.proofs.Common.{◌≡◌, refl, pos, negsuc, List, [], ◌∷◌, None, Some, true, false}
use Rattle.std.specs.Prelude.{codes, ◌-◌, ◌^◌}
use Rattle.std.specs.Fmt.{digits}
use Rattle.chi_num.specs.Power.{power}
use Rattle.chi_num.specs.declared.dist.Dist.TheVariants as dist
use Rattle.chi_num.specs.Decimal.{number_of}
use Rattle.chi_ops.specs.Progression.{numbers}
use Rattle.chi_dist.specs.Draws.{sampled}
use Rattle.chi_value.specs.declared.value.Value.{Value}
use Rattle.chi_value.specs.declared.value.Value.TheVariants as value
use Rattle.chi_core.specs.declared.op_name.OpName.{OpName}
use Rattle.chi_core.specs.declared.op_name.OpName.TheVariants as op
use Rattle.chi_core.specs.declared.fault.FaultKind.TheVariants.{IntRange, RealRange, DivideByZero, BadPower, IndexRange, EmptyPop, SliceStep, BadText, BadDistribution}
use Rattle.chi_core.specs.declared.view.View.{View}
use Rattle.chi_core.specs.declared.scene.Scene.{Scene}
use Rattle.chi_core.specs.Answer.{Answer, Gives, Fails, Amiss}
use Rattle.chi_core.specs.Beginning.{no_draws}
use Rattle.chi_core.specs.Operators.{applied}
use Rattle.chi_core_rows.proofs.Closed.{operations}
use Rattle.chi_core_rows.proofs.Small.{int}

-- the clock is at 3 units, and of two instances the first is finished
abbrev pub scene : Scene
scene = record { names = record { kinds = [] }; seed = 0; clock = pos 3; constants = []; finished = true ∷ false ∷ [] }

-- a third instance was made in this step
abbrev pub view : View
view = record { left = 5; draws = no_draws; channels = 0; instances = 3 }

abbrev pub of : OpName → List Value → Answer Value
of name values = applied scene name values view

abbrev pub gives : Value → Answer Value
gives v = Gives v view

not_row : of op.Not ((value.Bool true) ∷ []) ≡ gives (value.Bool false)
unfolding denote.Hole.Carrier.out digits numbers number_of power sampled
not_row = simp operations

add_ints : of op.Add ((int 2) ∷ (int 3) ∷ []) ≡ gives (int 5)
unfolding denote.Hole.Carrier.out digits numbers number_of power sampled
add_ints = simp operations

add_past : of op.Add ((value.Int (pos (2 ^ 63 - 1))) ∷ (int 1) ∷ []) ≡ Fails IntRange
unfolding denote.Hole.Carrier.out digits numbers number_of power sampled
add_past = simp operations

add_reals : of op.Add ((value.Real (pos 1000000000)) ∷ (value.Real (pos 500000000)) ∷ []) ≡ gives (value.Real (pos 1500000000))
unfolding denote.Hole.Carrier.out digits numbers number_of power sampled
add_reals = simp operations

add_real_past : of op.Add ((value.Real (pos (2 ^ 63 - 1))) ∷ (value.Real (pos 1)) ∷ []) ≡ Fails RealRange
unfolding denote.Hole.Carrier.out digits numbers number_of power sampled
add_real_past = simp operations

add_texts : of op.Add ((value.Text (codes "ab")) ∷ (value.Text (codes "c")) ∷ []) ≡ gives (value.Text (codes "abc"))
unfolding denote.Hole.Carrier.out digits numbers number_of power sampled
add_texts = simp operations

add_lists : of op.Add ((value.ListOf (int 1 ∷ [])) ∷ (value.ListOf (int 2 ∷ int 3 ∷ [])) ∷ []) ≡ gives (value.ListOf (int 1 ∷ int 2 ∷ int 3 ∷ []))
unfolding denote.Hole.Carrier.out digits numbers number_of power sampled
add_lists = simp operations

-- an int isn't converted here
add_mixed : of op.Add ((int 2) ∷ (value.Real (pos 1000000000)) ∷ []) ≡ Amiss
unfolding denote.Hole.Carrier.out digits numbers number_of power sampled
add_mixed = simp operations

subtract : of op.Sub ((int 2) ∷ (int 3) ∷ []) ≡ gives (value.Int (negsuc 0))
unfolding denote.Hole.Carrier.out digits numbers number_of power sampled
subtract = simp operations

multiply : of op.Mul ((int 4) ∷ (value.Int (negsuc 2)) ∷ []) ≡ gives (value.Int (negsuc 11))
unfolding denote.Hole.Carrier.out digits numbers number_of power sampled
multiply = simp operations

-- half a unit is rounded away from zero
multiply_reals : of op.Mul ((value.Real (pos 1)) ∷ (value.Real (pos 500000000)) ∷ []) ≡ gives (value.Real (pos 1))
unfolding denote.Hole.Carrier.out digits numbers number_of power sampled
multiply_reals = simp operations

quotient : of op.Divide ((value.Real (pos 1000000000)) ∷ (value.Real (pos 3000000000)) ∷ []) ≡ gives (value.Real (pos 333333333))
unfolding denote.Hole.Carrier.out digits numbers number_of power sampled
quotient = simp operations

quotient_by_0 : of op.Divide ((value.Real (pos 1000000000)) ∷ (value.Real (pos 0)) ∷ []) ≡ Fails DivideByZero
unfolding denote.Hole.Carrier.out digits numbers number_of power sampled
quotient_by_0 = simp operations

-- `div` rounds down, and `mod` has the sign of the divisor
div_down : of op.Div ((int 7) ∷ (value.Int (negsuc 1)) ∷ []) ≡ gives (value.Int (negsuc 3))
unfolding denote.Hole.Carrier.out digits numbers number_of power sampled
div_down = simp operations

mod_sign : of op.Mod ((int 7) ∷ (value.Int (negsuc 1)) ∷ []) ≡ gives (value.Int (negsuc 0))
unfolding denote.Hole.Carrier.out digits numbers number_of power sampled
mod_sign = simp operations

mod_positive : of op.Mod ((value.Int (negsuc 6)) ∷ (int 2) ∷ []) ≡ gives (int 1)
unfolding denote.Hole.Carrier.out digits numbers number_of power sampled
mod_positive = simp operations

div_by_0 : of op.Div ((int 7) ∷ (int 0) ∷ []) ≡ Fails DivideByZero
unfolding denote.Hole.Carrier.out digits numbers number_of power sampled
div_by_0 = simp operations

least_div : of op.Div ((value.Int (negsuc (2 ^ 63 - 1))) ∷ (value.Int (negsuc 0)) ∷ []) ≡ Fails IntRange
unfolding denote.Hole.Carrier.out digits numbers number_of power sampled
least_div = simp operations

least_mod : of op.Mod ((value.Int (negsuc (2 ^ 63 - 1))) ∷ (value.Int (negsuc 0)) ∷ []) ≡ gives (int 0)
unfolding denote.Hole.Carrier.out digits numbers number_of power sampled
least_mod = simp operations

powers : of op.Power ((value.Int (negsuc 1)) ∷ (int 3) ∷ []) ≡ gives (value.Int (negsuc 7))
unfolding denote.Hole.Carrier.out digits numbers number_of power sampled
powers = simp operations

power_below : of op.Power ((int 2) ∷ (value.Int (negsuc 0)) ∷ []) ≡ Fails BadPower
unfolding denote.Hole.Carrier.out digits numbers number_of power sampled
power_below = simp operations

power_past : of op.Power ((int 2) ∷ (int 63) ∷ []) ≡ Fails IntRange
unfolding denote.Hole.Carrier.out digits numbers number_of power sampled
power_past = simp operations

negates : of op.Neg ((int 3) ∷ []) ≡ gives (value.Int (negsuc 2))
unfolding denote.Hole.Carrier.out digits numbers number_of power sampled
negates = simp operations

negates_least : of op.Neg ((value.Int (negsuc (2 ^ 63 - 1))) ∷ []) ≡ Fails IntRange
unfolding denote.Hole.Carrier.out digits numbers number_of power sampled
negates_least = simp operations

equal_ints : of op.Equal ((int 3) ∷ (int 3) ∷ []) ≡ gives (value.Bool true)
unfolding denote.Hole.Carrier.out digits numbers number_of power sampled
equal_ints = simp operations

unequal_ints : of op.NotEqual ((int 3) ∷ (int 3) ∷ []) ≡ gives (value.Bool false)
unfolding denote.Hole.Carrier.out digits numbers number_of power sampled
unequal_ints = simp operations

less_row : of op.Less ((int 3) ∷ (int 3) ∷ []) ≡ gives (value.Bool false)
unfolding denote.Hole.Carrier.out digits numbers number_of power sampled
less_row = simp operations

at_most_row : of op.AtMost ((int 3) ∷ (int 3) ∷ []) ≡ gives (value.Bool true)
unfolding denote.Hole.Carrier.out digits numbers number_of power sampled
at_most_row = simp operations

greater_row : of op.Greater ((int 4) ∷ (int 3) ∷ []) ≡ gives (value.Bool true)
unfolding denote.Hole.Carrier.out digits numbers number_of power sampled
greater_row = simp operations

at_least_row : of op.AtLeast ((int 3) ∷ (int 4) ∷ []) ≡ gives (value.Bool false)
unfolding denote.Hole.Carrier.out digits numbers number_of power sampled
at_least_row = simp operations

equal_apart : of op.Equal ((int 3) ∷ (value.Text (codes "3")) ∷ []) ≡ Amiss
unfolding denote.Hole.Carrier.out digits numbers number_of power sampled
equal_apart = simp operations

in_list : of op.In ((int 3) ∷ (value.ListOf (int 1 ∷ int 3 ∷ [])) ∷ []) ≡ gives (value.Bool true)
unfolding denote.Hole.Carrier.out digits numbers number_of power sampled
in_list = simp operations

in_no_container : of op.In ((value.ListOf (int 3 ∷ [])) ∷ (int 3) ∷ []) ≡ Amiss
unfolding denote.Hole.Carrier.out digits numbers number_of power sampled
in_no_container = simp operations

index_end : of op.Index ((value.ListOf (int 7 ∷ int 8 ∷ int 9 ∷ [])) ∷ (value.Int (negsuc 0)) ∷ []) ≡ gives (int 9)
unfolding denote.Hole.Carrier.out digits numbers number_of power sampled
index_end = simp operations

index_past : of op.Index ((value.ListOf (int 7 ∷ int 8 ∷ int 9 ∷ [])) ∷ (int 3) ∷ []) ≡ Fails IndexRange
unfolding denote.Hole.Carrier.out digits numbers number_of power sampled
index_past = simp operations

index_byte : of op.Index ((value.Text (codes "abc")) ∷ (int 1) ∷ []) ≡ gives (value.Text (codes "b"))
unfolding denote.Hole.Carrier.out digits numbers number_of power sampled
index_byte = simp operations

slices : of (op.Slice true true false) ((value.ListOf (int 7 ∷ int 8 ∷ int 9 ∷ [])) ∷ (int 1) ∷ (int 3) ∷ []) ≡ gives (value.ListOf (int 8 ∷ int 9 ∷ []))
unfolding denote.Hole.Carrier.out digits numbers number_of power sampled
slices = simp operations

slices_back : of (op.Slice false false true) ((value.ListOf (int 7 ∷ int 8 ∷ int 9 ∷ [])) ∷ (value.Int (negsuc 0)) ∷ []) ≡ gives (value.ListOf (int 9 ∷ int 8 ∷ int 7 ∷ []))
unfolding denote.Hole.Carrier.out digits numbers number_of power sampled
slices_back = simp operations

slices_by_0 : of (op.Slice false false true) ((value.ListOf (int 7 ∷ int 8 ∷ int 9 ∷ [])) ∷ (int 0) ∷ []) ≡ Fails SliceStep
unfolding denote.Hole.Carrier.out digits numbers number_of power sampled
slices_by_0 = simp operations

slices_missing : of (op.Slice true true false) ((value.ListOf (int 7 ∷ int 8 ∷ int 9 ∷ [])) ∷ (int 1) ∷ []) ≡ Amiss
unfolding denote.Hole.Carrier.out digits numbers number_of power sampled
slices_missing = simp operations

abs_row : of op.Abs ((value.Int (negsuc 2)) ∷ []) ≡ gives (int 3)
unfolding denote.Hole.Carrier.out digits numbers number_of power sampled
abs_row = simp operations

sign_row : of op.Sign ((value.Real (negsuc 4)) ∷ []) ≡ gives (value.Int (negsuc 0))
unfolding denote.Hole.Carrier.out digits numbers number_of power sampled
sign_row = simp operations

min_row : of op.Min ((int 4) ∷ (int 2) ∷ (int 3) ∷ []) ≡ gives (int 2)
unfolding denote.Hole.Carrier.out digits numbers number_of power sampled
min_row = simp operations

max_row : of op.Max ((value.Real (pos 4)) ∷ (value.Real (pos 9)) ∷ []) ≡ gives (value.Real (pos 9))
unfolding denote.Hole.Carrier.out digits numbers number_of power sampled
max_row = simp operations

min_mixed : of op.Min ((int 4) ∷ (value.Real (pos 9)) ∷ []) ≡ Amiss
unfolding denote.Hole.Carrier.out digits numbers number_of power sampled
min_mixed = simp operations

min_of_one : of op.Min ((int 4) ∷ []) ≡ Amiss
unfolding denote.Hole.Carrier.out digits numbers number_of power sampled
min_of_one = refl

floor_row : of op.Floor ((value.Real (negsuc 499999999)) ∷ []) ≡ gives (value.Int (negsuc 0))
unfolding denote.Hole.Carrier.out digits numbers number_of power sampled
floor_row = simp operations

ceil_row : of op.Ceil ((value.Real (negsuc 499999999)) ∷ []) ≡ gives (int 0)
unfolding denote.Hole.Carrier.out digits numbers number_of power sampled
ceil_row = simp operations

round_row : of op.Round ((value.Real (negsuc 499999999)) ∷ []) ≡ gives (value.Int (negsuc 0))
unfolding denote.Hole.Carrier.out digits numbers number_of power sampled
round_row = simp operations

round_up : of op.Round ((value.Real (pos 2500000000)) ∷ []) ≡ gives (int 3)
unfolding denote.Hole.Carrier.out digits numbers number_of power sampled
round_up = simp operations

size_row : of op.Size ((value.ListOf (int 7 ∷ int 8 ∷ [])) ∷ []) ≡ gives (int 2)
unfolding denote.Hole.Carrier.out digits numbers number_of power sampled
size_row = simp operations

size_text : of op.Size ((value.Text (codes "abc")) ∷ []) ≡ gives (int 3)
unfolding denote.Hole.Carrier.out digits numbers number_of power sampled
size_text = simp operations

empty_row : of op.Empty ((value.ListOf ([])) ∷ []) ≡ gives (value.Bool true)
unfolding denote.Hole.Carrier.out digits numbers number_of power sampled
empty_row = simp operations

pop_row : of op.Pop ((value.ListOf (int 7 ∷ int 8 ∷ [])) ∷ []) ≡ gives (value.TupleOf (int 7 ∷ value.ListOf (int 8 ∷ []) ∷ []))
unfolding denote.Hole.Carrier.out digits numbers number_of power sampled
pop_row = simp operations

pop_empty : of op.Pop ((value.ListOf ([])) ∷ []) ≡ Fails EmptyPop
unfolding denote.Hole.Carrier.out digits numbers number_of power sampled
pop_empty = simp operations

del_row : of op.Del ((value.ListOf (int 7 ∷ int 8 ∷ [])) ∷ (int 0) ∷ []) ≡ gives (value.ListOf (int 8 ∷ []))
unfolding denote.Hole.Carrier.out digits numbers number_of power sampled
del_row = simp operations

range_row : of op.Range ((int 3) ∷ []) ≡ gives (value.ListOf (int 0 ∷ int 1 ∷ int 2 ∷ []))
unfolding denote.Hole.Carrier.out digits numbers number_of power sampled
range_row = simp operations

range_from : of op.Range ((int 2) ∷ (int 4) ∷ []) ≡ gives (value.ListOf (int 2 ∷ int 3 ∷ []))
unfolding denote.Hole.Carrier.out digits numbers number_of power sampled
range_from = simp operations

range_down : of op.Range ((int 5) ∷ (int 0) ∷ (value.Int (negsuc 1)) ∷ []) ≡ gives (value.ListOf (int 5 ∷ int 3 ∷ int 1 ∷ []))
unfolding denote.Hole.Carrier.out digits numbers number_of power sampled
range_down = simp operations

range_by_0 : of op.Range ((int 5) ∷ (int 0) ∷ (int 0) ∷ []) ≡ Fails SliceStep
unfolding denote.Hole.Carrier.out digits numbers number_of power sampled
range_by_0 = simp operations

enumerate_row : of op.Enumerate ((value.ListOf (int 7 ∷ [])) ∷ []) ≡ gives (value.ListOf (value.TupleOf (int 0 ∷ int 7 ∷ []) ∷ []))
unfolding denote.Hole.Carrier.out digits numbers number_of power sampled
enumerate_row = simp operations

constant_row : of op.Constant ((int 7) ∷ []) ≡ gives (value.Dist (dist.ConstInt (pos 7)))
unfolding denote.Hole.Carrier.out digits numbers number_of power sampled
constant_row = simp operations

-- a distribution has the stream that its last operand names
uniform_row : of op.Uniform ((int 1) ∷ (int 7) ∷ (int 63) ∷ []) ≡ gives (value.Dist (dist.UniformInt (pos 1) (pos 7) 63))
unfolding denote.Hole.Carrier.out digits numbers number_of power sampled
uniform_row = simp operations

uniform_no_stream : of op.Uniform ((int 1) ∷ (int 7) ∷ (int 64) ∷ []) ≡ Amiss
unfolding denote.Hole.Carrier.out digits numbers number_of power sampled
uniform_no_stream = simp operations

uniform_below : of op.Uniform ((int 1) ∷ (int 7) ∷ (value.Int (negsuc 0)) ∷ []) ≡ Amiss
unfolding denote.Hole.Carrier.out digits numbers number_of power sampled
uniform_below = simp operations

bernoulli_row : of op.Bernoulli ((value.Real (pos 5)) ∷ (int 2) ∷ []) ≡ gives (value.Dist (dist.Bernoulli (pos 5) 2))
unfolding denote.Hole.Carrier.out digits numbers number_of power sampled
bernoulli_row = simp operations

binomial_row : of op.Binomial ((int 3) ∷ (value.Real (pos 5)) ∷ (int 2) ∷ []) ≡ gives (value.Dist (dist.Binomial (pos 3) (pos 5) 2))
unfolding denote.Hole.Carrier.out digits numbers number_of power sampled
binomial_row = simp operations

exponential_row : of op.Exponential ((value.Real (pos 5)) ∷ (int 2) ∷ []) ≡ gives (value.Dist (dist.Exponential (pos 5) 2))
unfolding denote.Hole.Carrier.out digits numbers number_of power sampled
exponential_row = simp operations

exponential_no_stream : of op.Exponential ((value.Real (pos 5)) ∷ (int 64) ∷ []) ≡ Amiss
unfolding denote.Hole.Carrier.out digits numbers number_of power sampled
exponential_no_stream = simp operations

sample_no_mean : of op.Sample ((value.Dist (dist.Exponential (pos 0) 0)) ∷ []) ≡ Fails BadDistribution
unfolding denote.Hole.Carrier.out digits numbers number_of power sampled
sample_no_mean = simp operations

sample_constant : of op.Sample ((value.Dist (dist.ConstInt (pos 7))) ∷ []) ≡ gives (int 7)
unfolding denote.Hole.Carrier.out digits numbers number_of power sampled
sample_constant = simp operations

sample_bad : of op.Sample ((value.Dist (dist.UniformInt (pos 7) (pos 7) 0)) ∷ []) ≡ Fails BadDistribution
unfolding denote.Hole.Carrier.out digits numbers number_of power sampled
sample_bad = simp operations

sample_no_stream : of op.Sample ((value.Dist (dist.UniformInt (pos 1) (pos 7) 64)) ∷ []) ≡ Amiss
unfolding denote.Hole.Carrier.out digits numbers number_of power sampled
sample_no_stream = simp operations

-- the clock is at 3 units
ready_row : of op.Ready ((value.Timer (pos 3)) ∷ []) ≡ gives (value.Bool true)
unfolding denote.Hole.Carrier.out digits numbers number_of power sampled
ready_row = simp operations

not_ready : of op.Ready ((value.Timer (pos 4)) ∷ []) ≡ gives (value.Bool false)
unfolding denote.Hole.Carrier.out digits numbers number_of power sampled
not_ready = simp operations

-- instance 0 is finished, instance 1 isn't, instance 2 was made in this step, and instance 3 isn't there
finished_none : of op.Finished ((value.Inst None) ∷ []) ≡ gives (value.Bool true)
unfolding denote.Hole.Carrier.out digits numbers number_of power sampled
finished_none = simp operations

finished_0 : of op.Finished ((value.Inst (Some 0)) ∷ []) ≡ gives (value.Bool true)
unfolding denote.Hole.Carrier.out digits numbers number_of power sampled
finished_0 = simp operations

finished_1 : of op.Finished ((value.Inst (Some 1)) ∷ []) ≡ gives (value.Bool false)
unfolding denote.Hole.Carrier.out digits numbers number_of power sampled
finished_1 = simp operations

finished_2 : of op.Finished ((value.Inst (Some 2)) ∷ []) ≡ gives (value.Bool false)
unfolding denote.Hole.Carrier.out digits numbers number_of power sampled
finished_2 = simp operations

finished_3 : of op.Finished ((value.Inst (Some 3)) ∷ []) ≡ Amiss
unfolding denote.Hole.Carrier.out digits numbers number_of power sampled
finished_3 = simp operations

time_row : of op.Time ([]) ≡ gives (value.Real (pos 3))
unfolding denote.Hole.Carrier.out digits numbers number_of power sampled
time_row = refl

widen_row : of op.Widen ((int 7) ∷ []) ≡ gives (value.Real (pos 7000000000))
unfolding denote.Hole.Carrier.out digits numbers number_of power sampled
widen_row = simp operations

widen_past : of op.Widen ((int 10000000000) ∷ []) ≡ Fails RealRange
unfolding denote.Hole.Carrier.out digits numbers number_of power sampled
widen_past = simp operations

int_of_text : of op.ToInt ((value.Text (codes "-42")) ∷ []) ≡ gives (value.Int (negsuc 41))
unfolding denote.Hole.Carrier.out digits numbers number_of power sampled
int_of_text = simp operations

int_bad_text : of op.ToInt ((value.Text (codes "4x")) ∷ []) ≡ Fails BadText
unfolding denote.Hole.Carrier.out digits numbers number_of power sampled
int_bad_text = simp operations

int_past : of op.ToInt ((value.Text (codes "9223372036854775808")) ∷ []) ≡ Fails IntRange
unfolding denote.Hole.Carrier.out digits numbers number_of power sampled
int_past = simp operations

real_of_text : of op.ToReal ((value.Text (codes "2.5")) ∷ []) ≡ gives (value.Real (pos 2500000000))
unfolding denote.Hole.Carrier.out digits numbers number_of power sampled
real_of_text = simp operations

real_of_int : of op.ToReal ((int 2) ∷ []) ≡ gives (value.Real (pos 2000000000))
unfolding denote.Hole.Carrier.out digits numbers number_of power sampled
real_of_int = simp operations

real_of_timer : of op.ToReal ((value.Timer (pos 10)) ∷ []) ≡ gives (value.Real (pos 7))
unfolding denote.Hole.Carrier.out digits numbers number_of power sampled
real_of_timer = simp operations

real_of_due : of op.ToReal ((value.Timer (pos 2)) ∷ []) ≡ gives (value.Real (pos 0))
unfolding denote.Hole.Carrier.out digits numbers number_of power sampled
real_of_due = simp operations

bool_of_text : of op.ToBool ((value.Text (codes "true")) ∷ []) ≡ gives (value.Bool true)
unfolding denote.Hole.Carrier.out digits numbers number_of power sampled
bool_of_text = simp operations

bool_bad_text : of op.ToBool ((value.Text (codes "True")) ∷ []) ≡ Fails BadText
unfolding denote.Hole.Carrier.out digits numbers number_of power sampled
bool_bad_text = simp operations

text_of_int : of op.ToText ((int 42) ∷ []) ≡ gives (value.Text (codes "42"))
unfolding denote.Hole.Carrier.out digits numbers number_of power sampled
text_of_int = simp operations

timer_row : of op.ToTimer ((value.Real (pos 7)) ∷ []) ≡ gives (value.Timer (pos 10))
unfolding denote.Hole.Carrier.out digits numbers number_of power sampled
timer_row = simp operations
