-- Operators, predefined names and casts: what each makes of the values of its operands.
use Rattle.std.specs.Prelude.{pos, ◌+ℤ◌, ◌-ℤ◌, ◌*ℤ◌, List, [], ◌∷◌}
use Rattle.chi_num.specs.Results.{rounded}
use Rattle.chi_num.specs.Units.{units_per_one}
use Rattle.chi_value.specs.declared.value.Value.{Value, Value-F, out-Value}
use Rattle.chi_value.specs.declared.value.Value.TheVariants as value
use Rattle.chi_ops.specs.Operations.{has, sub, lookup, pop, union, meet, minus, minus_keys, keys_of, values_of}
use Rattle.chi_ops.specs.Sequences.{join, enumerate}
use Rattle.chi_core.specs.declared.op_name.OpName.{OpName}
use Rattle.chi_core.specs.declared.op_name.OpName.TheVariants as op
use Rattle.chi_core.specs.Answer.{Does, gives, amiss}
use Rattle.chi_core.specs.Scene.{Scene}
use Rattle.chi_core.specs.Arithmetic.{whole, real, widened, negated, absolute, sign_of, floored, ceiled, nearest_to, quotient, divided, remainder, powered, least_of, greatest_of}
use Rattle.chi_core.specs.Comparisons.{tells, opposite, equal, different, below, at_most, above, at_least}
use Rattle.chi_core.specs.Containers.{done, element_at, without, size_of, is_empty, range_of, sliced}
use Rattle.chi_core.specs.Casts.{to_int, to_real, to_truth, to_text, to_timer, is_ready, is_finished}
use Rattle.chi_core.specs.Distributions.{constant_of, uniform_of, bernoulli_of, binomial_of, exponential_of, sample_of}

-- `+`: of numbers the sum; of sets and dictionaries what is in either; of strings and lists one after the other
abbrev pub sum : Value → Value → Value-F Value → Value-F Value → Does Value
sum a b (Value-F.Int x) (Value-F.Int y) = whole (x +ℤ y)
sum a b (Value-F.Real x) (Value-F.Real y) = real (x +ℤ y)
sum a b (Value-F.SetOf x) y = done (union a b)
sum a b (Value-F.DictOf x) y = done (union a b)
sum a b x y = done (join a b)

-- `-`: of numbers the difference; of sets what is in the first alone; a dictionary without the keys in a set
abbrev pub difference : Value → Value → Value-F Value → Value-F Value → Does Value
difference a b (Value-F.Int x) (Value-F.Int y) = whole (x -ℤ y)
difference a b (Value-F.Real x) (Value-F.Real y) = real (x -ℤ y)
difference a b (Value-F.DictOf x) y = done (minus_keys a b)
difference a b x y = done (minus a b)

-- `*`: of numbers the product, of reals rounded to the nearest unit; of sets what is in both
abbrev pub product : Value → Value → Value-F Value → Value-F Value → Does Value
product a b (Value-F.Int x) (Value-F.Int y) = whole (x *ℤ y)
product a b (Value-F.Real x) (Value-F.Real y) = real (rounded (x *ℤ y) units_per_one)
product a b x y = done (meet a b)

-- what an operator makes of the values of its operands
abbrev pub applied : Scene → OpName → List Value → Does Value
applied scene op.Not (a ∷ []) = opposite a
applied scene op.Add (a ∷ b ∷ []) = sum a b (out-Value a) (out-Value b)
applied scene op.Sub (a ∷ b ∷ []) = difference a b (out-Value a) (out-Value b)
applied scene op.Mul (a ∷ b ∷ []) = product a b (out-Value a) (out-Value b)
applied scene op.Divide (a ∷ b ∷ []) = quotient a b
applied scene op.Div (a ∷ b ∷ []) = divided a b
applied scene op.Mod (a ∷ b ∷ []) = remainder a b
applied scene op.Power (a ∷ b ∷ []) = powered a b
applied scene op.Neg (a ∷ []) = negated a
applied scene op.Equal (a ∷ b ∷ []) = equal a b
applied scene op.NotEqual (a ∷ b ∷ []) = different a b
applied scene op.Less (a ∷ b ∷ []) = below a b
applied scene op.AtMost (a ∷ b ∷ []) = at_most a b
applied scene op.Greater (a ∷ b ∷ []) = above a b
applied scene op.AtLeast (a ∷ b ∷ []) = at_least a b
applied scene op.In (a ∷ b ∷ []) = tells (has b a)
applied scene op.Subset (a ∷ b ∷ []) = tells (sub a b)
applied scene op.Sample (a ∷ []) = sample_of scene a
applied scene op.Index (a ∷ i ∷ []) = element_at a i
applied scene op.Lookup (a ∷ key ∷ []) = done (lookup a key)
applied scene (op.Slice first last by) (a ∷ bounds) = sliced first last by a bounds
applied scene op.Abs (a ∷ []) = absolute a
applied scene op.Sign (a ∷ []) = sign_of a
applied scene op.Min (a ∷ b ∷ rest) = least_of a b rest
applied scene op.Max (a ∷ b ∷ rest) = greatest_of a b rest
applied scene op.Floor (a ∷ []) = floored a
applied scene op.Ceil (a ∷ []) = ceiled a
applied scene op.Round (a ∷ []) = nearest_to a
applied scene op.Size (a ∷ []) = size_of a
applied scene op.Empty (a ∷ []) = is_empty a
applied scene op.Pop (a ∷ []) = done (pop a)
applied scene op.Del (a ∷ i ∷ []) = without a i
applied scene op.Range (last ∷ []) = range_of (Value-F.Int (pos 0)) (out-Value last) (Value-F.Int (pos 1))
applied scene op.Range (first ∷ last ∷ []) = range_of (out-Value first) (out-Value last) (Value-F.Int (pos 1))
applied scene op.Range (first ∷ last ∷ by ∷ []) = range_of (out-Value first) (out-Value last) (out-Value by)
applied scene op.Enumerate (a ∷ []) = done (enumerate a)
applied scene op.DictKeys (a ∷ []) = done (keys_of a)
applied scene op.DictValues (a ∷ []) = done (values_of a)
applied scene op.Constant (a ∷ []) = constant_of a
applied scene op.Uniform (a ∷ b ∷ stream ∷ []) = uniform_of a b stream
applied scene op.Bernoulli (chance ∷ stream ∷ []) = bernoulli_of chance stream
applied scene op.Binomial (trials ∷ chance ∷ stream ∷ []) = binomial_of trials chance stream
applied scene op.Exponential (mean ∷ stream ∷ []) = exponential_of mean stream
applied scene op.Ready (a ∷ []) = is_ready scene a
applied scene op.Finished (a ∷ []) = is_finished scene a
applied scene op.Time [] = gives (value.Real scene.clock)
applied scene op.Widen (a ∷ []) = widened a
applied scene op.ToInt (a ∷ []) = to_int a
applied scene op.ToReal (a ∷ []) = to_real scene a
applied scene op.ToText (a ∷ []) = to_text scene a
applied scene op.ToBool (a ∷ []) = to_truth a
applied scene op.ToTimer (a ∷ []) = to_timer scene a
applied scene _ _ = amiss
