-- What operators leave of the bound: no more than there was.
use Rattle.std.proofs.Common.{ℕ, le_refl, List, [], ◌∷◌, Option, Some, None, Bool, true, false, cond}
use Rattle.std.specs.Prelude.{ℤ, pos, negsuc, neg_ℤ, nat_abs, nat_eq, nat_le, int_le, length, ◌+ℤ◌, ◌-ℤ◌, ◌*ℤ◌, not, option_map}
use Rattle.std.specs.Int.{int_min, int_max, int_signum}
use Rattle.std.specs.Ordering.{int_eq, is_lt, is_eq, is_gt}
use Rattle.std.specs.declared.cmp.Ordering.{Ordering}
use Rattle.std.specs.Str.{bytes_eq}
use Rattle.std.specs.Prelude.{codes}
use Rattle.chi_num.specs.Power.{power}
use Rattle.chi_num.specs.Results.{fits, rounded, floor_of, ceiling_of, remainder_of}
use Rattle.chi_num.specs.TextNumbers.{Meant, means, no_form, out_of_range, int_meant, real_meant}
use Rattle.chi_num.specs.Units.{units_per_one}
use Rattle.chi_num.specs.declared.dist.Dist.{Dist}
use Rattle.chi_dist.specs.Draws.{Sampling, draws, refuses, wrong, sampled}
use Rattle.chi_format.specs.Format.{any_text}
use Rattle.chi_value.specs.declared.value.TheConstants.{MOST_ELEMENTS}
use Rattle.chi_value.specs.declared.value.Value.{Value, Value-F, out-Value}
use Rattle.chi_value.specs.declared.value.Value.TheVariants as value
use Rattle.chi_ops.specs.Outcome as outcome
use Rattle.chi_ops.specs.Operations.{has, sub, lookup, pop, union, meet, minus, minus_keys, keys_of, values_of, size}
use Rattle.chi_ops.specs.Sequences.{join, enumerate, index, del, range, slice}
use Rattle.chi_core.specs.declared.fault.FaultKind.{FaultKind}
use Rattle.chi_core.specs.declared.fault.FaultKind.TheVariants.{IntRange, RealRange, DivideByZero, TooLarge, BadText}
use Rattle.chi_core.specs.declared.op_name.OpName.{OpName}
use Rattle.chi_core.specs.declared.op_name.OpName.TheVariants as op
use Rattle.chi_core.specs.Answer.{Gives, Fails, Does, fails, wanted}
use Rattle.chi_core.specs.Reading.{due_of, instance_of, truth_of}
use Rattle.chi_core.specs.declared.scene.Scene.{Scene}
use Rattle.chi_core.specs.Scene.{finished_at}
use Rattle.chi_core.specs.Arithmetic.{whole, real, timer, on_int, on_real, on_number, on_ints, on_reals, over, raised, best_int, best_real, best_of}
use Rattle.chi_core.specs.Comparisons.{tells, truth, compared}
use Rattle.chi_core.specs.Containers.{done, range_of, bounds, slice_by}
use Rattle.chi_core.specs.Casts.{as_meant, int_from, real_from, truth_meant, truth_from, string_of, has_finished}
use Rattle.chi_core.specs.Distributions.{constant_in, stream_in, uniform_in, bernoulli_in, binomial_in, exponential_in, distribution, by_stream, after_drawing, draw_from}
use Rattle.chi_core.specs.Operators.{sum, difference, product, applied}
use Rattle.chi_core.proofs.Used.{Within, Uses, within-then, within-if, uses-gives, uses-wanted}

pub uses-done : (o : outcome.Outcome) → Uses (done o)
uses-done (outcome.gives v) view = le_refl view.left
uses-done (outcome.faults fault) view = tt
uses-done outcome.wrong view = tt

uses-whole : (z : ℤ) → Uses (whole z)
uses-whole z view = within-if (fits z) view.left (Gives (value.Int z) view) (Fails IntRange) (le_refl view.left) tt

uses-real : (units : ℤ) → Uses (real units)
uses-real units view = within-if (fits units) view.left (Gives (value.Real units) view) (Fails RealRange) (le_refl view.left) tt

uses-timer : (due : ℤ) → Uses (timer due)
uses-timer due view = within-if (fits due) view.left (Gives (value.Timer due) view) (Fails RealRange) (le_refl view.left) tt

uses-on_int : (f : ℤ → Does Value) → ((z : ℤ) → Uses (f z)) → (x : Value-F Value) → Uses (on_int f x)
uses-on_int f h (Value-F.Int x) = h x
uses-on_int f h _ = λ view. tt

uses-on_real : (f : ℤ → Does Value) → ((z : ℤ) → Uses (f z)) → (x : Value-F Value) → Uses (on_real f x)
uses-on_real f h (Value-F.Real x) = h x
uses-on_real f h _ = λ view. tt

uses-on_number : (f g : ℤ → Does Value) → ((z : ℤ) → Uses (f z)) → ((z : ℤ) → Uses (g z)) → (x : Value-F Value) → Uses (on_number f g x)
uses-on_number f g h l (Value-F.Int x) = h x
uses-on_number f g h l (Value-F.Real x) = l x
uses-on_number f g h l _ = λ view. tt

uses-on_ints : (f : ℤ → ℤ → Does Value) → ((x y : ℤ) → Uses (f x y)) → (x y : Value-F Value) → Uses (on_ints f x y)
uses-on_ints f h (Value-F.Int x) y = uses-on_int (f x) (h x) y
uses-on_ints f h _ y = λ view. tt

uses-on_reals : (f : ℤ → ℤ → Does Value) → ((x y : ℤ) → Uses (f x y)) → (x y : Value-F Value) → Uses (on_reals f x y)
uses-on_reals f h (Value-F.Real x) y = uses-on_real (f x) (h x) y
uses-on_reals f h _ y = λ view. tt

uses-over : (divisor : ℤ) (m : Does Value) → Uses m → Uses (over divisor m)
uses-over divisor m h view = within-if (int_eq divisor (pos 0)) view.left (Fails DivideByZero) (m view) tt (h view)

uses-raised : (x y : ℤ) → Uses (raised x y)
uses-raised x (pos n) = uses-whole (power x n)
uses-raised x (negsuc n) = λ view. tt

uses-best_int : (better : ℤ → ℤ → ℤ) (x : ℤ) (rest : List Value) → Uses (best_int better x rest)
uses-best_int better x [] = λ view. le_refl view.left
uses-best_int better x (b ∷ rest) = uses-on_int (λ y. best_int better (better x y) rest) (λ y. uses-best_int better (better x y) rest) (out-Value b)

uses-best_real : (better : ℤ → ℤ → ℤ) (x : ℤ) (rest : List Value) → Uses (best_real better x rest)
uses-best_real better x [] = λ view. le_refl view.left
uses-best_real better x (b ∷ rest) = uses-on_real (λ y. best_real better (better x y) rest) (λ y. uses-best_real better (better x y) rest) (out-Value b)

uses-best : (better : ℤ → ℤ → ℤ) (a b : Value) (rest : List Value) → Uses (best_of better a b rest)
uses-best better a b rest =
    uses-on_number (λ x. best_int better x (b ∷ rest)) (λ x. best_real better x (b ∷ rest))
    (λ x. uses-best_int better x (b ∷ rest)) (λ x. uses-best_real better x (b ∷ rest)) (out-Value a)

uses-as_meant : (past : FaultKind) (made : ℤ → Value) (m : Meant) → Uses (as_meant past made m)
uses-as_meant past made (means z) view = le_refl view.left
uses-as_meant past made no_form view = tt
uses-as_meant past made out_of_range view = tt

uses-int_from : (x : Value-F Value) → Uses (int_from x)
uses-int_from (Value-F.Int x) = uses-whole x
uses-int_from (Value-F.Text text) = uses-as_meant IntRange value.Int (int_meant text)
uses-int_from _ = λ view. tt

uses-real_from : (scene : Scene) (x : Value-F Value) → Uses (real_from scene x)
uses-real_from scene (Value-F.Int x) = uses-real (x *ℤ units_per_one)
uses-real_from scene (Value-F.Real units) = uses-real units
uses-real_from scene (Value-F.Text text) = uses-as_meant RealRange value.Real (real_meant text)
uses-real_from scene (Value-F.Timer due) = uses-real (int_max (pos 0) (due -ℤ scene.clock))
uses-real_from scene _ = λ view. tt

uses-truth_meant : (text : List ℕ) → Uses (truth_meant text)
uses-truth_meant text view = by_true (bytes_eq text (codes "true")) (bytes_eq text (codes "false"))
  where
    by_true : (b c : Bool) → Within view.left (cond b (truth true) (cond c (truth false) (fails BadText)) view)
    by_true true c = le_refl view.left
    by_true false true = le_refl view.left
    by_true false false = tt

uses-truth_from : (x : Value-F Value) → Uses (truth_from x)
uses-truth_from (Value-F.Bool x) = uses-gives (value.Bool x)
uses-truth_from (Value-F.Text text) = uses-truth_meant text
uses-truth_from _ = λ view. tt

uses-string_of : (text : List ℕ) → Uses (string_of text)
uses-string_of text view =
    within-if (nat_le (length text) MOST_ELEMENTS) view.left (Gives (value.Text text) view) (Fails TooLarge) (le_refl view.left) tt

uses-has_finished : (scene : Scene) (o : Option ℕ) → Uses (has_finished scene o)
uses-has_finished scene None view = le_refl view.left
uses-has_finished scene (Some p) view = uses-wanted (option_map value.Bool (finished_at scene view.instances p)) view

uses-by_stream : (made : ℕ → Option Dist) (stream : Value) → Uses (by_stream made stream)
uses-by_stream made stream view =
    within-then view.left (wanted (stream_in (out-Value stream)) view) (λ number. distribution (made number))
    (uses-wanted (stream_in (out-Value stream)) view) (λ number. uses-wanted (option_map value.Dist (made number)))

uses-after_drawing : (s : Sampling) → Uses (after_drawing s)
uses-after_drawing (draws x taken) view = le_refl view.left
uses-after_drawing (refuses fault) view = tt
uses-after_drawing wrong view = tt

uses-draw_from : (scene : Scene) (x : Value-F Value) → Uses (draw_from scene x)
uses-draw_from scene (Value-F.Dist d) view = uses-after_drawing (sampled scene.seed view.draws d) view
uses-draw_from scene _ view = tt

uses-range_of : (x y z : Value-F Value) → Uses (range_of x y z)
uses-range_of (Value-F.Int first) (Value-F.Int last) z = uses-on_int (λ by. done (range first last by)) (λ by. uses-done (range first last by)) z
uses-range_of _ _ z = λ view. tt

uses-slice_by : (a : Value) (o : Option (List (Option ℤ))) → Uses (slice_by a o)
uses-slice_by a (Some (first ∷ last ∷ by ∷ [])) = uses-done (slice a first last by)
uses-slice_by a _ = λ view. tt

uses-sum : (a b : Value) (x y : Value-F Value) → Uses (sum a b x y)
uses-sum a b (Value-F.Int x) (Value-F.Int y) = uses-whole (x +ℤ y)
uses-sum a b (Value-F.Real x) (Value-F.Real y) = uses-real (x +ℤ y)
uses-sum a b (Value-F.SetOf x) y = uses-done (union a b)
uses-sum a b (Value-F.DictOf x) y = uses-done (union a b)
uses-sum a b x y = uses-done (join a b)

uses-difference : (a b : Value) (x y : Value-F Value) → Uses (difference a b x y)
uses-difference a b (Value-F.Int x) (Value-F.Int y) = uses-whole (x -ℤ y)
uses-difference a b (Value-F.Real x) (Value-F.Real y) = uses-real (x -ℤ y)
uses-difference a b (Value-F.DictOf x) y = uses-done (minus_keys a b)
uses-difference a b x y = uses-done (minus a b)

uses-product : (a b : Value) (x y : Value-F Value) → Uses (product a b x y)
uses-product a b (Value-F.Int x) (Value-F.Int y) = uses-whole (x *ℤ y)
uses-product a b (Value-F.Real x) (Value-F.Real y) = uses-real (rounded (x *ℤ y) units_per_one)
uses-product a b x y = uses-done (meet a b)

uses-told : (f : Ordering → Bool) (o : Option Ordering) → Uses (tells (option_map f o))
uses-told f o = uses-wanted (option_map value.Bool (option_map f o))

-- what an operator makes of the values of its operands
pub uses-applied : (scene : Scene) (name : OpName) (values : List Value) → Uses (applied scene name values)
uses-applied scene op.Not (a ∷ []) = uses-wanted (option_map value.Bool (option_map not (truth_of a)))
uses-applied scene op.Add (a ∷ b ∷ []) = uses-sum a b (out-Value a) (out-Value b)
uses-applied scene op.Sub (a ∷ b ∷ []) = uses-difference a b (out-Value a) (out-Value b)
uses-applied scene op.Mul (a ∷ b ∷ []) = uses-product a b (out-Value a) (out-Value b)
uses-applied scene op.Divide (a ∷ b ∷ []) =
    uses-on_reals (λ x y. over y (real (rounded (x *ℤ units_per_one) y))) (λ x y. uses-over y (real (rounded (x *ℤ units_per_one) y)) (uses-real (rounded (x *ℤ units_per_one) y))) (out-Value a) (out-Value b)
uses-applied scene op.Div (a ∷ b ∷ []) =
    uses-on_ints (λ x y. over y (whole (floor_of x y))) (λ x y. uses-over y (whole (floor_of x y)) (uses-whole (floor_of x y))) (out-Value a) (out-Value b)
uses-applied scene op.Mod (a ∷ b ∷ []) =
    uses-on_ints (λ x y. over y (whole (remainder_of x y))) (λ x y. uses-over y (whole (remainder_of x y)) (uses-whole (remainder_of x y))) (out-Value a) (out-Value b)
uses-applied scene op.Power (a ∷ b ∷ []) = uses-on_ints raised uses-raised (out-Value a) (out-Value b)
uses-applied scene op.Neg (a ∷ []) =
    uses-on_number (λ x. whole (neg_ℤ x)) (λ x. real (neg_ℤ x)) (λ x. uses-whole (neg_ℤ x)) (λ x. uses-real (neg_ℤ x)) (out-Value a)
uses-applied scene op.Equal (a ∷ b ∷ []) = uses-told is_eq (compared a b)
uses-applied scene op.NotEqual (a ∷ b ∷ []) = uses-told (λ o. not (is_eq o)) (compared a b)
uses-applied scene op.Less (a ∷ b ∷ []) = uses-told is_lt (compared a b)
uses-applied scene op.AtMost (a ∷ b ∷ []) = uses-told (λ o. not (is_gt o)) (compared a b)
uses-applied scene op.Greater (a ∷ b ∷ []) = uses-told is_gt (compared a b)
uses-applied scene op.AtLeast (a ∷ b ∷ []) = uses-told (λ o. not (is_lt o)) (compared a b)
uses-applied scene op.In (a ∷ b ∷ []) = uses-wanted (option_map value.Bool (has b a))
uses-applied scene op.Subset (a ∷ b ∷ []) = uses-wanted (option_map value.Bool (sub a b))
uses-applied scene op.Sample (a ∷ []) = uses-draw_from scene (out-Value a)
uses-applied scene op.Index (a ∷ i ∷ []) = uses-on_int (λ j. done (index a j)) (λ j. uses-done (index a j)) (out-Value i)
uses-applied scene op.Lookup (a ∷ key ∷ []) = uses-done (lookup a key)
uses-applied scene (op.Slice first last by) (a ∷ operands) = uses-slice_by a (bounds (first ∷ last ∷ by ∷ []) operands)
uses-applied scene op.Abs (a ∷ []) =
    uses-on_number (λ x. whole (pos (nat_abs x))) (λ x. real (pos (nat_abs x))) (λ x. uses-whole (pos (nat_abs x))) (λ x. uses-real (pos (nat_abs x))) (out-Value a)
uses-applied scene op.Sign (a ∷ []) =
    uses-on_number (λ x. whole (int_signum x)) (λ x. whole (int_signum x)) (λ x. uses-whole (int_signum x)) (λ x. uses-whole (int_signum x)) (out-Value a)
uses-applied scene op.Min (a ∷ b ∷ rest) = uses-best int_min a b rest
uses-applied scene op.Max (a ∷ b ∷ rest) = uses-best int_max a b rest
uses-applied scene op.Floor (a ∷ []) = uses-on_real (λ x. whole (floor_of x units_per_one)) (λ x. uses-whole (floor_of x units_per_one)) (out-Value a)
uses-applied scene op.Ceil (a ∷ []) = uses-on_real (λ x. whole (ceiling_of x units_per_one)) (λ x. uses-whole (ceiling_of x units_per_one)) (out-Value a)
uses-applied scene op.Round (a ∷ []) = uses-on_real (λ x. whole (rounded x units_per_one)) (λ x. uses-whole (rounded x units_per_one)) (out-Value a)
uses-applied scene op.Size (a ∷ []) = uses-wanted (option_map (λ n. value.Int (pos n)) (size a))
uses-applied scene op.Empty (a ∷ []) = uses-wanted (option_map (λ n. value.Bool (nat_eq n 0)) (size a))
uses-applied scene op.Pop (a ∷ []) = uses-done (pop a)
uses-applied scene op.Del (a ∷ i ∷ []) = uses-on_int (λ j. done (del a j)) (λ j. uses-done (del a j)) (out-Value i)
uses-applied scene op.Range (last ∷ []) = uses-range_of (Value-F.Int (pos 0)) (out-Value last) (Value-F.Int (pos 1))
uses-applied scene op.Range (first ∷ last ∷ []) = uses-range_of (out-Value first) (out-Value last) (Value-F.Int (pos 1))
uses-applied scene op.Range (first ∷ last ∷ by ∷ []) = uses-range_of (out-Value first) (out-Value last) (out-Value by)
uses-applied scene op.Enumerate (a ∷ []) = uses-done (enumerate a)
uses-applied scene op.DictKeys (a ∷ []) = uses-done (keys_of a)
uses-applied scene op.DictValues (a ∷ []) = uses-done (values_of a)
uses-applied scene op.Constant (a ∷ []) = uses-wanted (option_map value.Dist (constant_in (out-Value a)))
uses-applied scene op.Uniform (a ∷ b ∷ stream ∷ []) = uses-by_stream (uniform_in (out-Value a) (out-Value b)) stream
uses-applied scene op.Bernoulli (chance ∷ stream ∷ []) = uses-by_stream (bernoulli_in (out-Value chance)) stream
uses-applied scene op.Binomial (trials ∷ chance ∷ stream ∷ []) = uses-by_stream (binomial_in (out-Value trials) (out-Value chance)) stream
uses-applied scene op.Exponential (mean ∷ stream ∷ []) = uses-by_stream (exponential_in (out-Value mean)) stream
uses-applied scene op.Ready (a ∷ []) = uses-wanted (option_map value.Bool (option_map (λ due. int_le due scene.clock) (due_of a)))
uses-applied scene op.Finished (a ∷ []) = λ view.
    within-then view.left (wanted (instance_of a) view) (has_finished scene) (uses-wanted (instance_of a) view) (uses-has_finished scene)
uses-applied scene op.Time [] = uses-gives (value.Real scene.clock)
uses-applied scene op.Widen (a ∷ []) = uses-on_int (λ x. real (x *ℤ units_per_one)) (λ x. uses-real (x *ℤ units_per_one)) (out-Value a)
uses-applied scene op.ToInt (a ∷ []) = uses-int_from (out-Value a)
uses-applied scene op.ToReal (a ∷ []) = uses-real_from scene (out-Value a)
uses-applied scene op.ToText (a ∷ []) = λ view.
    within-then view.left (wanted (any_text scene.names.kinds a) view) string_of (uses-wanted (any_text scene.names.kinds a) view) uses-string_of
uses-applied scene op.ToBool (a ∷ []) = uses-truth_from (out-Value a)
uses-applied scene op.ToTimer (a ∷ []) = uses-on_real (λ x. timer (scene.clock +ℤ x)) (λ x. uses-timer (scene.clock +ℤ x)) (out-Value a)
uses-applied scene _ _ = λ view. tt
