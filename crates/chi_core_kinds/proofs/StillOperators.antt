-- Operators cost nothing and make no channel.
use Rattle.std.proofs.Common.{refl, ℕ, List, [], ◌∷◌, Option, Some, None, Bool, true, false, cond}
use Rattle.std.specs.Prelude.{ℤ, pos, negsuc, neg_ℤ, nat_abs, nat_eq, nat_le, int_le, length, ◌+ℤ◌, ◌-ℤ◌, ◌*ℤ◌, not, option_map}
use Rattle.std.specs.Int.{int_min, int_max, int_signum}
use Rattle.std.specs.Ordering.{int_eq, is_lt, is_eq, is_gt}
use Rattle.std.specs.declared.cmp.Ordering.{Ordering}
use Rattle.std.specs.Str.{bytes_eq}
use Rattle.std.specs.Prelude.{codes}
use Rattle.chi_num.specs.Power.{power}
use Rattle.chi_num.specs.Results.{fits, rounded, floor_of, ceiling_of, remainder_of}
use Rattle.chi_num.specs.TextNumbers.{Meant, means, no_form, out_of_range, int_meant, real_meant}
use Rattle.chi_num.specs.Units.{units_per_one}
use Rattle.chi_num.specs.declared.dist.Dist.{Dist}
use Rattle.chi_dist.specs.Draws.{Sampling, draws, refuses, wrong, sampled}
use Rattle.chi_format.specs.Format.{any_text}
use Rattle.chi_value.specs.declared.value.TheConstants.{MOST_ELEMENTS}
use Rattle.chi_value.specs.declared.value.Value.{Value, Value-F, out-Value}
use Rattle.chi_value.specs.declared.value.Value.TheVariants as value
use Rattle.chi_ops.specs.Outcome as outcome
use Rattle.chi_ops.specs.Operations.{has, sub, lookup, pop, union, meet, minus, minus_keys, keys_of, values_of, size}
use Rattle.chi_ops.specs.Sequences.{join, enumerate, index, del, range, slice}
use Rattle.chi_core.specs.declared.fault.FaultKind.{FaultKind}
use Rattle.chi_core.specs.declared.fault.FaultKind.TheVariants.{IntRange, RealRange, DivideByZero, TooLarge, BadText}
use Rattle.chi_core.specs.declared.op_name.OpName.{OpName}
use Rattle.chi_core.specs.declared.op_name.OpName.TheVariants as op
use Rattle.chi_core.specs.Answer.{Gives, Fails, Does, fails, wanted}
use Rattle.chi_core.specs.Reading.{due_of, instance_of, truth_of}
use Rattle.chi_core.specs.declared.scene.Scene.{Scene}
use Rattle.chi_core.specs.Scene.{finished_at}
use Rattle.chi_core.specs.Arithmetic.{whole, real, timer, on_int, on_real, on_number, on_ints, on_reals, over, raised, best_int, best_real, best_of}
use Rattle.chi_core.specs.Comparisons.{tells, truth, compared}
use Rattle.chi_core.specs.Containers.{done, range_of, bounds, slice_by}
use Rattle.chi_core.specs.Casts.{as_meant, int_from, real_from, truth_meant, truth_from, string_of, has_finished}
use Rattle.chi_core.specs.Distributions.{constant_in, stream_in, uniform_in, bernoulli_in, binomial_in, exponential_in, distribution, by_stream, after_drawing, draw_from}
use Rattle.chi_core.specs.Operators.{sum, difference, product, applied}
use Rattle.chi_core_kinds.proofs.Still.{Stays, Still, stays_then, stays_if, still_gives, still_wanted}

pub still_done : (o : outcome.Outcome) → Still (done o)
still_done (outcome.gives v) view = (refl, refl)
still_done (outcome.faults fault) view = tt
still_done outcome.wrong view = tt

still_whole : (z : ℤ) → Still (whole z)
still_whole z view = stays_if (fits z) view (Gives (value.Int z) view) (Fails IntRange) (refl, refl) tt

still_real : (units : ℤ) → Still (real units)
still_real units view = stays_if (fits units) view (Gives (value.Real units) view) (Fails RealRange) (refl, refl) tt

still_timer : (due : ℤ) → Still (timer due)
still_timer due view = stays_if (fits due) view (Gives (value.Timer due) view) (Fails RealRange) (refl, refl) tt

still_on_int : (f : ℤ → Does Value) → ((z : ℤ) → Still (f z)) → (x : Value-F Value) → Still (on_int f x)
still_on_int f h (Value-F.Int x) = h x
still_on_int f h _ = λ view. tt

still_on_real : (f : ℤ → Does Value) → ((z : ℤ) → Still (f z)) → (x : Value-F Value) → Still (on_real f x)
still_on_real f h (Value-F.Real x) = h x
still_on_real f h _ = λ view. tt

still_on_number : (f g : ℤ → Does Value) → ((z : ℤ) → Still (f z)) → ((z : ℤ) → Still (g z)) → (x : Value-F Value) → Still (on_number f g x)
still_on_number f g h l (Value-F.Int x) = h x
still_on_number f g h l (Value-F.Real x) = l x
still_on_number f g h l _ = λ view. tt

still_on_ints : (f : ℤ → ℤ → Does Value) → ((x y : ℤ) → Still (f x y)) → (x y : Value-F Value) → Still (on_ints f x y)
still_on_ints f h (Value-F.Int x) y = still_on_int (f x) (h x) y
still_on_ints f h _ y = λ view. tt

still_on_reals : (f : ℤ → ℤ → Does Value) → ((x y : ℤ) → Still (f x y)) → (x y : Value-F Value) → Still (on_reals f x y)
still_on_reals f h (Value-F.Real x) y = still_on_real (f x) (h x) y
still_on_reals f h _ y = λ view. tt

still_over : (divisor : ℤ) (m : Does Value) → Still m → Still (over divisor m)
still_over divisor m h view = stays_if (int_eq divisor (pos 0)) view (Fails DivideByZero) (m view) tt (h view)

still_raised : (x y : ℤ) → Still (raised x y)
still_raised x (pos n) = still_whole (power x n)
still_raised x (negsuc n) = λ view. tt

still_best_int : (better : ℤ → ℤ → ℤ) (x : ℤ) (rest : List Value) → Still (best_int better x rest)
still_best_int better x [] = λ view. (refl, refl)
still_best_int better x (b ∷ rest) = still_on_int (λ y. best_int better (better x y) rest) (λ y. still_best_int better (better x y) rest) (out-Value b)

still_best_real : (better : ℤ → ℤ → ℤ) (x : ℤ) (rest : List Value) → Still (best_real better x rest)
still_best_real better x [] = λ view. (refl, refl)
still_best_real better x (b ∷ rest) = still_on_real (λ y. best_real better (better x y) rest) (λ y. still_best_real better (better x y) rest) (out-Value b)

still_best : (better : ℤ → ℤ → ℤ) (a b : Value) (rest : List Value) → Still (best_of better a b rest)
still_best better a b rest =
    still_on_number (λ x. best_int better x (b ∷ rest)) (λ x. best_real better x (b ∷ rest))
    (λ x. still_best_int better x (b ∷ rest)) (λ x. still_best_real better x (b ∷ rest)) (out-Value a)

still_as_meant : (past : FaultKind) (made : ℤ → Value) (m : Meant) → Still (as_meant past made m)
still_as_meant past made (means z) view = (refl, refl)
still_as_meant past made no_form view = tt
still_as_meant past made out_of_range view = tt

still_int_from : (x : Value-F Value) → Still (int_from x)
still_int_from (Value-F.Int x) = still_whole x
still_int_from (Value-F.Text text) = still_as_meant IntRange value.Int (int_meant text)
still_int_from _ = λ view. tt

still_real_from : (scene : Scene) (x : Value-F Value) → Still (real_from scene x)
still_real_from scene (Value-F.Int x) = still_real (x *ℤ units_per_one)
still_real_from scene (Value-F.Real units) = still_real units
still_real_from scene (Value-F.Text text) = still_as_meant RealRange value.Real (real_meant text)
still_real_from scene (Value-F.Timer due) = still_real (int_max (pos 0) (due -ℤ scene.clock))
still_real_from scene _ = λ view. tt

still_truth_meant : (text : List ℕ) → Still (truth_meant text)
still_truth_meant text view = by_true (bytes_eq text (codes "true")) (bytes_eq text (codes "false"))
  where
    by_true : (b c : Bool) → Stays view (cond b (truth true) (cond c (truth false) (fails BadText)) view)
    by_true true c = (refl, refl)
    by_true false true = (refl, refl)
    by_true false false = tt

still_truth_from : (x : Value-F Value) → Still (truth_from x)
still_truth_from (Value-F.Bool x) = still_gives (value.Bool x)
still_truth_from (Value-F.Text text) = still_truth_meant text
still_truth_from _ = λ view. tt

still_string_of : (text : List ℕ) → Still (string_of text)
still_string_of text view =
    stays_if (nat_le (length text) MOST_ELEMENTS) view (Gives (value.Text text) view) (Fails TooLarge) (refl, refl) tt

still_has_finished : (scene : Scene) (o : Option ℕ) → Still (has_finished scene o)
still_has_finished scene None view = (refl, refl)
still_has_finished scene (Some p) view = still_wanted (option_map value.Bool (finished_at scene view.instances p)) view

still_by_stream : (made : ℕ → Option Dist) (stream : Value) → Still (by_stream made stream)
still_by_stream made stream view =
    stays_then view (wanted (stream_in (out-Value stream)) view) (λ number. distribution (made number))
    (still_wanted (stream_in (out-Value stream)) view) (λ number. still_wanted (option_map value.Dist (made number)))

still_after_drawing : (s : Sampling) → Still (after_drawing s)
still_after_drawing (draws x taken) view = (refl, refl)
still_after_drawing (refuses fault) view = tt
still_after_drawing wrong view = tt

still_draw_from : (scene : Scene) (x : Value-F Value) → Still (draw_from scene x)
still_draw_from scene (Value-F.Dist d) view = still_after_drawing (sampled scene.seed view.draws d) view
still_draw_from scene _ view = tt

still_range_of : (x y z : Value-F Value) → Still (range_of x y z)
still_range_of (Value-F.Int first) (Value-F.Int last) z = still_on_int (λ by. done (range first last by)) (λ by. still_done (range first last by)) z
still_range_of _ _ z = λ view. tt

still_slice_by : (a : Value) (o : Option (List (Option ℤ))) → Still (slice_by a o)
still_slice_by a (Some (first ∷ last ∷ by ∷ [])) = still_done (slice a first last by)
still_slice_by a _ = λ view. tt

still_sum : (a b : Value) (x y : Value-F Value) → Still (sum a b x y)
still_sum a b (Value-F.Int x) (Value-F.Int y) = still_whole (x +ℤ y)
still_sum a b (Value-F.Real x) (Value-F.Real y) = still_real (x +ℤ y)
still_sum a b (Value-F.SetOf x) y = still_done (union a b)
still_sum a b (Value-F.DictOf x) y = still_done (union a b)
still_sum a b x y = still_done (join a b)

still_difference : (a b : Value) (x y : Value-F Value) → Still (difference a b x y)
still_difference a b (Value-F.Int x) (Value-F.Int y) = still_whole (x -ℤ y)
still_difference a b (Value-F.Real x) (Value-F.Real y) = still_real (x -ℤ y)
still_difference a b (Value-F.DictOf x) y = still_done (minus_keys a b)
still_difference a b x y = still_done (minus a b)

still_product : (a b : Value) (x y : Value-F Value) → Still (product a b x y)
still_product a b (Value-F.Int x) (Value-F.Int y) = still_whole (x *ℤ y)
still_product a b (Value-F.Real x) (Value-F.Real y) = still_real (rounded (x *ℤ y) units_per_one)
still_product a b x y = still_done (meet a b)

still_told : (f : Ordering → Bool) (o : Option Ordering) → Still (tells (option_map f o))
still_told f o = still_wanted (option_map value.Bool (option_map f o))

-- what an operator makes of the values of its operands
pub still_applied : (scene : Scene) (name : OpName) (values : List Value) → Still (applied scene name values)
still_applied scene op.Not (a ∷ []) = still_wanted (option_map value.Bool (option_map not (truth_of a)))
still_applied scene op.Add (a ∷ b ∷ []) = still_sum a b (out-Value a) (out-Value b)
still_applied scene op.Sub (a ∷ b ∷ []) = still_difference a b (out-Value a) (out-Value b)
still_applied scene op.Mul (a ∷ b ∷ []) = still_product a b (out-Value a) (out-Value b)
still_applied scene op.Divide (a ∷ b ∷ []) =
    still_on_reals (λ x y. over y (real (rounded (x *ℤ units_per_one) y))) (λ x y. still_over y (real (rounded (x *ℤ units_per_one) y)) (still_real (rounded (x *ℤ units_per_one) y))) (out-Value a) (out-Value b)
still_applied scene op.Div (a ∷ b ∷ []) =
    still_on_ints (λ x y. over y (whole (floor_of x y))) (λ x y. still_over y (whole (floor_of x y)) (still_whole (floor_of x y))) (out-Value a) (out-Value b)
still_applied scene op.Mod (a ∷ b ∷ []) =
    still_on_ints (λ x y. over y (whole (remainder_of x y))) (λ x y. still_over y (whole (remainder_of x y)) (still_whole (remainder_of x y))) (out-Value a) (out-Value b)
still_applied scene op.Power (a ∷ b ∷ []) = still_on_ints raised still_raised (out-Value a) (out-Value b)
still_applied scene op.Neg (a ∷ []) =
    still_on_number (λ x. whole (neg_ℤ x)) (λ x. real (neg_ℤ x)) (λ x. still_whole (neg_ℤ x)) (λ x. still_real (neg_ℤ x)) (out-Value a)
still_applied scene op.Equal (a ∷ b ∷ []) = still_told is_eq (compared a b)
still_applied scene op.NotEqual (a ∷ b ∷ []) = still_told (λ o. not (is_eq o)) (compared a b)
still_applied scene op.Less (a ∷ b ∷ []) = still_told is_lt (compared a b)
still_applied scene op.AtMost (a ∷ b ∷ []) = still_told (λ o. not (is_gt o)) (compared a b)
still_applied scene op.Greater (a ∷ b ∷ []) = still_told is_gt (compared a b)
still_applied scene op.AtLeast (a ∷ b ∷ []) = still_told (λ o. not (is_lt o)) (compared a b)
still_applied scene op.In (a ∷ b ∷ []) = still_wanted (option_map value.Bool (has b a))
still_applied scene op.Subset (a ∷ b ∷ []) = still_wanted (option_map value.Bool (sub a b))
still_applied scene op.Sample (a ∷ []) = still_draw_from scene (out-Value a)
still_applied scene op.Index (a ∷ i ∷ []) = still_on_int (λ j. done (index a j)) (λ j. still_done (index a j)) (out-Value i)
still_applied scene op.Lookup (a ∷ key ∷ []) = still_done (lookup a key)
still_applied scene (op.Slice first last by) (a ∷ operands) = still_slice_by a (bounds (first ∷ last ∷ by ∷ []) operands)
still_applied scene op.Abs (a ∷ []) =
    still_on_number (λ x. whole (pos (nat_abs x))) (λ x. real (pos (nat_abs x))) (λ x. still_whole (pos (nat_abs x))) (λ x. still_real (pos (nat_abs x))) (out-Value a)
still_applied scene op.Sign (a ∷ []) =
    still_on_number (λ x. whole (int_signum x)) (λ x. whole (int_signum x)) (λ x. still_whole (int_signum x)) (λ x. still_whole (int_signum x)) (out-Value a)
still_applied scene op.Min (a ∷ b ∷ rest) = still_best int_min a b rest
still_applied scene op.Max (a ∷ b ∷ rest) = still_best int_max a b rest
still_applied scene op.Floor (a ∷ []) = still_on_real (λ x. whole (floor_of x units_per_one)) (λ x. still_whole (floor_of x units_per_one)) (out-Value a)
still_applied scene op.Ceil (a ∷ []) = still_on_real (λ x. whole (ceiling_of x units_per_one)) (λ x. still_whole (ceiling_of x units_per_one)) (out-Value a)
still_applied scene op.Round (a ∷ []) = still_on_real (λ x. whole (rounded x units_per_one)) (λ x. still_whole (rounded x units_per_one)) (out-Value a)
still_applied scene op.Size (a ∷ []) = still_wanted (option_map (λ n. value.Int (pos n)) (size a))
still_applied scene op.Empty (a ∷ []) = still_wanted (option_map (λ n. value.Bool (nat_eq n 0)) (size a))
still_applied scene op.Pop (a ∷ []) = still_done (pop a)
still_applied scene op.Del (a ∷ i ∷ []) = still_on_int (λ j. done (del a j)) (λ j. still_done (del a j)) (out-Value i)
still_applied scene op.Range (last ∷ []) = still_range_of (Value-F.Int (pos 0)) (out-Value last) (Value-F.Int (pos 1))
still_applied scene op.Range (first ∷ last ∷ []) = still_range_of (out-Value first) (out-Value last) (Value-F.Int (pos 1))
still_applied scene op.Range (first ∷ last ∷ by ∷ []) = still_range_of (out-Value first) (out-Value last) (out-Value by)
still_applied scene op.Enumerate (a ∷ []) = still_done (enumerate a)
still_applied scene op.DictKeys (a ∷ []) = still_done (keys_of a)
still_applied scene op.DictValues (a ∷ []) = still_done (values_of a)
still_applied scene op.Constant (a ∷ []) = still_wanted (option_map value.Dist (constant_in (out-Value a)))
still_applied scene op.Uniform (a ∷ b ∷ stream ∷ []) = still_by_stream (uniform_in (out-Value a) (out-Value b)) stream
still_applied scene op.Bernoulli (chance ∷ stream ∷ []) = still_by_stream (bernoulli_in (out-Value chance)) stream
still_applied scene op.Binomial (trials ∷ chance ∷ stream ∷ []) = still_by_stream (binomial_in (out-Value trials) (out-Value chance)) stream
still_applied scene op.Exponential (mean ∷ stream ∷ []) = still_by_stream (exponential_in (out-Value mean)) stream
still_applied scene op.Ready (a ∷ []) = still_wanted (option_map value.Bool (option_map (λ due. int_le due scene.clock) (due_of a)))
still_applied scene op.Finished (a ∷ []) = λ view.
    stays_then view (wanted (instance_of a) view) (has_finished scene) (still_wanted (instance_of a) view) (still_has_finished scene)
still_applied scene op.Time [] = still_gives (value.Real scene.clock)
still_applied scene op.Widen (a ∷ []) = still_on_int (λ x. real (x *ℤ units_per_one)) (λ x. still_real (x *ℤ units_per_one)) (out-Value a)
still_applied scene op.ToInt (a ∷ []) = still_int_from (out-Value a)
still_applied scene op.ToReal (a ∷ []) = still_real_from scene (out-Value a)
still_applied scene op.ToText (a ∷ []) = λ view.
    stays_then view (wanted (any_text scene.names.kinds a) view) string_of (still_wanted (any_text scene.names.kinds a) view) still_string_of
still_applied scene op.ToBool (a ∷ []) = still_truth_from (out-Value a)
still_applied scene op.ToTimer (a ∷ []) = still_on_real (λ x. timer (scene.clock +ℤ x)) (λ x. still_timer (scene.clock +ℤ x)) (out-Value a)
still_applied scene _ _ = λ view. tt
