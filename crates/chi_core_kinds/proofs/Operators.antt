-- Each row of the operator table.
use Rattle.std.proofs.Common.{◌≡◌, ℕ, ◌<◌, pos, true, false, List, [], ◌∷◌, ◌++◌}
use Rattle.std.specs.Int.{int_min, int_max}
use Rattle.std.specs.Ordering.{is_lt, is_eq, is_gt}
use Rattle.std.specs.Prelude.{not, ◌+ℤ◌, ◌-ℤ◌, ◌*ℤ◌}
use Rattle.chi_num.specs.Results.{rounded}
use Rattle.chi_num.specs.Units.{units_per_one}
use Rattle.chi_types.specs.declared.ty.Ty.{Ty, Ty-F}
use Rattle.chi_value.specs.declared.value.Value.{Value, Value-F, out-Value}
use Rattle.chi_value.specs.declared.value.Value.TheVariants as value
use Rattle.chi_dist.specs.Draws.{stream_count}
use Rattle.chi_ops.specs.Operations.{union, minus, minus_keys, meet}
use Rattle.chi_ops.specs.Sequences.{join}
use Rattle.chi_core.specs.declared.op_name.OpName.{OpName}
use Rattle.chi_core.specs.declared.scene.Scene.{Scene}
use Rattle.chi_core.specs.Containers.{done}
use Rattle.chi_core.specs.Kinds.{Kind}
use Rattle.chi_core.specs.Of.{World, Of, of_int, of_real, of_text, of_list, of_set, of_dictionary, IsOf, AreOf, none_of, one_of}
use Rattle.chi_core.specs.OperatorKinds.{OpKind, has_stream, not_bool, add_ints, add_reals, join_texts, join_lists, unite_sets, unite_dictionaries, subtract_ints, subtract_reals, subtract_sets, subtract_keys, multiply_ints, multiply_reals, intersect_sets, divide_reals, divide_ints, remainder_of_ints, power_of_ints, negate_int, negate_real, equal_plain, differ_plain, less_ordered, at_most_ordered, greater_ordered, at_least_ordered, in_list, in_set, in_dictionary, subset_of_set, sample_dist, index_list, index_text, look_up, slice_list, slice_text, absolute_int, absolute_real, sign_of_int, sign_of_real, least_int, least_real, greatest_int, greatest_real, floor_of_real, ceiling_of_real, round_real, size_of, empty_of, pop_list, pop_set, pop_dictionary, delete_element, range_to, range_from, range_by, enumerate_list, keys_of_dictionary, values_of_dictionary, constant_bool, constant_int, constant_real, uniform_int, uniform_real, bernoulli_bool, binomial_int, exponential_real, ready_timer, finished_instance, time_now, widen_int, int_of_int, int_of_text, real_of_int, real_of_real, real_of_text, real_of_timer, text_of_plain, bool_of_bool, bool_of_text, timer_of_real}
use Rattle.chi_core.specs.Operators.{applied, sum, difference, product}
use Rattle.chi_core_kinds.specs.Laws.{WellOf}
use Rattle.chi_core_kinds.proofs.Arithmetic.{well_whole, well_real, well_widened, well_negated_int, well_negated_real, well_absolute_int, well_absolute_real, well_sign_int, well_sign_real, well_floored, well_ceiled, well_nearest, well_quotient, well_divided, well_remainder, well_powered, well_best_of_ints, well_best_of_reals}
use Rattle.chi_core_kinds.proofs.Casts.{well_int_of_int, well_int_of_text, well_real_of_int, well_real_of_real, well_real_of_text, well_real_of_timer, well_text_of, well_bool_of_bool, well_bool_of_text, well_timer_of_real, well_ready, well_finished}
use Rattle.chi_core_kinds.proofs.Comparisons.{well_opposite, well_compares, ordered_plain}
use Rattle.chi_core_kinds.proofs.Composing.{well_gives}
use Rattle.chi_core_kinds.proofs.Dictionaries.{well_unite, well_minus_keys, well_lookup, well_in_dictionary, well_keys, well_values, well_pop_dictionary}
use Rattle.chi_core_kinds.proofs.Distributions.{well_constant_bool, well_constant_int, well_constant_real, well_uniform_int, well_uniform_real, well_bernoulli, well_binomial, well_exponential, well_sample}
use Rattle.chi_core_kinds.proofs.ListOperators.{well_size, well_empty, well_in_list, well_pop_list}
use Rattle.chi_core_kinds.proofs.Ranges.{well_sliced_list, well_sliced_text, well_range, well_enumerate}
use Rattle.chi_core_kinds.proofs.Sequences.{well_join_texts, well_join_lists, well_element_at, well_byte_at, well_without}
use Rattle.chi_core_kinds.proofs.Sets.{well_union, well_meet, well_minus, well_subset, well_in_set, well_pop_set}
use Rattle.chi_core_kinds.proofs.Shapes.{a_real}

-- sums, differences and products, by the layers of both operands

module _ (w : World) (a b : Value) where
  sum_ints : (x y : Value-F Value) → Of w x Ty-F.Int → Of w y Ty-F.Int → WellOf w Ty-F.Int (sum a b x y)
  sum_ints _ _ (of_int n) (of_int m) = well_whole w (n +ℤ m)

  sum_reals : (x y : Value-F Value) → Of w x Ty-F.Real → Of w y Ty-F.Real → WellOf w Ty-F.Real (sum a b x y)
  sum_reals _ _ (of_real n) (of_real m) = well_real w (n +ℤ m)

  sum_texts : (x y : Value-F Value) → Of w x Ty-F.Text → WellOf w Ty-F.Text (done (join a b)) → WellOf w Ty-F.Text (sum a b x y)
  sum_texts _ y (of_text bytes short) h = h

  sum_lists : (t : Ty) (x y : Value-F Value) → Of w x (Ty-F.ListOf t) → WellOf w (Ty-F.ListOf t) (done (join a b)) → WellOf w (Ty-F.ListOf t) (sum a b x y)
  sum_lists _ _ y (of_list xs t short each) h = h

  sum_sets : (t : Ty) (x y : Value-F Value) → Of w x (Ty-F.SetOf t) → WellOf w (Ty-F.SetOf t) (done (union a b)) → WellOf w (Ty-F.SetOf t) (sum a b x y)
  sum_sets _ _ y (of_set xs t short plain ascending each) h = h

  sum_dictionaries : (key has : Ty) (x y : Value-F Value) → Of w x (Ty-F.DictOf key has) → WellOf w (Ty-F.DictOf key has) (done (union a b)) → WellOf w (Ty-F.DictOf key has) (sum a b x y)
  sum_dictionaries _ _ _ y (of_dictionary xs key has short plain ascending each) h = h

  difference_ints : (x y : Value-F Value) → Of w x Ty-F.Int → Of w y Ty-F.Int → WellOf w Ty-F.Int (difference a b x y)
  difference_ints _ _ (of_int n) (of_int m) = well_whole w (n -ℤ m)

  difference_reals : (x y : Value-F Value) → Of w x Ty-F.Real → Of w y Ty-F.Real → WellOf w Ty-F.Real (difference a b x y)
  difference_reals _ _ (of_real n) (of_real m) = well_real w (n -ℤ m)

  difference_sets : (t : Ty) (x y : Value-F Value) → Of w x (Ty-F.SetOf t) → WellOf w (Ty-F.SetOf t) (done (minus a b)) → WellOf w (Ty-F.SetOf t) (difference a b x y)
  difference_sets _ _ y (of_set xs t short plain ascending each) h = h

  difference_keys : (key has : Ty) (x y : Value-F Value) → Of w x (Ty-F.DictOf key has) → WellOf w (Ty-F.DictOf key has) (done (minus_keys a b)) → WellOf w (Ty-F.DictOf key has) (difference a b x y)
  difference_keys _ _ _ y (of_dictionary xs key has short plain ascending each) h = h

  product_ints : (x y : Value-F Value) → Of w x Ty-F.Int → Of w y Ty-F.Int → WellOf w Ty-F.Int (product a b x y)
  product_ints _ _ (of_int n) (of_int m) = well_whole w (n *ℤ m)

  product_reals : (x y : Value-F Value) → Of w x Ty-F.Real → Of w y Ty-F.Real → WellOf w Ty-F.Real (product a b x y)
  product_reals _ _ (of_real n) (of_real m) = well_real w (rounded (n *ℤ m) units_per_one)

  product_sets : (t : Ty) (x y : Value-F Value) → Of w x (Ty-F.SetOf t) → WellOf w (Ty-F.SetOf t) (done (meet a b)) → WellOf w (Ty-F.SetOf t) (product a b x y)
  product_sets _ _ y (of_set xs t short plain ascending each) h = h

module _ (w : World) (scene : Scene) (same : scene.names.kinds ≡ w.names) where
  pub well_applied : (name : OpName) (Ts : List Kind) (T : Kind) → OpKind name Ts T → has_stream name ≡ false → (values : List Value) → AreOf w values Ts → WellOf w T (applied scene name values)
  well_applied _ _ _ not_bool e _ (one_of a _ _ _ h none_of) = well_opposite w a h
  well_applied _ _ _ add_ints e _ (one_of a _ _ _ h (one_of b _ _ _ l none_of)) = sum_ints w a b (out-Value a) (out-Value b) h l
  well_applied _ _ _ add_reals e _ (one_of a _ _ _ h (one_of b _ _ _ l none_of)) = sum_reals w a b (out-Value a) (out-Value b) h l
  well_applied _ _ _ join_texts e _ (one_of a _ _ _ h (one_of b _ _ _ l none_of)) = sum_texts w a b (out-Value a) (out-Value b) h (well_join_texts w a b h l)
  well_applied _ _ _ (join_lists t) e _ (one_of a _ _ _ h (one_of b _ _ _ l none_of)) = sum_lists w a b t (out-Value a) (out-Value b) h (well_join_lists w t a b h l)
  well_applied _ _ _ (unite_sets t) e _ (one_of a _ _ _ h (one_of b _ _ _ l none_of)) = sum_sets w a b t (out-Value a) (out-Value b) h (well_union w t a b h l)
  well_applied _ _ _ (unite_dictionaries key has) e _ (one_of a _ _ _ h (one_of b _ _ _ l none_of)) =
      sum_dictionaries w a b key has (out-Value a) (out-Value b) h (well_unite w key has a b h l)
  well_applied _ _ _ subtract_ints e _ (one_of a _ _ _ h (one_of b _ _ _ l none_of)) = difference_ints w a b (out-Value a) (out-Value b) h l
  well_applied _ _ _ subtract_reals e _ (one_of a _ _ _ h (one_of b _ _ _ l none_of)) = difference_reals w a b (out-Value a) (out-Value b) h l
  well_applied _ _ _ (subtract_sets t) e _ (one_of a _ _ _ h (one_of b _ _ _ l none_of)) = difference_sets w a b t (out-Value a) (out-Value b) h (well_minus w t a b h l)
  well_applied _ _ _ (subtract_keys key has) e _ (one_of a _ _ _ h (one_of b _ _ _ l none_of)) =
      difference_keys w a b key has (out-Value a) (out-Value b) h (well_minus_keys w key has a b h l)
  well_applied _ _ _ multiply_ints e _ (one_of a _ _ _ h (one_of b _ _ _ l none_of)) = product_ints w a b (out-Value a) (out-Value b) h l
  well_applied _ _ _ multiply_reals e _ (one_of a _ _ _ h (one_of b _ _ _ l none_of)) = product_reals w a b (out-Value a) (out-Value b) h l
  well_applied _ _ _ (intersect_sets t) e _ (one_of a _ _ _ h (one_of b _ _ _ l none_of)) = product_sets w a b t (out-Value a) (out-Value b) h (well_meet w t a b h l)
  well_applied _ _ _ divide_reals e _ (one_of a _ _ _ h (one_of b _ _ _ l none_of)) = well_quotient w a b h l
  well_applied _ _ _ divide_ints e _ (one_of a _ _ _ h (one_of b _ _ _ l none_of)) = well_divided w a b h l
  well_applied _ _ _ remainder_of_ints e _ (one_of a _ _ _ h (one_of b _ _ _ l none_of)) = well_remainder w a b h l
  well_applied _ _ _ power_of_ints e _ (one_of a _ _ _ h (one_of b _ _ _ l none_of)) = well_powered w a b h l
  well_applied _ _ _ negate_int e _ (one_of a _ _ _ h none_of) = well_negated_int w a h
  well_applied _ _ _ negate_real e _ (one_of a _ _ _ h none_of) = well_negated_real w a h
  well_applied _ _ _ (equal_plain T plain) e _ (one_of a _ _ _ h (one_of b _ _ _ l none_of)) = well_compares w is_eq T plain a b h l
  well_applied _ _ _ (differ_plain T plain) e _ (one_of a _ _ _ h (one_of b _ _ _ l none_of)) = well_compares w (λ o. not (is_eq o)) T plain a b h l
  well_applied _ _ _ (less_ordered T ordered) e _ (one_of a _ _ _ h (one_of b _ _ _ l none_of)) = well_compares w is_lt T (ordered_plain T ordered) a b h l
  well_applied _ _ _ (at_most_ordered T ordered) e _ (one_of a _ _ _ h (one_of b _ _ _ l none_of)) = well_compares w (λ o. not (is_gt o)) T (ordered_plain T ordered) a b h l
  well_applied _ _ _ (greater_ordered T ordered) e _ (one_of a _ _ _ h (one_of b _ _ _ l none_of)) = well_compares w is_gt T (ordered_plain T ordered) a b h l
  well_applied _ _ _ (at_least_ordered T ordered) e _ (one_of a _ _ _ h (one_of b _ _ _ l none_of)) = well_compares w (λ o. not (is_lt o)) T (ordered_plain T ordered) a b h l
  well_applied _ _ _ (in_list t plain) e _ (one_of a _ _ _ h (one_of b _ _ _ l none_of)) = well_in_list w t plain b a l h
  well_applied _ _ _ (in_set t) e _ (one_of a _ _ _ h (one_of b _ _ _ l none_of)) = well_in_set w t b a l h
  well_applied _ _ _ (in_dictionary key has) e _ (one_of a _ _ _ h (one_of b _ _ _ l none_of)) = well_in_dictionary w key has b a l h
  well_applied _ _ _ (subset_of_set t) e _ (one_of a _ _ _ h (one_of b _ _ _ l none_of)) = well_subset w t a b h l
  well_applied _ _ _ (sample_dist t) e _ (one_of a _ _ _ h none_of) = well_sample w scene t a h
  well_applied _ _ _ (index_list t) e _ (one_of a _ _ _ h (one_of i _ _ _ l none_of)) = well_element_at w t a i h l
  well_applied _ _ _ index_text e _ (one_of a _ _ _ h (one_of i _ _ _ l none_of)) = well_byte_at w a i h l
  well_applied _ _ _ (look_up key has) e _ (one_of a _ _ _ h (one_of k _ _ _ l none_of)) = well_lookup w key has a k h l
  well_applied _ _ _ (slice_list first last by t) e _ (one_of a operands _ _ h are) = well_sliced_list w t a first last by operands h are
  well_applied _ _ _ (slice_text first last by) e _ (one_of a operands _ _ h are) = well_sliced_text w a first last by operands h are
  well_applied _ _ _ absolute_int e _ (one_of a _ _ _ h none_of) = well_absolute_int w a h
  well_applied _ _ _ absolute_real e _ (one_of a _ _ _ h none_of) = well_absolute_real w a h
  well_applied _ _ _ sign_of_int e _ (one_of a _ _ _ h none_of) = well_sign_int w a h
  well_applied _ _ _ sign_of_real e _ (one_of a _ _ _ h none_of) = well_sign_real w a h
  well_applied _ _ _ (least_int more) e _ (one_of a _ _ _ h (one_of b rest _ _ l are)) = well_best_of_ints w int_min a b more rest h l are
  well_applied _ _ _ (least_real more) e _ (one_of a _ _ _ h (one_of b rest _ _ l are)) = well_best_of_reals w int_min a b more rest h l are
  well_applied _ _ _ (greatest_int more) e _ (one_of a _ _ _ h (one_of b rest _ _ l are)) = well_best_of_ints w int_max a b more rest h l are
  well_applied _ _ _ (greatest_real more) e _ (one_of a _ _ _ h (one_of b rest _ _ l are)) = well_best_of_reals w int_max a b more rest h l are
  well_applied _ _ _ floor_of_real e _ (one_of a _ _ _ h none_of) = well_floored w a h
  well_applied _ _ _ ceiling_of_real e _ (one_of a _ _ _ h none_of) = well_ceiled w a h
  well_applied _ _ _ round_real e _ (one_of a _ _ _ h none_of) = well_nearest w a h
  well_applied _ _ _ (size_of T sized) e _ (one_of a _ _ _ h none_of) = well_size w T sized a h
  well_applied _ _ _ (empty_of T sized) e _ (one_of a _ _ _ h none_of) = well_empty w T sized a h
  well_applied _ _ _ (pop_list t) e _ (one_of a _ _ _ h none_of) = well_pop_list w t a h
  well_applied _ _ _ (pop_set t) e _ (one_of a _ _ _ h none_of) = well_pop_set w t a h
  well_applied _ _ _ (pop_dictionary key has) e _ (one_of a _ _ _ h none_of) = well_pop_dictionary w key has a h
  well_applied _ _ _ (delete_element t) e _ (one_of a _ _ _ h (one_of i _ _ _ l none_of)) = well_without w t a i h l
  well_applied _ _ _ range_to e _ (one_of a _ _ _ h none_of) = well_range w (Value-F.Int (pos 0)) (out-Value a) (Value-F.Int (pos 1)) (of_int (pos 0)) h (of_int (pos 1))
  well_applied _ _ _ range_from e _ (one_of a _ _ _ h (one_of b _ _ _ l none_of)) = well_range w (out-Value a) (out-Value b) (Value-F.Int (pos 1)) h l (of_int (pos 1))
  well_applied _ _ _ range_by e _ (one_of a _ _ _ h (one_of b _ _ _ l (one_of c _ _ _ m none_of))) = well_range w (out-Value a) (out-Value b) (out-Value c) h l m
  well_applied _ _ _ (enumerate_list t) e _ (one_of a _ _ _ h none_of) = well_enumerate w t a h
  well_applied _ _ _ (keys_of_dictionary key has) e _ (one_of a _ _ _ h none_of) = well_keys w key has a h
  well_applied _ _ _ (values_of_dictionary key has) e _ (one_of a _ _ _ h none_of) = well_values w key has a h
  well_applied _ _ _ constant_bool e _ (one_of a _ _ _ h none_of) = well_constant_bool w a h
  well_applied _ _ _ constant_int e _ (one_of a _ _ _ h none_of) = well_constant_int w a h
  well_applied _ _ _ constant_real e _ (one_of a _ _ _ h none_of) = well_constant_real w a h
  well_applied _ _ _ uniform_int e values are = absurd (cc)
  well_applied _ _ _ uniform_real e values are = absurd (cc)
  well_applied _ _ _ bernoulli_bool e values are = absurd (cc)
  well_applied _ _ _ binomial_int e values are = absurd (cc)
  well_applied _ _ _ exponential_real e values are = absurd (cc)
  well_applied _ _ _ ready_timer e _ (one_of a _ _ _ h none_of) = well_ready w scene a h
  well_applied _ _ _ finished_instance e _ (one_of a _ _ _ h none_of) = well_finished w scene a h
  well_applied _ _ _ time_now e _ none_of = well_gives w (λ v x. IsOf v Ty-F.Real x) (value.Real scene.clock) (a_real w scene.clock)
  well_applied _ _ _ widen_int e _ (one_of a _ _ _ h none_of) = well_widened w a h
  well_applied _ _ _ int_of_int e _ (one_of a _ _ _ h none_of) = well_int_of_int w a h
  well_applied _ _ _ int_of_text e _ (one_of a _ _ _ h none_of) = well_int_of_text w a h
  well_applied _ _ _ real_of_int e _ (one_of a _ _ _ h none_of) = well_real_of_int w scene a h
  well_applied _ _ _ real_of_real e _ (one_of a _ _ _ h none_of) = well_real_of_real w scene a h
  well_applied _ _ _ real_of_text e _ (one_of a _ _ _ h none_of) = well_real_of_text w scene a h
  well_applied _ _ _ real_of_timer e _ (one_of a _ _ _ h none_of) = well_real_of_timer w scene a h
  well_applied _ _ _ (text_of_plain T plain) e _ (one_of a _ _ _ h none_of) = well_text_of w scene same T plain a h
  well_applied _ _ _ bool_of_bool e _ (one_of a _ _ _ h none_of) = well_bool_of_bool w a h
  well_applied _ _ _ bool_of_text e _ (one_of a _ _ _ h none_of) = well_bool_of_text w a h
  well_applied _ _ _ timer_of_real e _ (one_of a _ _ _ h none_of) = well_timer_of_real w scene a h

-- the makers of distributions that draw, with their stream
module _ (w : World) (scene : Scene) (stream : ℕ) (inside : stream < stream_count) where
  pub well_streamed : (name : OpName) (Ts : List Kind) (T : Kind) → OpKind name Ts T → has_stream name ≡ true → (values : List Value) → AreOf w values Ts
      → WellOf w T (applied scene name (values ++ value.Int (pos stream) ∷ []))
  well_streamed _ _ _ uniform_int e _ (one_of a _ _ _ h (one_of b _ _ _ l none_of)) = well_uniform_int w stream inside a b h l
  well_streamed _ _ _ uniform_real e _ (one_of a _ _ _ h (one_of b _ _ _ l none_of)) = well_uniform_real w stream inside a b h l
  well_streamed _ _ _ bernoulli_bool e _ (one_of a _ _ _ h none_of) = well_bernoulli w stream inside a h
  well_streamed _ _ _ binomial_int e _ (one_of a _ _ _ h (one_of b _ _ _ l none_of)) = well_binomial w stream inside a b h l
  well_streamed _ _ _ exponential_real e _ (one_of a _ _ _ h none_of) = well_exponential w stream inside a h
  well_streamed _ _ _ _ e values are = absurd (cc)
