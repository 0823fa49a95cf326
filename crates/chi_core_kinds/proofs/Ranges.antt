-- Slices, ranges and numbered lists.
use Rattle.std.proofs.Common.{◌≡◌, ◌≢◌, suc, ℤ, pos, Bool, true, false, Option, None, Some, List, [], ◌∷◌, ◌++◌, length, map, refl, sym, ap, subst, ◌∙◌, append-nil, append_assoc, arith}
use Rattle.std.proofs.lemmas.Bool.{and_from}
use Rattle.std.proofs.lemmas.Bool.Decides.{Decides-int_eq}
use Rattle.std.proofs.lemmas.List.FromFn.{length-enumerate_from}
use Rattle.std.proofs.lemmas.List.{length-map}
use Rattle.std.specs.List.{enumerate_from}
use Rattle.std.specs.Ordering.{int_eq}
use Rattle.std.specs.Prelude.{option_map}
use Rattle.chi_types.specs.declared.ty.Ty.{Ty, Ty-F, out-Ty, roll-Ty, out-roll-Ty}
use Rattle.chi_types.specs.declared.ty.Ty.TheVariants as ty
use Rattle.chi_value.specs.declared.value.Value.{Value, Value-F, out-Value}
use Rattle.chi_value.specs.declared.value.Value.TheVariants as value
use Rattle.chi_ops.specs.Kinds.{is_list, is_sequence}
use Rattle.chi_ops.specs.Outcome.{step_fault}
use Rattle.chi_ops.specs.Progression.{count_from, progression}
use Rattle.chi_ops.specs.Sequences.{step_of, slice, range, numbered, enumerate}
use Rattle.chi_ops.specs.Slices.{slice_of}
use Rattle.chi_core.specs.Containers as containers
use Rattle.chi_core.specs.Containers.{done, element_at, without, size_of, is_empty, range_of, slice_by, sliced}
use Rattle.chi_core.specs.Kinds.{Kind, tuple_of}
use Rattle.chi_core.specs.Of.{World, Of, of_int, IsOf, AreOf, none_of, one_of}
use Rattle.chi_core.specs.OperatorKinds as table
use Rattle.chi_core.specs.OperatorKinds.{bound}
use Rattle.chi_core.proofs.Tidied.{tidy_of}
use Rattle.chi_core_kinds.specs.Laws.{WellOf}
use Rattle.chi_core_kinds.proofs.Elements.{anything, every_map, every_numbered}
use Rattle.chi_core_kinds.proofs.Shapes.{int_is, list_is, text_is, an_int, a_text, a_list, a_pair, of_type, few, well_where, well_within, well_done, well_unless}
use Rattle.chi_core_kinds.proofs.Slices.{length_numbers, length_slice, every_slice}

-- slices

moves : (by : ℤ) → int_eq by (pos 0) ≡ false → by ≢ pos 0
moves by e same = let equal = (Decides-int_eq by (pos 0)).1 same in absurd (cc)

well_slice_list : (w : World) (t : Ty) (a : Value) (first last by : Option ℤ) → IsOf w (Ty-F.ListOf t) a → WellOf w (Ty-F.ListOf t) (done (slice a first last by))
well_slice_list w t a first last by h =
    let x = list_is w t (out-Value a) h in
    let part = slice_of x.items first last (step_of by) in
    well_where w (Ty-F.ListOf t) _ _ (and_from _ _ (tidy_of w a (Ty-F.ListOf t) h) (rw (x.is, is_sequence) refl))
    (well_unless w (Ty-F.ListOf t) (int_eq (step_of by) (pos 0)) step_fault _ (λ e. rw x.is
    (let less = length_slice x.items first last (step_of by) (moves (step_of by) e) in
    well_done w (Ty-F.ListOf t) (value.ListOf part)
    (a_list w part t (omega (arith, x.short, less)) (every_slice x.items first last (step_of by) (IsOf w (out-Ty t)) x.each)))))

well_slice_text : (w : World) (a : Value) (first last by : Option ℤ) → IsOf w Ty-F.Text a → WellOf w Ty-F.Text (done (slice a first last by))
well_slice_text w a first last by h =
    let x = text_is w (out-Value a) h in
    let part = slice_of x.bytes first last (step_of by) in
    well_where w Ty-F.Text _ _ (and_from _ _ (tidy_of w a Ty-F.Text h) (rw (x.is, is_sequence) refl))
    (well_unless w Ty-F.Text (int_eq (step_of by) (pos 0)) step_fault _ (λ e. rw x.is
    (let less = length_slice x.bytes first last (step_of by) (moves (step_of by) e) in
    well_done w Ty-F.Text (value.Text part) (a_text w part (omega (arith, x.short, less))))))

-- the kinds of the bounds that are given
bound_kinds : List Bool → List Kind
bound_kinds [] = []
bound_kinds (given ∷ more) = bound given ++ bound_kinds more

pub record Bounds (given : List Bool) (operands : List Value) : Type 0 where
  pub found : List (Option ℤ)
  pub is : containers.bounds given operands ≡ Some found
  pub each : length found ≡ length given

one_more : (given : List Bool) (x : Value) (operands : List Value) (n : ℤ) (found : List (Option ℤ)) → out-Value x ≡ Value-F.Int n → containers.bounds given operands ≡ Some found
    → containers.bounds (true ∷ given) (x ∷ operands) ≡ Some (Some n ∷ found)
one_more given x operands n found e f = rw (e, f) refl

bounds_found : (w : World) (given : List Bool) (operands : List Value) → AreOf w operands (bound_kinds given) → Bounds given operands
unfolding bound_kinds
bounds_found w [] _ none_of = record { found = []; is = refl; each = refl }
bounds_found w (false ∷ given) operands are =
    let rest = bounds_found w given operands are in
    record { found = None ∷ rest.found; is = ap (option_map (λ others. None ∷ others)) rest.is; each = ap suc rest.each }
bounds_found w (true ∷ given) _ (one_of x operands _ _ is are) =
    let rest = bounds_found w given operands are in
    let number = int_is w (out-Value x) is in
    record { found = Some number.0 ∷ rest.found; is = one_more given x operands number.0 rest.found number.1 rest.is; each = ap suc rest.each }

three_bounds : (w : World) (first last by : Bool) (operands : List Value) → AreOf w operands (table.bounds first last by) → Bounds (first ∷ last ∷ by ∷ []) operands
unfolding bound_kinds
three_bounds w first last by operands are =
    bounds_found w (first ∷ last ∷ by ∷ []) operands (subst (AreOf w operands)
    (append_assoc (bound first) (bound last) (bound by) ∙ ap (λ Ts. bound first ++ (bound last ++ Ts)) (sym (append-nil (bound by)))) are)

module _ (w : World) (T : Kind) (a : Value) (well : (first last by : Option ℤ) → WellOf w T (done (slice a first last by))) where
  with_bounds : (found : List (Option ℤ)) → length found ≡ 3 → WellOf w T (slice_by a (Some found))
  with_bounds [] e = absurd (omega (arith, e))
  with_bounds (x ∷ []) e = absurd (omega (arith, e))
  with_bounds (x ∷ y ∷ []) e = absurd (omega (arith, e))
  with_bounds (x ∷ y ∷ z ∷ []) e = well x y z
  with_bounds (x ∷ y ∷ z ∷ u ∷ found) e = absurd (omega (arith, e))

  sliced_well : (first last by : Bool) (operands : List Value) → AreOf w operands (table.bounds first last by) → WellOf w T (sliced first last by a operands)
  sliced_well first last by operands are =
      let b = three_bounds w first last by operands are in
      subst (λ found. WellOf w T (slice_by a found)) (sym b.is) (with_bounds b.found b.each)

pub well_sliced_list : (w : World) (t : Ty) (a : Value) (first last by : Bool) (operands : List Value) → IsOf w (Ty-F.ListOf t) a → AreOf w operands (table.bounds first last by)
    → WellOf w (Ty-F.ListOf t) (sliced first last by a operands)
well_sliced_list w t a first last by operands h are = sliced_well w (Ty-F.ListOf t) a (λ x y z. well_slice_list w t a x y z h) first last by operands are

pub well_sliced_text : (w : World) (a : Value) (first last by : Bool) (operands : List Value) → IsOf w Ty-F.Text a → AreOf w operands (table.bounds first last by)
    → WellOf w Ty-F.Text (sliced first last by a operands)
well_sliced_text w a first last by operands h are = sliced_well w Ty-F.Text a (λ x y z. well_slice_text w a x y z h) first last by operands are

-- ranges

int_typed : (w : World) (n : ℤ) → IsOf w (out-Ty ty.Int) (value.Int n)
int_typed w n = of_type w ty.Int Ty-F.Int (value.Int n) ty.outs-Int (an_int w n)

well_ints : (w : World) (first last by : ℤ) → WellOf w (Ty-F.ListOf ty.Int) (done (range first last by))
well_ints w first last by =
    let numbers = progression first last by in
    let count = count_from first last by in
    let long = length_numbers first by count in
    let same = length-map numbers value.Int in
    well_unless w (Ty-F.ListOf ty.Int) (int_eq by (pos 0)) step_fault _ (λ e.
    well_within w (Ty-F.ListOf ty.Int) count (value.ListOf (map value.Int numbers)) (λ small.
    a_list w (map value.Int numbers) ty.Int (few (map value.Int numbers) (omega (arith, small, long, same)))
    (every_map (λ (n : ℤ). Unit {0}) (IsOf w (out-Ty ty.Int)) value.Int (λ n u. int_typed w n) numbers (anything numbers))))

pub well_range : (w : World) (x y z : Value-F Value) → Of w x Ty-F.Int → Of w y Ty-F.Int → Of w z Ty-F.Int → WellOf w (Ty-F.ListOf ty.Int) (range_of x y z)
well_range w _ _ _ (of_int first) (of_int last) (of_int by) = well_ints w first last by

-- each element with its index

pub well_enumerate : (w : World) (t : Ty) (a : Value) → IsOf w (Ty-F.ListOf t) a → WellOf w (Ty-F.ListOf (roll-Ty (tuple_of (ty.Int ∷ t ∷ [])))) (done (enumerate a))
well_enumerate w t a h =
    let x = list_is w t (out-Value a) h in
    let pair = roll-Ty (tuple_of (ty.Int ∷ t ∷ [])) in
    let all = map numbered (enumerate_from 0 x.items) in
    let long = length-enumerate_from 0 x.items in
    let same = length-map (enumerate_from 0 x.items) numbered in
    well_where w (Ty-F.ListOf pair) _ _ (and_from _ _ (tidy_of w a (Ty-F.ListOf t) h) (rw (x.is, is_list) refl))
    (rw x.is (well_done w (Ty-F.ListOf pair) (value.ListOf all)
    (a_list w all pair (omega (arith, x.short, long, same))
    (every_numbered (IsOf w (out-Ty t)) (IsOf w (out-Ty pair)) numbered
    (λ k e is. of_type w pair (tuple_of (ty.Int ∷ t ∷ [])) (numbered (k, e)) (out-roll-Ty (tuple_of (ty.Int ∷ t ∷ []))) (a_pair w (value.Int (pos k)) e ty.Int t (int_typed w (pos k)) is))
    x.items 0 x.each))))
