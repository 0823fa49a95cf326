-- Truth values, and comparisons.
use Rattle.std.proofs.Common.{◌≡◌, Bool, true, false, cond, Option, Some, None, refl, ap}
use Rattle.std.specs.Prelude.{not, option_map}
use Rattle.std.specs.declared.cmp.Ordering.{Ordering}
use Rattle.std.proofs.lemmas.Bool.{and_from}
use Rattle.chi_types.specs.declared.ty.Ty.{Ty-F}
use Rattle.chi_value.specs.declared.value.Value.{Value, Value-F, out-Value}
use Rattle.chi_value.specs.declared.value.Value.TheVariants as value
use Rattle.chi_value.specs.Order.{order}
use Rattle.chi_core.specs.Comparisons.{tells, truth, opposite, are_comparable, compares}
use Rattle.chi_core.specs.Kinds.{Kind, is_plain_kind}
use Rattle.chi_core.specs.Of.{World, Of, of_bool, IsOf}
use Rattle.chi_core.specs.OperatorKinds.{is_ordered}
use Rattle.chi_core.specs.Reading.{truth_in}
use Rattle.chi_core.proofs.Tidied.{comparable}
use Rattle.chi_core_kinds.specs.Laws.{WellOf}
use Rattle.chi_core_kinds.proofs.Composing.{well_gives, well_wanted}
use Rattle.chi_core_kinds.proofs.Shapes.{a_bool}

pub well_truth : (w : World) (b : Bool) → WellOf w Ty-F.Bool (truth b)
well_truth w b = well_gives w (λ v x. IsOf v Ty-F.Bool x) (value.Bool b) (a_bool w b)

-- a truth value that there is
pub well_tells : (w : World) (o : Option Bool) (b : Bool) → o ≡ Some b → WellOf w Ty-F.Bool (tells o)
well_tells w o b e = well_wanted w (λ v x. IsOf v Ty-F.Bool x) (option_map value.Bool o) (value.Bool b) (ap (option_map value.Bool) e) (a_bool w b)

pub well_tells_if : (w : World) (c : Bool) (o : Option Bool) (b : Bool) → c ≡ true → o ≡ Some b → WellOf w Ty-F.Bool (tells (cond c o None))
well_tells_if w true o b e f = well_tells w o b f
well_tells_if w false o b e f = absurd (cc)

opposite_layer : (w : World) (x : Value-F Value) → Of w x Ty-F.Bool → WellOf w Ty-F.Bool (tells (option_map not (truth_in x)))
opposite_layer w _ (of_bool b) = well_tells w (Some (not b)) (not b) refl

pub well_opposite : (w : World) (a : Value) → IsOf w Ty-F.Bool a → WellOf w Ty-F.Bool (opposite a)
well_opposite w a is = opposite_layer w (out-Value a) is

-- values of one plain kind are compared
pub well_compares : (w : World) (holds : Ordering → Bool) (T : Kind) → is_plain_kind T ≡ true → (a b : Value) → IsOf w T a → IsOf w T b → WellOf w Ty-F.Bool (compares holds a b)
well_compares w holds T plain a b h l =
    let are = comparable w a b T plain h l in
    let passes : are_comparable a b ≡ true = and_from _ _ (and_from _ _ (and_from _ _ (and_from _ _ are.0 are.1) are.2) are.3) are.4 in
    well_tells w (option_map holds (cond (are_comparable a b) (Some (order a b)) None)) (holds (order a b)) (ap (λ c. option_map holds (cond c (Some (order a b)) None)) passes)

-- what is ordered is plain
pub ordered_plain : (T : Kind) → is_ordered T ≡ true → is_plain_kind T ≡ true
ordered_plain Ty-F.Int h = refl
ordered_plain Ty-F.Real h = refl
ordered_plain Ty-F.Text h = refl
ordered_plain (Ty-F.Choice enumeration) h = refl
ordered_plain _ h = absurd (cc)
