-- Defaults are of the kinds of their shapes; each channel in one is new.
use Rattle.std.proofs.Common.{◌≡◌, ℕ, ◌+◌, ◌<◌, Bool, true, false, cond, None, Some, List, [], ◌∷◌, ◌++◌, map, length, length-append, refl, sym, ap, subst, ◌∙◌, arith}
use Rattle.std.specs.Prelude.{slice_get, nat_le, option_and_then, pos}
use Rattle.chi_num.specs.declared.dist.Dist.TheVariants as dist
use Rattle.chi_types.specs.declared.ty.Ty.{Ty, Ty-F, out-Ty}
use Rattle.chi_types.specs.declared.ty.Ty.TheVariants as ty
use Rattle.chi_types.specs.declared.ty.Way.TheVariants as way
use Rattle.chi_value.specs.declared.defaults.TheConstants.{MOST_CHANNELS}
use Rattle.chi_value.specs.declared.shape.Shape.{Shape, Shape-F, out-Shape, map-Shape, fold_out-Shape}
use Rattle.chi_value.specs.declared.value.Value.{Value}
use Rattle.chi_value.specs.declared.value.Value.TheVariants as value
use Rattle.chi_value.specs.Default.{default, default_step, in_turn}
use Rattle.chi_value.specs.Names.{name_at}
use Rattle.chi_core.specs.declared.view.View.{View}
use Rattle.chi_core.specs.declared.fault.FaultKind.TheVariants.{TooManyChannels}
use Rattle.chi_core.specs.Answer.{Gives, Fails}
use Rattle.chi_core.specs.Evaluation.{within_channels, fresh}
use Rattle.chi_core.specs.Kinds.{Kind, Every}
use Rattle.chi_core.specs.Of.{World, Wider, Of, of_choice, of_channel, of_no_instance, IsOf, PartsOf, no_part, one_part, always_bool, always_int, always_real}
use Rattle.chi_core.specs.OperatorKinds.{ShapeKind, shape_bool, shape_int, shape_real, shape_text, shape_choice, shape_tuple, shape_list, shape_set, shape_dictionary, shape_channel, shape_dist_bool, shape_dist_int, shape_dist_real, shape_timer, shape_instance, ShapesOf, no_shape, one_shape}
use Rattle.chi_core.proofs.Lists.{every_nil}
use Rattle.chi_core.proofs.Worlds.{same_world, wider_still, with_channel, value_grows}
use Rattle.chi_core_kinds.specs.Laws.{WellOf}
use Rattle.chi_core_kinds.specs.Well.{FitsView, Kept, Same}
use Rattle.chi_core_kinds.proofs.Elements.{there, there_last}
use Rattle.chi_core_kinds.proofs.Shapes.{a_bool, an_int, a_real, a_timer, a_text, a_tuple, a_list, a_set, a_dictionary, a_dist}

-- a value of a kind was made, with so many channels then
record Makes (w : World) (T : Kind) (made : Value × ℕ) : Type 0 where
  world : World
  wider : Wider w world
  instances : world.instances ≡ w.instances
  channels : length world.carried ≡ made.1
  is : IsOf world T made.0

-- values of the parts of a tuple were made
record MakesParts (w : World) (parts : List (List ℕ × Ty)) (made : List Value × ℕ) : Type 0 where
  world : World
  wider : Wider w world
  instances : world.instances ≡ w.instances
  channels : length world.carried ≡ made.1
  are : PartsOf world made.0 parts

-- without a new channel
no_more : (w : World) (channels : ℕ) → length w.carried ≡ channels → (T : Kind) (v : Value) → IsOf w T v → Makes w T (v, channels)
no_more w channels e T v is = record { world = w; wider = same_world w; instances = refl; channels = e; is = is }

one_channel : (w : World) (channels : ℕ) → length w.carried ≡ channels → (t : Ty) → Makes w (Ty-F.Chan way.Both t) (value.Chan channels, channels + 1)
one_channel w channels e t =
    let long = length-append w.carried (t ∷ []) in
    record {
      world = record w { carried = w.carried ++ t ∷ [] };
      wider = with_channel w t;
      instances = refl;
      channels = omega (arith, long, e);
      is = subst (λ x. Of (record w { carried = w.carried ++ t ∷ [] }) x (Ty-F.Chan way.Both t)) (sym (value.outs-Chan channels))
          (of_channel channels t (subst (λ n. slice_get (w.carried ++ t ∷ []) n ≡ Some t) e (there_last w.carried t)));
    }

-- the first value of an enumeration has a name
first_named : (names : List (List (List ℕ))) → Every (λ values. 0 < length values) names → (enumeration : ℕ) → enumeration < length names
    → (name : List ℕ) × (name_at names enumeration 0 ≡ Some name)
first_named names some enumeration l =
    let found = there names enumeration l in
    let name = there found.0 0 (some enumeration found.0 found.1) in
    (name.0, ap (option_and_then (λ values. slice_get values 0)) found.1 ∙ name.1)

a_choice : (w : World) (enumeration : ℕ) (name : List ℕ) → name_at w.names enumeration 0 ≡ Some name → IsOf w (Ty-F.Choice enumeration) (value.Choice enumeration 0)
a_choice w enumeration name e = subst (λ x. Of w x (Ty-F.Choice enumeration)) (sym (value.outs-Choice enumeration 0)) (of_choice enumeration 0 name e)

no_instance : (w : World) → IsOf w Ty-F.Inst (value.Inst None)
no_instance w = subst (λ x. Of w x Ty-F.Inst) (sym (value.outs-Inst None)) of_no_instance

default_out : (shape : Shape) (channels : ℕ) → default shape channels ≡ default_step (map-Shape Shape (ℕ → Value × ℕ) default (out-Shape shape)) channels
default_out shape channels = ap (λ make. make channels) (fold_out-Shape (ℕ → Value × ℕ) default_step shape)

module _ (names : List (List (List ℕ))) (some : Every (λ values. 0 < length values) names) where
  mutual
    made_layer : (shape : Shape-F Shape) (T : Kind) → ShapeKind (length names) shape T → (w : World) → w.names ≡ names → (channels : ℕ) → length w.carried ≡ channels
        → Makes w T (default_step (map-Shape Shape (ℕ → Value × ℕ) default shape) channels)
    made_layer _ _ shape_bool w same channels e = no_more w channels e Ty-F.Bool (value.Bool false) (a_bool w false)
    made_layer _ _ shape_int w same channels e = no_more w channels e Ty-F.Int (value.Int (pos 0)) (an_int w (pos 0))
    made_layer _ _ shape_real w same channels e = no_more w channels e Ty-F.Real (value.Real (pos 0)) (a_real w (pos 0))
    made_layer _ _ shape_text w same channels e = no_more w channels e Ty-F.Text (value.Text []) (a_text w [] (omega arith))
    made_layer _ _ (shape_choice enumeration l) w same channels e =
        let name = first_named names some enumeration l in
        no_more w channels e (Ty-F.Choice enumeration) (value.Choice enumeration 0)
        (a_choice w enumeration name.0 (subst (λ ns. name_at ns enumeration 0 ≡ Some name.0) (sym same) name.1))
    made_layer _ _ (shape_tuple shapes parts are) w same channels e =
        let all = made_parts shapes parts are w same channels e in
        record { world = all.world; wider = all.wider; instances = all.instances; channels = all.channels; is = a_tuple all.world _ parts all.are }
    made_layer _ _ (shape_list t) w same channels e = no_more w channels e (Ty-F.ListOf t) (value.ListOf []) (a_list w [] t (omega arith) (every_nil (IsOf w (out-Ty t))))
    made_layer _ _ (shape_set t plain) w same channels e =
        no_more w channels e (Ty-F.SetOf t) (value.SetOf []) (a_set w [] t (omega arith) plain refl (λ k x f. absurd (cc)))
    made_layer _ _ (shape_dictionary key has plain) w same channels e =
        no_more w channels e (Ty-F.DictOf key has) (value.DictOf []) (a_dictionary w [] key has (omega arith) plain refl (λ k x f. absurd (cc)))
    made_layer _ _ (shape_channel t) w same channels e = one_channel w channels e t
    made_layer _ _ shape_dist_bool w same channels e =
        no_more w channels e (Ty-F.Dist ty.Bool) (value.Dist (dist.ConstBool false)) (a_dist w (dist.ConstBool false) ty.Bool Ty-F.Bool ty.outs-Bool (always_bool false))
    made_layer _ _ shape_dist_int w same channels e =
        no_more w channels e (Ty-F.Dist ty.Int) (value.Dist (dist.ConstInt (pos 0))) (a_dist w (dist.ConstInt (pos 0)) ty.Int Ty-F.Int ty.outs-Int (always_int (pos 0)))
    made_layer _ _ shape_dist_real w same channels e =
        no_more w channels e (Ty-F.Dist ty.Real) (value.Dist (dist.ConstReal (pos 0))) (a_dist w (dist.ConstReal (pos 0)) ty.Real Ty-F.Real ty.outs-Real (always_real (pos 0)))
    made_layer _ _ shape_timer w same channels e = no_more w channels e Ty-F.Timer (value.Timer (pos 0)) (a_timer w (pos 0))
    made_layer _ _ shape_instance w same channels e = no_more w channels e Ty-F.Inst (value.Inst None) (no_instance w)

    made_parts : (shapes : List Shape) (parts : List (List ℕ × Ty)) → ShapesOf (length names) shapes parts → (w : World) → w.names ≡ names → (channels : ℕ) → length w.carried ≡ channels
        → MakesParts w parts (in_turn (map default shapes) channels)
    made_parts _ _ no_shape w same channels e = record { world = w; wider = same_world w; instances = refl; channels = e; are = no_part }
    made_parts _ _ (one_shape shape shapes part parts is are) w same channels e =
        let first = subst (Makes w (out-Ty part.1)) (sym (default_out shape channels)) (made_layer (out-Shape shape) (out-Ty part.1) is w same channels e) in
        let made = default shape channels in
        let others = made_parts shapes parts are first.world (first.wider.names ∙ same) made.1 first.channels in
        record {
          world = others.world;
          wider = wider_still w first.world others.world first.wider others.wider;
          instances = others.instances ∙ first.instances;
          channels = others.channels;
          are = one_part made.0 (in_turn (map default shapes) made.1).0 part parts (value_grows first.world others.world others.wider made.0 (out-Ty part.1) first.is) others.are;
        }

within : (w : World) (T : Kind) (view : View) → FitsView w view → (made : Value × ℕ) → Makes w T made → Kept w (Same w (λ v x. IsOf v T x)) (within_channels view made)
within w T view fits made h = decided (nat_le made.1 MOST_CHANNELS)
  where
    decided : (b : Bool) → Kept w (Same w (λ v x. IsOf v T x)) (cond b (Gives made.0 (record view { channels = made.1 })) (Fails TooManyChannels))
    decided true = record {
      world = h.world;
      wider = h.wider;
      fits = record { channels = h.channels; streams = fits.streams; instances = h.instances ∙ fits.instances };
      is = (h.instances, h.is);
    }
    decided false = tt

pub well_default : (w : World) → Every (λ values. 0 < length values) w.names → (shape : Shape) (T : Kind) → ShapeKind (length w.names) (out-Shape shape) T → WellOf w T (fresh shape)
well_default w some shape T is view fits =
    within w T view fits (default shape view.channels)
    (subst (Makes w T) (sym (default_out shape view.channels)) (made_layer w.names some (out-Shape shape) T is w refl view.channels fits.channels))
