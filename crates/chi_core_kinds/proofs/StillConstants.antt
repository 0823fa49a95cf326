-- The value of a constant costs nothing and makes no channel.
use Rattle.std.proofs.Common.{◌≡◌, ◌++◌, ℕ, pos, negsuc, Bool, true, false, ◌||◌, not, nat_le, List, [], ◌∷◌, map, length, Option, Some, None, refl, sym, ap, subst, ◌∙◌}
use Rattle.std.specs.Prelude.{slice_get, IsTrue}
use Rattle.std.specs.List.{list_any}
use Rattle.chi_types.specs.declared.ty.Ty.{Ty, out-Ty}
use Rattle.chi_value.specs.declared.defaults.TheConstants.{MOST_CHANNELS}
use Rattle.chi_value.specs.declared.format.Kind.TheVariants as kind
use Rattle.chi_value.specs.declared.shape.Shape.{Shape, Shape-F, out-Shape, map-Shape, fold_out-Shape}
use Rattle.chi_value.specs.declared.value.TheConstants.{MOST_ELEMENTS}
use Rattle.chi_value.specs.declared.value.Value.{Value, Value-F, out-Value}
use Rattle.chi_value.specs.declared.value.Value.TheVariants as value
use Rattle.chi_value.specs.Default.{default, default_step, in_turn}
use Rattle.chi_value.specs.Plain.{itself}
use Rattle.chi_ops.specs.Operations.{build}
use Rattle.chi_core.specs.declared.expression.CExpr.{CExpr, CExpr-F, out-CExpr, map-CExpr}
use Rattle.chi_core.specs.declared.fault.FaultKind.TheVariants.{TooManyChannels, TooLarge}
use Rattle.chi_core.specs.declared.program.Core.{Core}
use Rattle.chi_core.specs.declared.scene.Scene.{Scene}
use Rattle.chi_core.specs.Answer.{Gives, Fails, Does, gives, giving, times}
use Rattle.chi_core.specs.Evaluation.{Run, Evaluates, eval, eval_step, on_truth, fresh, repeated}
use Rattle.chi_core.specs.Kinds.{Kind}
use Rattle.chi_core.specs.OperatorKinds.{ShapeKind, shape_bool, shape_int, shape_real, shape_text, shape_choice, shape_tuple, shape_list, shape_set, shape_dictionary, shape_channel, shape_dist_bool, shape_dist_int, shape_dist_real, shape_timer, shape_instance, ShapesOf, no_shape, one_shape}
use Rattle.chi_core.specs.Operators.{applied}
use Rattle.chi_core.specs.Reading.{truth_of, part_of}
use Rattle.chi_core.specs.Scopes.{Scope, constant_scope, makes_channel, makes_channel_step}
use Rattle.chi_core.specs.SetSlots.{Known}
use Rattle.chi_core.specs.SoundExpressions as sound
use Rattle.chi_core.specs.SoundExpressions.{HasKind, HaveKinds, stream_operand, no_expression, one_expression}
use Rattle.chi_core.specs.Variables.{Variables, value_at}
use Rattle.chi_core.proofs.Equations.{eval_out, eval_lit}
use Rattle.chi_core_kinds.proofs.Still.{Stays, Still, EachStill, stays_then, stays_if, still_gives, still_wanted, still_gathered, still_times}
use Rattle.chi_core_kinds.proofs.StillOperators.{still_done, still_applied}

-- defaults without a channel

default_out : (shape : Shape) (channels : ℕ) → default shape channels ≡ default_step (map-Shape Shape (ℕ → Value × ℕ) default (out-Shape shape)) channels
default_out shape channels = ap (λ make. make channels) (fold_out-Shape (ℕ → Value × ℕ) default_step shape)

none_first : (a b : Bool) → a || b ≡ false → a ≡ false
none_first true b e = e
none_first false b e = refl

none_later : (a b : Bool) → a || b ≡ false → b ≡ false
none_later true b e = absurd (cc)
none_later false b e = e

module _ (names : ℕ) where
  mutual
    no_more : (layer : Shape-F Shape) (T : Kind) → ShapeKind names layer T → makes_channel_step (map-Shape Shape Bool makes_channel layer) ≡ false → (channels : ℕ)
        → (default_step (map-Shape Shape (ℕ → Value × ℕ) default layer) channels).1 ≡ channels
    no_more _ _ shape_bool e channels = refl
    no_more _ _ shape_int e channels = refl
    no_more _ _ shape_real e channels = refl
    no_more _ _ shape_text e channels = refl
    no_more _ _ (shape_choice enumeration l) e channels = refl
    no_more _ _ (shape_tuple shapes parts are) e channels = no_more_in shapes parts are e channels
    no_more _ _ (shape_list t) e channels = refl
    no_more _ _ (shape_set t plain) e channels = refl
    no_more _ _ (shape_dictionary key has plain) e channels = refl
    no_more _ _ (shape_channel t) e channels = absurd (cc)
    no_more _ _ shape_dist_bool e channels = refl
    no_more _ _ shape_dist_int e channels = refl
    no_more _ _ shape_dist_real e channels = refl
    no_more _ _ shape_timer e channels = refl
    no_more _ _ shape_instance e channels = refl

    no_more_in : (shapes : List Shape) (parts : List (List ℕ × Ty)) → ShapesOf names shapes parts → list_any itself (map makes_channel shapes) ≡ false → (channels : ℕ)
        → (in_turn (map default shapes) channels).1 ≡ channels
    no_more_in _ _ no_shape e channels = refl
    no_more_in _ _ (one_shape shape shapes part parts is are) e channels =
        let first : makes_channel shape ≡ false = none_first (makes_channel shape) (list_any itself (map makes_channel shapes)) e in
        let here : (default shape channels).1 ≡ channels = ap (λ made. made.1) (default_out shape channels)
        ∙ no_more (out-Shape shape) (out-Ty part.1) is (sym (fold_out-Shape Bool makes_channel_step shape) ∙ first) channels in
        no_more_in shapes parts are (none_later (makes_channel shape) (list_any itself (map makes_channel shapes)) e) (default shape channels).1 ∙ here

  still_fresh : (shape : Shape) (T : Kind) → ShapeKind names (out-Shape shape) T → makes_channel shape ≡ false → Still (fresh shape)
  still_fresh shape T is none view =
      stays_if (nat_le (default shape view.channels).1 MOST_CHANNELS) view (Gives (default shape view.channels).0 (record view { channels = (default shape view.channels).1 })) (Fails TooManyChannels)
      (refl, ap (λ made. made.1) (default_out shape view.channels) ∙ no_more (out-Shape shape) T is (sym (fold_out-Shape Bool makes_channel_step shape) ∙ none) view.channels) tt

still_repeated : (each : Does Value) → Still each → (n : Value-F Value) → Still (repeated each n)
still_repeated each h (Value-F.Int (pos count)) = λ view.
    stays_if (nat_le count MOST_ELEMENTS) view (giving value.ListOf (times count each view)) (Fails TooLarge)
    (stays_then view (times count each view) (λ xs. gives (value.ListOf xs)) (still_times [] count each h view) (λ xs. still_gives (value.ListOf xs))) tt
still_repeated each h (Value-F.Int (negsuc n)) = λ view. tt
still_repeated each h _ = λ view. tt

still_truth : (o : Option Bool) (f g : Does Value) → Still f → Still g → Still (on_truth o f g)
still_truth (Some true) f g h l = h
still_truth (Some false) f g h l = l
still_truth None f g h l = λ view. tt

no_such : (b : Bool) → IsTrue (not b) → b ≡ false
no_such true e = absurd (cc)
no_such false e = refl

module _ (core : Core) (number : ℕ) (known : Known) (run : Run) (scene : Scene) (variables : Variables) where
  abbrev value_of : Evaluates
  value_of = eval run scene variables

  abbrev scope : Scope
  scope = constant_scope core number

  abbrev by_layer : CExpr-F CExpr → Does Value
  by_layer layer = eval_step run scene variables (map-CExpr _ _ value_of layer)

  whole : (e : CExpr) → Still (by_layer (out-CExpr e)) → Still (value_of e)
  whole e h view = subst (Stays view) (sym (eval_out run scene variables e (out-CExpr e) refl view)) (h view)

  still_stream : (stream : ℕ) → Still (value_of (stream_operand stream))
  still_stream stream view = subst (Stays view) (sym (eval_lit run scene variables view (value.Int (pos stream)))) (refl, refl)

  mutual
    still_layer : (e : CExpr-F CExpr) (T : Kind) → HasKind scope known e T → Still (by_layer e)
    still_layer _ _ (sound.literal v T is) = still_gives v
    still_layer _ _ (sound.variable slot T k e) = still_wanted (value_at variables slot)
    still_layer _ _ (sound.constant other c e before) = still_wanted (slice_get scene.constants other)
    still_layer _ _ (sound.operation name es Ts T row streamless may are) = λ view.
        stays_then view _ (applied scene name) (still_gathered [] (map value_of es) (still_values es Ts are) view) (still_applied scene name)
    still_layer _ _ (sound.distribution name es operands Ts T stream e row draws are l) = λ view.
        stays_then view _ (applied scene name) (still_gathered [] (map value_of es) (subst (λ es. EachStill (map value_of es)) (sym e) (still_operands operands Ts are stream)) view) (still_applied scene name)
    still_layer _ _ (sound.both a b h l) = λ view.
        stays_then view (value_of a view) _ (whole a (still_layer (out-CExpr a) _ h) view)
        (λ x. still_truth (truth_of x) (value_of b) (gives x) (whole b (still_layer (out-CExpr b) _ l)) (still_gives x))
    still_layer _ _ (sound.either a b h l) = λ view.
        stays_then view (value_of a view) _ (whole a (still_layer (out-CExpr a) _ h) view)
        (λ x. still_truth (truth_of x) (gives x) (value_of b) (still_gives x) (whole b (still_layer (out-CExpr b) _ l)))
    still_layer _ _ (sound.tuple_literal es ts are) = λ view.
        stays_then view _ _ (still_gathered [] (map value_of es) (still_values es _ are) view) (λ xs. still_done (build kind.TupleOf xs))
    still_layer _ _ (sound.list_literal es t are) = λ view.
        stays_then view _ _ (still_gathered [] (map value_of es) (still_values es _ are) view) (λ xs. still_done (build kind.ListOf xs))
    still_layer _ _ (sound.set_literal es t plain are) = λ view.
        stays_then view _ _ (still_gathered [] (map value_of es) (still_values es _ are) view) (λ xs. still_done (build kind.SetOf xs))
    still_layer _ _ (sound.dictionary_literal es key has entries plain are) = λ view.
        stays_then view _ _ (still_gathered [] (map value_of es) (still_values es _ are) view) (λ xs. still_done (build kind.DictOf xs))
    still_layer _ _ (sound.part e place parts p h there) = λ view.
        stays_then view (value_of e view) _ (whole e (still_layer (out-CExpr e) _ h) view) (λ x. still_wanted (part_of x place))
    still_layer _ _ (sound.call function es f e may are) = absurd (cc)
    still_layer _ _ (sound.insertion a b function t f e may params result h l) = absurd (cc)
    still_layer _ _ (sound.fresh_default shape T is may) = still_fresh (length core.names.kinds) shape T is (no_such (makes_channel shape) may)
    still_layer _ _ (sound.repetition count each t h l) = λ view.
        stays_then view (value_of count view) _ (whole count (still_layer (out-CExpr count) _ h) view)
        (λ n. still_repeated (value_of each) (whole each (still_layer (out-CExpr each) _ l)) (out-Value n))

    still_values : (es : List CExpr) (Ts : List Kind) → HaveKinds scope known es Ts → EachStill (map value_of es)
    still_values _ _ no_expression = tt
    still_values _ _ (one_expression e es T Ts h more) = (whole e (still_layer (out-CExpr e) T h), still_values es Ts more)

    still_operands : (es : List CExpr) (Ts : List Kind) → HaveKinds scope known es Ts → (stream : ℕ) → EachStill (map value_of (es ++ stream_operand stream ∷ []))
    still_operands _ _ no_expression stream = (still_stream stream, tt)
    still_operands _ _ (one_expression e es T Ts h more) stream = (whole e (still_layer (out-CExpr e) T h), still_operands es Ts more stream)

  pub still_constant : (e : CExpr) (T : Kind) → HasKind scope known (out-CExpr e) T → Still (value_of e)
  still_constant e T h = whole e (still_layer (out-CExpr e) T h)
