-- Casts, and what depends on the time and on instances.
use Rattle.std.proofs.Common.{◌≡◌, ℕ, ◌<◌, ℤ, pos, Bool, true, false, cond, Option, None, Some, List, length, refl, sym, ap, subst}
use Rattle.std.proofs.lemmas.Bool.{and_from, leb-true, lt-ltb}
use Rattle.std.specs.Int.{int_max}
use Rattle.std.specs.Prelude.{slice_get, int_le, nat_le, ◌+ℤ◌, ◌-ℤ◌, ◌*ℤ◌, option_map}
use Rattle.chi_num.specs.TextNumbers.{Meant, means, no_form, out_of_range, int_meant, real_meant}
use Rattle.chi_num.specs.Units.{units_per_one}
use Rattle.chi_types.specs.declared.ty.Ty.{Ty-F}
use Rattle.chi_value.specs.declared.value.TheConstants.{MOST_ELEMENTS}
use Rattle.chi_value.specs.declared.value.Value.{Value, Value-F, out-Value}
use Rattle.chi_value.specs.declared.value.Value.TheVariants as value
use Rattle.chi_value.specs.Plain.{within}
use Rattle.chi_value.specs.Text.{text}
use Rattle.chi_format.specs.Format.{any_text}
use Rattle.chi_core.specs.declared.fault.FaultKind.{FaultKind}
use Rattle.chi_core.specs.declared.fault.FaultKind.TheVariants.{IntRange, RealRange, BadText, TooLarge}
use Rattle.chi_core.specs.declared.scene.Scene.{Scene}
use Rattle.chi_core.specs.Answer.{gives, fails, wanted, then_do}
use Rattle.chi_core.specs.Arithmetic.{timer}
use Rattle.chi_core.specs.Casts.{as_meant, int_from, to_int, real_from, to_real, truth_from, to_truth, string_of, to_text, to_timer, is_ready, has_finished, is_finished}
use Rattle.chi_core.specs.Comparisons.{truth, tells}
use Rattle.chi_core.specs.Kinds.{Kind, is_plain_kind}
use Rattle.chi_core.specs.Of.{World, Of, of_bool, of_int, of_real, of_text, of_timer, of_no_instance, of_instance, IsOf}
use Rattle.chi_core.specs.Reading.{due_in, instance_in}
use Rattle.chi_core.specs.Scene.{finished_or_new}
use Rattle.chi_core.proofs.Tidied.{plain_of, within_of}
use Rattle.chi_core_kinds.specs.Laws.{WellOf}
use Rattle.chi_core_kinds.proofs.Arithmetic.{well_whole, well_real, well_timer, well_on_real}
use Rattle.chi_core_kinds.proofs.Comparisons.{well_truth, well_tells}
use Rattle.chi_core_kinds.proofs.Composing.{well_gives, well_if, well_then, well_wanted}
use Rattle.chi_core_kinds.proofs.Shapes.{an_int, a_real, a_text, few}

-- the number that a text means
well_meant : (w : World) (T : Kind) (past : FaultKind) (made : ℤ → Value) → ((z : ℤ) → IsOf w T (made z)) → (meant : Meant) → WellOf w T (as_meant past made meant)
well_meant w T past made is (means z) = well_gives w (λ v x. IsOf v T x) (made z) (is z)
well_meant w T past made is no_form = λ view fits. tt
well_meant w T past made is out_of_range = λ view fits. tt

module _ (w : World) where
  int_of_int : (x : Value-F Value) → Of w x Ty-F.Int → WellOf w Ty-F.Int (int_from x)
  int_of_int _ (of_int n) = well_whole w n

  int_of_text : (x : Value-F Value) → Of w x Ty-F.Text → WellOf w Ty-F.Int (int_from x)
  int_of_text _ (of_text bytes short) = well_meant w Ty-F.Int IntRange value.Int (an_int w) (int_meant bytes)

  pub well_int_of_int : (a : Value) → IsOf w Ty-F.Int a → WellOf w Ty-F.Int (to_int a)
  well_int_of_int a h = int_of_int (out-Value a) h

  pub well_int_of_text : (a : Value) → IsOf w Ty-F.Text a → WellOf w Ty-F.Int (to_int a)
  well_int_of_text a h = int_of_text (out-Value a) h

  module _ (scene : Scene) where
    real_of_int : (x : Value-F Value) → Of w x Ty-F.Int → WellOf w Ty-F.Real (real_from scene x)
    real_of_int _ (of_int n) = well_real w (n *ℤ units_per_one)

    real_of_real : (x : Value-F Value) → Of w x Ty-F.Real → WellOf w Ty-F.Real (real_from scene x)
    real_of_real _ (of_real n) = well_real w n

    real_of_text : (x : Value-F Value) → Of w x Ty-F.Text → WellOf w Ty-F.Real (real_from scene x)
    real_of_text _ (of_text bytes short) = well_meant w Ty-F.Real RealRange value.Real (a_real w) (real_meant bytes)

    real_of_timer : (x : Value-F Value) → Of w x Ty-F.Timer → WellOf w Ty-F.Real (real_from scene x)
    real_of_timer _ (of_timer due) = well_real w (int_max (pos 0) (due -ℤ scene.clock))

    pub well_real_of_int : (a : Value) → IsOf w Ty-F.Int a → WellOf w Ty-F.Real (to_real scene a)
    well_real_of_int a h = real_of_int (out-Value a) h

    pub well_real_of_real : (a : Value) → IsOf w Ty-F.Real a → WellOf w Ty-F.Real (to_real scene a)
    well_real_of_real a h = real_of_real (out-Value a) h

    pub well_real_of_text : (a : Value) → IsOf w Ty-F.Text a → WellOf w Ty-F.Real (to_real scene a)
    well_real_of_text a h = real_of_text (out-Value a) h

    pub well_real_of_timer : (a : Value) → IsOf w Ty-F.Timer a → WellOf w Ty-F.Real (to_real scene a)
    well_real_of_timer a h = real_of_timer (out-Value a) h

    pub well_timer_of_real : (a : Value) → IsOf w Ty-F.Real a → WellOf w Ty-F.Timer (to_timer scene a)
    well_timer_of_real a h =
        well_on_real w Ty-F.Timer (λ x. timer (scene.clock +ℤ x)) timer (λ x. well_timer w (scene.clock +ℤ x)) (out-Value a) h

  -- truth values

  truth_well : (b c : Bool) → WellOf w Ty-F.Bool (cond b (truth true) (cond c (truth false) (fails BadText)))
  truth_well true c = well_truth w true
  truth_well false true = well_truth w false
  truth_well false false = λ view fits. tt

  bool_of_bool : (x : Value-F Value) → Of w x Ty-F.Bool → WellOf w Ty-F.Bool (truth_from x)
  bool_of_bool _ (of_bool b) = well_truth w b

  bool_of_text : (x : Value-F Value) → Of w x Ty-F.Text → WellOf w Ty-F.Bool (truth_from x)
  bool_of_text _ (of_text bytes short) = truth_well _ _

  pub well_bool_of_bool : (a : Value) → IsOf w Ty-F.Bool a → WellOf w Ty-F.Bool (to_truth a)
  well_bool_of_bool a h = bool_of_bool (out-Value a) h

  pub well_bool_of_text : (a : Value) → IsOf w Ty-F.Text a → WellOf w Ty-F.Bool (to_truth a)
  well_bool_of_text a h = bool_of_text (out-Value a) h

  -- texts

  pub well_string : (bytes : List ℕ) → WellOf w Ty-F.Text (string_of bytes)
  well_string bytes =
      well_if w (λ v x. IsOf v Ty-F.Text x) (nat_le (length bytes) MOST_ELEMENTS) (gives (value.Text bytes)) (fails TooLarge)
      (λ e. well_gives w (λ v x. IsOf v Ty-F.Text x) (value.Text bytes) (a_text w bytes (few bytes (leb-true (length bytes) MOST_ELEMENTS e)))) (λ e view fits. tt)

-- a plain value of a kind has a text
pub text_there : (w : World) (names : List (List (List ℕ))) → names ≡ w.names → (T : Kind) → is_plain_kind T ≡ true → (a : Value) → IsOf w T a → any_text names a ≡ Some (text names a)
text_there w names same T plain a h =
    ap (λ b. cond b (Some (text names a)) None) (and_from _ _ (plain_of w a T plain h) (subst (λ n. within n a ≡ true) (sym same) (within_of w a T h)))

module _ (w : World) (scene : Scene) where
  pub well_text_of : scene.names.kinds ≡ w.names → (T : Kind) → is_plain_kind T ≡ true → (a : Value) → IsOf w T a → WellOf w Ty-F.Text (to_text scene a)
  well_text_of same T plain a h =
      well_then w (λ v bytes. Unit {0}) (λ v x. IsOf v Ty-F.Text x) string_of (λ v wider s bytes u. well_string v bytes) (wanted (any_text scene.names.kinds a))
      (well_wanted w (λ v bytes. Unit {0}) (any_text scene.names.kinds a) (text scene.names.kinds a) (text_there w scene.names.kinds same T plain a h) tt)

  -- timers and instances

  ready_layer : (x : Value-F Value) → Of w x Ty-F.Timer → WellOf w Ty-F.Bool (tells (option_map (λ due. int_le due scene.clock) (due_in x)))
  ready_layer _ (of_timer due) = well_tells w (Some (int_le due scene.clock)) (int_le due scene.clock) refl

  pub well_ready : (a : Value) → IsOf w Ty-F.Timer a → WellOf w Ty-F.Bool (is_ready scene a)
  well_ready a h = ready_layer (out-Value a) h

  known : (o : Option Bool) (p instances : ℕ) → p < instances → (b : Bool) × (finished_or_new o p instances ≡ Some b)
  known (Some finished) p instances l = (finished, refl)
  known None p instances l = (false, ap (λ b. cond b (Some false) None) (lt-ltb p instances l))

  finished_layer : (x : Value-F Value) → Of w x Ty-F.Inst → WellOf w Ty-F.Bool (λ view. then_do (wanted (instance_in x) view) (has_finished scene))
  finished_layer _ of_no_instance = well_truth w true
  finished_layer _ (of_instance p l) = λ view fits.
      let found = known (slice_get scene.finished p) p view.instances (subst (λ n. p < n) fits.instances l) in
      well_tells w (finished_or_new (slice_get scene.finished p) p view.instances) found.0 found.1 view fits

  pub well_finished : (a : Value) → IsOf w Ty-F.Inst a → WellOf w Ty-F.Bool (is_finished scene a)
  well_finished a h = finished_layer (out-Value a) h
