-- Distributions, and draws from them.
use Rattle.std.proofs.Common.{◌≡◌, ℕ, ◌<◌, pos, cond, Option, None, Some, List, length, refl, sym, ap, subst, ◌∙◌}
use Rattle.std.proofs.lemmas.Bool.{lt-ltb}
use Rattle.std.specs.Prelude.{slice_get, slice_set}
use Rattle.chi_num.specs.declared.dist.Dist.{Dist}
use Rattle.chi_num.specs.declared.dist.Dist.TheVariants as dist
use Rattle.chi_types.specs.declared.ty.Ty.{Ty, Ty-F, out-Ty}
use Rattle.chi_types.specs.declared.ty.Ty.TheVariants as ty
use Rattle.chi_value.specs.declared.value.Value.{Value, Value-F, out-Value}
use Rattle.chi_value.specs.declared.value.Value.TheVariants as value
use Rattle.chi_dist.specs.declared.drawn.Drawn.{Drawn}
use Rattle.chi_dist.specs.declared.drawn.Drawn.TheVariants as drawn
use Rattle.chi_dist.specs.declared.fault.DistFault.{DistFault}
use Rattle.chi_dist.specs.Draws.{stream_count, taken_after, draws, unless_faulty, taking, sampled}
use Rattle.chi_core.specs.declared.scene.Scene.{Scene}
use Rattle.chi_core.specs.declared.view.View.{View}
use Rattle.chi_core.specs.Answer.{wanted, then_do}
use Rattle.chi_core.specs.Distributions.{constant_in, stream_in, uniform_in, bernoulli_in, binomial_in, exponential_in, distribution, by_stream, constant_of, uniform_of, bernoulli_of, binomial_of, exponential_of, value_drawn, after_drawing, draw_from, sample_of}
use Rattle.chi_core.specs.Kinds.{Kind}
use Rattle.chi_core.specs.Of.{World, Of, of_bool, of_int, of_real, of_dist, IsOf, Yields, always_bool, always_int, always_real, some_int, some_real, some_bool, some_count, some_wait}
use Rattle.chi_core.proofs.Worlds.{same_world}
use Rattle.chi_core_kinds.specs.Laws.{WellOf}
use Rattle.chi_core_kinds.specs.Well.{FitsView, Kept, Same}
use Rattle.chi_core_kinds.proofs.Composing.{well_wanted}
use Rattle.chi_core_kinds.proofs.Elements.{length_changed, there}
use Rattle.chi_core_kinds.proofs.Shapes.{a_bool, an_int, a_real, a_dist}

well_dist : (w : World) (d : Dist) (t : Ty) (T : Kind) → out-Ty t ≡ T → Yields d T → WellOf w (Ty-F.Dist t) (distribution (Some d))
well_dist w d t T e yields = well_wanted w (λ v x. IsOf v (Ty-F.Dist t) x) (Some (value.Dist d)) (value.Dist d) refl (a_dist w d t T e yields)

module _ (w : World) where
  -- constants

  constant_bool : (x : Value-F Value) → Of w x Ty-F.Bool → WellOf w (Ty-F.Dist ty.Bool) (distribution (constant_in x))
  constant_bool _ (of_bool b) = well_dist w (dist.ConstBool b) ty.Bool Ty-F.Bool ty.outs-Bool (always_bool b)

  constant_int : (x : Value-F Value) → Of w x Ty-F.Int → WellOf w (Ty-F.Dist ty.Int) (distribution (constant_in x))
  constant_int _ (of_int n) = well_dist w (dist.ConstInt n) ty.Int Ty-F.Int ty.outs-Int (always_int n)

  constant_real : (x : Value-F Value) → Of w x Ty-F.Real → WellOf w (Ty-F.Dist ty.Real) (distribution (constant_in x))
  constant_real _ (of_real n) = well_dist w (dist.ConstReal n) ty.Real Ty-F.Real ty.outs-Real (always_real n)

  pub well_constant_bool : (a : Value) → IsOf w Ty-F.Bool a → WellOf w (Ty-F.Dist ty.Bool) (constant_of a)
  well_constant_bool a h = constant_bool (out-Value a) h

  pub well_constant_int : (a : Value) → IsOf w Ty-F.Int a → WellOf w (Ty-F.Dist ty.Int) (constant_of a)
  well_constant_int a h = constant_int (out-Value a) h

  pub well_constant_real : (a : Value) → IsOf w Ty-F.Real a → WellOf w (Ty-F.Dist ty.Real) (constant_of a)
  well_constant_real a h = constant_real (out-Value a) h

  -- by a stream

  module _ (stream : ℕ) (l : stream < stream_count) where
    stream_known : stream_in (out-Value (value.Int (pos stream))) ≡ Some stream
    stream_known = ap stream_in (value.outs-Int (pos stream)) ∙ ap (λ b. cond b (Some stream) None) (lt-ltb stream stream_count l)

    streamed : (T : Kind) (made : ℕ → Option Dist) → WellOf w T (distribution (made stream)) → WellOf w T (by_stream made (value.Int (pos stream)))
    streamed T made h view fits =
        subst (λ o. Kept w (Same w (λ v x. IsOf v T x)) (then_do (wanted o view) (λ number. distribution (made number)))) (sym stream_known) (h view fits)

    uniform_int : (x y : Value-F Value) → Of w x Ty-F.Int → Of w y Ty-F.Int → WellOf w (Ty-F.Dist ty.Int) (distribution (uniform_in x y stream))
    uniform_int _ _ (of_int a) (of_int b) = well_dist w (dist.UniformInt a b stream) ty.Int Ty-F.Int ty.outs-Int (some_int a b stream l)

    uniform_real : (x y : Value-F Value) → Of w x Ty-F.Real → Of w y Ty-F.Real → WellOf w (Ty-F.Dist ty.Real) (distribution (uniform_in x y stream))
    uniform_real _ _ (of_real a) (of_real b) = well_dist w (dist.UniformReal a b stream) ty.Real Ty-F.Real ty.outs-Real (some_real a b stream l)

    bernoulli : (x : Value-F Value) → Of w x Ty-F.Real → WellOf w (Ty-F.Dist ty.Bool) (distribution (bernoulli_in x stream))
    bernoulli _ (of_real chance) = well_dist w (dist.Bernoulli chance stream) ty.Bool Ty-F.Bool ty.outs-Bool (some_bool chance stream l)

    binomial : (x y : Value-F Value) → Of w x Ty-F.Int → Of w y Ty-F.Real → WellOf w (Ty-F.Dist ty.Int) (distribution (binomial_in x y stream))
    binomial _ _ (of_int trials) (of_real chance) = well_dist w (dist.Binomial trials chance stream) ty.Int Ty-F.Int ty.outs-Int (some_count trials chance stream l)

    exponential : (x : Value-F Value) → Of w x Ty-F.Real → WellOf w (Ty-F.Dist ty.Real) (distribution (exponential_in x stream))
    exponential _ (of_real mean) = well_dist w (dist.Exponential mean stream) ty.Real Ty-F.Real ty.outs-Real (some_wait mean stream l)

    pub well_uniform_int : (a b : Value) → IsOf w Ty-F.Int a → IsOf w Ty-F.Int b → WellOf w (Ty-F.Dist ty.Int) (uniform_of a b (value.Int (pos stream)))
    well_uniform_int a b h k = streamed (Ty-F.Dist ty.Int) (uniform_in (out-Value a) (out-Value b)) (uniform_int (out-Value a) (out-Value b) h k)

    pub well_uniform_real : (a b : Value) → IsOf w Ty-F.Real a → IsOf w Ty-F.Real b → WellOf w (Ty-F.Dist ty.Real) (uniform_of a b (value.Int (pos stream)))
    well_uniform_real a b h k = streamed (Ty-F.Dist ty.Real) (uniform_in (out-Value a) (out-Value b)) (uniform_real (out-Value a) (out-Value b) h k)

    pub well_bernoulli : (a : Value) → IsOf w Ty-F.Real a → WellOf w (Ty-F.Dist ty.Bool) (bernoulli_of a (value.Int (pos stream)))
    well_bernoulli a h = streamed (Ty-F.Dist ty.Bool) (bernoulli_in (out-Value a)) (bernoulli (out-Value a) h)

    pub well_binomial : (a b : Value) → IsOf w Ty-F.Int a → IsOf w Ty-F.Real b → WellOf w (Ty-F.Dist ty.Int) (binomial_of a b (value.Int (pos stream)))
    well_binomial a b h k = streamed (Ty-F.Dist ty.Int) (binomial_in (out-Value a) (out-Value b)) (binomial (out-Value a) (out-Value b) h k)

    pub well_exponential : (a : Value) → IsOf w Ty-F.Real a → WellOf w (Ty-F.Dist ty.Real) (exponential_of a (value.Int (pos stream)))
    well_exponential a h = streamed (Ty-F.Dist ty.Real) (exponential_in (out-Value a)) (exponential (out-Value a) h)

-- draws

module _ (w : World) (T : Kind) (view : View) (fits : FitsView w view) where
  given : (x : Drawn) (taken : List ℕ) → IsOf w T (value_drawn x) → length taken ≡ length view.draws → Kept w (Same w (λ v x. IsOf v T x)) (after_drawing (draws x taken) view)
  given x taken is e = record {
    world = w;
    wider = same_world w;
    fits = record { channels = fits.channels; streams = e ∙ fits.streams; instances = fits.instances };
    is = (refl, is);
  }

  module _ (stream count : ℕ) (made : ℕ → Drawn) (is : (k : ℕ) → IsOf w T (value_drawn (made k))) where
    drawn_one : (o : Option ℕ) (k : ℕ) → o ≡ Some k → (fault : Option DistFault)
        → Kept w (Same w (λ v x. IsOf v T x)) (after_drawing (unless_faulty o fault (λ k. draws (made k) (slice_set view.draws stream (taken_after k count)))) view)
    drawn_one None k e fault = absurd (cc)
    drawn_one (Some k) j e (Some fault) = tt
    drawn_one (Some k) j e None = given (made k) (slice_set view.draws stream (taken_after k count)) (is k) (length_changed stream (taken_after k count) view.draws)

    taken_well : stream < stream_count → (fault : Option DistFault) → Kept w (Same w (λ v x. IsOf v T x)) (after_drawing (taking view.draws stream count fault made) view)
    taken_well l fault =
        let found = there view.draws stream (subst (λ n. stream < n) (sym fits.streams) l) in
        drawn_one (slice_get view.draws stream) found.0 found.1 fault

module _ (w : World) (view : View) (fits : FitsView w view) (seed : ℕ) where
  drawn_of : (d : Dist) (T : Kind) → Yields d T → Kept w (Same w (λ v x. IsOf v T x)) (after_drawing (sampled seed view.draws d) view)
  unfolding sampled
  drawn_of _ _ (always_bool b) = given w Ty-F.Bool view fits (drawn.Bool b) view.draws (a_bool w b) refl
  drawn_of _ _ (always_int n) = given w Ty-F.Int view fits (drawn.Int n) view.draws (an_int w n) refl
  drawn_of _ _ (always_real n) = given w Ty-F.Real view fits (drawn.Real n) view.draws (a_real w n) refl
  drawn_of _ _ (some_int a b stream l) = taken_well w Ty-F.Int view fits stream _ _ (λ k. an_int w _) l _
  drawn_of _ _ (some_real a b stream l) = taken_well w Ty-F.Real view fits stream _ _ (λ k. a_real w _) l _
  drawn_of _ _ (some_bool chance stream l) = taken_well w Ty-F.Bool view fits stream _ _ (λ k. a_bool w _) l _
  drawn_of _ _ (some_count trials chance stream l) = taken_well w Ty-F.Int view fits stream _ _ (λ k. an_int w _) l _
  drawn_of _ _ (some_wait mean stream l) = taken_well w Ty-F.Real view fits stream _ _ (λ k. a_real w _) l _

sample_layer : (w : World) (scene : Scene) (t : Ty) (x : Value-F Value) → Of w x (Ty-F.Dist t) → WellOf w (out-Ty t) (draw_from scene x)
sample_layer w scene _ _ (of_dist d t yields) view fits = drawn_of w view fits scene.seed d (out-Ty t) yields

pub well_sample : (w : World) (scene : Scene) (t : Ty) (a : Value) → IsOf w (Ty-F.Dist t) a → WellOf w (out-Ty t) (sample_of scene a)
well_sample w scene t a h = sample_layer w scene t (out-Value a) h
