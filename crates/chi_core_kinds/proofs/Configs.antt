-- Configurations that fit a world: with an instance changed, and with new instances.
use Rattle.std.proofs.Common.{◌≡◌, ◌++◌, ◌+◌, ◌<◌, ◌≤◌, ℕ, zero, suc, List, map, length, Some, sym, subst, ◌∙◌, arith}
use Rattle.std.proofs.lemmas.List.{length-append, length-map, length-set}
use Rattle.std.specs.Prelude.{slice_get, slice_set}
use Rattle.std.specs.List.{range_with_len}
use Rattle.chi_core.specs.declared.limits.TheConstants.{MOST_INSTANCES}
use Rattle.chi_core.specs.declared.program.Core.{Core}
use Rattle.chi_core.specs.declared.program.ProcDef.{ProcDef}
use Rattle.chi_core.specs.declared.verdict.Verdict.TheVariants.{Exit}
use Rattle.chi_core.specs.declared.view.View.{View}
use Rattle.chi_core.specs.Config.{Config, Instance, settled, with_instance, with_view}
use Rattle.chi_core.specs.Kinded.{KindedInstance, KindedConstants, Kinded}
use Rattle.chi_core.specs.Kinds.{Every}
use Rattle.chi_core.specs.Of.{World, Wider}
use Rattle.chi_core.specs.Performing.{Change, Goes, Exits}
use Rattle.chi_core.specs.Scopes.{exit_of}
use Rattle.chi_core.proofs.Lists.{every_nil, every_cons}
use Rattle.chi_core_kinds.specs.Well.{FitsView}
use Rattle.chi_core_kinds.proofs.Composing.{every_append}
use Rattle.chi_core_kinds.proofs.Elements.{every_set, every_map}
use Rattle.chi_core_kinds.specs.Keeps.{SoundVerdict}
use Rattle.chi_core_kinds.proofs.Instances.{instance_grows}

-- numbers in a row are below what comes after the last
pub in_row : (first many most : ℕ) → first + many ≤ most → Every (λ n. n < most) (range_with_len first many)
in_row first zero most l = every_nil (λ n. n < most)
in_row first (suc many) most l = every_cons (λ n. n < most) first (range_with_len (first + 1) many) (omega (arith, l)) (in_row (first + 1) many most (omega (arith, l)))

-- all that a kinded configuration has but what the view says
pub record ConfigFits (core : Core) (model : ProcDef) (w : World) (config : Config) : Type 0 where
  pub names : w.names ≡ core.names.kinds
  pub constants : KindedConstants core config.constants
  pub instances : w.instances ≡ length config.instances
  pub each : Every (KindedInstance core (exit_of model) w) config.instances
  pub few : length config.instances ≤ MOST_INSTANCES

-- what a process does leads to a configuration that fits, or ends with a verdict that can be told
abbrev pub ChangeFits : Core → ProcDef → World → Change → Type 0
ChangeFits core model w (Goes config text) = ConfigFits core model w config
ChangeFits core model w (Exits v) = SoundVerdict core (Exit v)

pub kinded_with : (core : Core) (model : ProcDef) → slice_get core.procs core.model ≡ Some model → (w : World) (config : Config) → ConfigFits core model w config → (view : View) → FitsView w view
    → (u : World) → Wider u w → (later : Kinded core (with_view view config)) × Wider u later.world
kinded_with core model is w config h view fits u wider = (
  record {
    world = w;
    names = h.names;
    constants = h.constants;
    channels = fits.channels;
    streams = fits.streams;
    instances = h.instances;
    model = model;
    is = is;
    each = h.each;
    few = h.few;
  },
  wider,
)

module _ (core : Core) (model : ProcDef) (w : World) (config : Config) (h : ConfigFits core model w config) where
  abbrev IsKinded : World → Instance → Type 0
  IsKinded v = KindedInstance core (exit_of model) v

  -- with an instance changed
  pub fits_with : (v : World) → Wider w v → v.instances ≡ w.instances → (p : ℕ) (i : Instance) → IsKinded v (settled i) → ConfigFits core model v (with_instance config p i)
  fits_with v wider same p i k = record {
    names = wider.names ∙ h.names;
    constants = h.constants;
    instances = same ∙ h.instances ∙ sym (length-set config.instances p (settled i));
    each = every_set (IsKinded v) p (settled i) config.instances k (λ n j e. instance_grows core (exit_of model) w v wider j (h.each n j e));
    few = subst (λ n. n ≤ MOST_INSTANCES) (sym (length-set config.instances p (settled i))) h.few;
  }

  -- and with new ones, which come last
  pub fits_more : (v : World) → Wider w v → (p : ℕ) (i : Instance) → IsKinded v (settled i) → (made : List Instance) → Every (λ j. IsKinded v (settled j)) made
      → v.instances ≡ length config.instances + length made → v.instances ≤ MOST_INSTANCES
      → ConfigFits core model v (record config { instances = slice_set config.instances p (settled i) ++ map settled made })
  fits_more v wider p i k made kinded count few = record {
    names = wider.names ∙ h.names;
    constants = h.constants;
    instances = count ∙ sym many;
    each = every_append (IsKinded v) (slice_set config.instances p (settled i)) (map settled made)
        (every_set (IsKinded v) p (settled i) config.instances k (λ n j e. instance_grows core (exit_of model) w v wider j (h.each n j e))) (every_map (λ j. IsKinded v (settled j)) (IsKinded v) settled (λ j is. is) made kinded);
    few = subst (λ n. n ≤ MOST_INSTANCES) (count ∙ sym many) few;
  }
    where
      many : length (slice_set config.instances p (settled i) ++ map settled made) ≡ length config.instances + length made
      many =
          let all = length-append (slice_set config.instances p (settled i)) (map settled made) in
          let old = length-set config.instances p (settled i) in
          let new = length-map made settled in
          omega (arith, all, old, new)
