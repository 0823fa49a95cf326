-- Starting processes: the new instances are kinded, and so is what is told of them.
use Rattle.std.proofs.Common.{◌≡◌, ◌++◌, ◌+◌, ◌<◌, ◌≤◌, ℕ, Bool, true, false, nat_lt, eq-eqb, ltb-true, cond, List, [], ◌∷◌, map, length, Option, Some, None, refl, sym, ap, subst, ◌∙◌, arith}
use Rattle.std.proofs.lemmas.List.{length-append, length-map}
use Rattle.std.specs.Prelude.{slice_get}
use Rattle.std.specs.Option.{option_and_then}
use Rattle.chi_types.specs.declared.ty.Ty.{Ty-F}
use Rattle.chi_value.specs.declared.value.Value.{Value, out-Value}
use Rattle.chi_value.specs.declared.value.Value.TheVariants as value
use Rattle.chi_core.specs.declared.element.CElem.{CElem, CElem-F, out-CElem, roll-CElem, roll-out-CElem}
use Rattle.chi_core.specs.declared.element.CElem.TheVariants as element
use Rattle.chi_core.specs.declared.expression.CExpr.{CExpr}
use Rattle.chi_core.specs.declared.limits.TheConstants.{MOST_INSTANCES}
use Rattle.chi_core.specs.declared.program.Core.{Core}
use Rattle.chi_core.specs.declared.program.ProcDef.{ProcDef}
use Rattle.chi_core.specs.declared.scene.Scene.{Scene}
use Rattle.chi_core.specs.declared.target.CTarget.{CTarget}
use Rattle.chi_core.specs.declared.fault.FaultKind.TheVariants.{TooManyInstances}
use Rattle.chi_core.specs.Answer.{Gives, Fails, Does, then_do, wanted, in_turn, through}
use Rattle.chi_core.specs.Config.{Instance, new_instance, settled}
use Rattle.chi_core.specs.Evaluation.{Run, Evaluates, eval}
use Rattle.chi_core.specs.Kinded.{Held, KindedInstance}
use Rattle.chi_core.specs.Kinds.{Kind, kind_of, kinds_of, Every}
use Rattle.chi_core.specs.Of.{World, Wider, IsOf, Of, of_instance, AreOf}
use Rattle.chi_core.specs.Reading.{elements_of}
use Rattle.chi_core.specs.Scopes.{Scope, exit_of}
use Rattle.chi_core.specs.SetSlots.{Known, also_all, whole_or}
use Rattle.chi_core.specs.Sound.{Sound}
use Rattle.chi_core.specs.SoundExpressions.{HaveKinds}
use Rattle.chi_core.specs.SoundParts as sound
use Rattle.chi_core.specs.SoundParts.{MayStart, its_own, none, TakesInstance, SlotsTake, SoundElements, no_element, one_element, SoundElement}
use Rattle.chi_core.specs.Spots.{Spot, spot_of, store}
use Rattle.chi_core.specs.Starting.{Started, taking, started_by, numbered, told, made_by, told_at, makes, unwound, starts, all_started}
use Rattle.chi_core.specs.Variables.{Variables, bound}
use Rattle.chi_core.proofs.Lists.{every_nil, every_cons}
use Rattle.chi_core.proofs.Started.{starts_make, starts_unwind}
use Rattle.chi_core.proofs.Worlds.{wider_still, value_grows, are_grow}
use Rattle.chi_core_kinds.specs.Well.{Kept, Grows, Same, Well}
use Rattle.chi_core_kinds.proofs.Composing.{grows_gives, grows_giving, grows_weaker, grows_then, makes_then, well_gives, well_giving, grows_through, every_append}
use Rattle.chi_core_kinds.proofs.Expressions.{Provides, Reads, reads_grow, well_some, well_value, well_values}
use Rattle.chi_core_kinds.proofs.Operations.{Laws}
use Rattle.chi_core_kinds.proofs.Functions.{are_many}
use Rattle.chi_core_kinds.proofs.Held.{within_all, held_grows, held_less, held_bound, elements_fit}
use Rattle.chi_core_kinds.proofs.Instances.{instance_grows, kinded_new}
use Rattle.chi_core_kinds.proofs.Targets.{IsSpot, is_spot_grows, well_store, well_spot}

-- what is started by what may be started may be
may_start_on : (a b c : Option Kind) → MayStart a b → MayStart b c → MayStart a c
may_start_on _ _ c (its_own a) h = h
may_start_on _ _ _ (none a) (its_own _) = none a
may_start_on _ _ _ (none a) (none _) = none a

-- the process is found where it takes so many arguments
pub process_found : (core : Core) (process : ℕ) (d : ProcDef) → slice_get core.procs process ≡ Some d → (w : World) (xs : List Value) → AreOf w xs (kinds_of d.params)
    → started_by core.procs process (length xs) ≡ Some d
process_found core process d e w xs are =
    ap (option_and_then (taking (length xs))) e ∙ ap (λ b. cond b (Some d) None) (eq-eqb (length xs) (length d.params) (are_many w xs (kinds_of d.params) are ∙ length-map d.params kind_of))

-- one more instance
abbrev with_instance_more : World → World
with_instance_more w = record w { instances = w.instances + 1 }

wider_by_one : (w : World) → Wider w (with_instance_more w)
wider_by_one w = record { names = refl; carried = λ n t e. e; instances = omega arith }

-- the number of a new instance
record IsNew (before : ℕ) (w : World) (number : ℕ) : Type 0 where
  last : number < w.instances
  count : w.instances ≡ before + 1
  few : w.instances ≤ MOST_INSTANCES

well_numbered : (w : World) → Grows w (IsNew w.instances) numbered
well_numbered w view fits = by_room (nat_lt view.instances MOST_INSTANCES) refl
  where
    by_room : (b : Bool) → nat_lt view.instances MOST_INSTANCES ≡ b → Kept w (IsNew w.instances) (numbered view)
    by_room false e = subst (λ b. Kept w (IsNew w.instances) (cond b (Gives view.instances (record view { instances = view.instances + 1 })) (Fails TooManyInstances))) (sym e) tt
    by_room true e = subst (λ b. Kept w (IsNew w.instances) (cond b (Gives view.instances (record view { instances = view.instances + 1 })) (Fails TooManyInstances))) (sym e) (record {
      world = with_instance_more w;
      wider = wider_by_one w;
      fits = record { channels = fits.channels; streams = fits.streams; instances = ap (λ n. n + 1) fits.instances };
      is = let same : w.instances ≡ view.instances = fits.instances in let l : view.instances < MOST_INSTANCES = ltb-true view.instances MOST_INSTANCES e in
          record { last = omega (arith, same); count = refl; few = omega (arith, same, l) };
    })

-- a new instance is kinded once it is settled
abbrev IsKinded : Core → Option Kind → World → Instance → Type 0
IsKinded core model w i = KindedInstance core model w (settled i)

module _ (scope : Scope) (base : ℕ) (model : Option Kind) (known : Known) where
  -- the variables hold what counts as set, and the new instances are kinded
  pub record StartFits (w : World) (s : Started) : Type 0 where
    pub of_program : w.names ≡ scope.core.names.kinds
    pub held : Held w scope known s.variables
    pub each : Every (IsKinded scope.core model w) s.made
    pub count : w.instances ≡ base + length s.made
    pub few : w.instances ≤ MOST_INSTANCES

  start_grows : (w v : World) → Wider w v → v.instances ≡ w.instances → (s : Started) → StartFits w s → StartFits v s
  start_grows w v wider same s h = record {
    of_program = wider.names ∙ h.of_program;
    held = held_grows w v wider scope known s.variables h.held;
    each = λ k i e. instance_grows scope.core model w v wider (settled i) (h.each k i e);
    count = same ∙ h.count;
    few = subst (λ n. n ≤ MOST_INSTANCES) (sym same) h.few;
  }

  reads : (w : World) (s : Started) → StartFits w s → Reads w scope known s.variables
  reads w s h = record { names = h.of_program; held = h.held }

module _ (laws : Laws) (scope : Scope) (fine : Sound scope.core) (run : Run) (scene : Scene) (provides : Provides scope run scene) (base : ℕ)
    (model its : Option Kind) (may : MayStart model its) where
  abbrev value_in : Variables → Evaluates
  value_in variables = eval run scene variables

  abbrev core : Core
  core = scope.core

  abbrev Fits : Known → World → Started → Type 0
  Fits = StartFits scope base model

  module _ (known : Known) where
    -- where the number of a new instance goes, if it goes anywhere
    data TellsAt (w : World) : Option Spot → Type 0 where
      to_none : TellsAt w None
      to_spot : (t : CTarget) (spot : Spot) → IsSpot scope known w t Ty-F.Inst spot → TellsAt w (Some spot)

    tells_grow : (w v : World) → Wider w v → (spot : Option Spot) → TellsAt w spot → TellsAt v spot
    tells_grow w v wider _ to_none = to_none
    tells_grow w v wider _ (to_spot t spot is) = to_spot t spot (is_spot_grows scope known w v wider t Ty-F.Inst spot is)

    well_told_at : (variables : Variables) (target : Option CTarget) → TakesInstance scope known target → (w : World) → Reads w scope known variables → Well w TellsAt (told_at value_in core.procs variables target)
    unfolding told_at
    well_told_at variables _ sound.nowhere w r = well_gives w TellsAt None to_none
    well_told_at variables _ (sound.target t takes) w r =
        well_giving w (λ v. IsSpot scope known v t Ty-F.Inst) TellsAt Some (λ v wider spot is. to_spot t spot is) (spot_of (value_in variables) t)
        (well_spot laws scope known run scene provides variables t Ty-F.Inst takes w r)

    is_instance : (w : World) (number : ℕ) → number < w.instances → IsOf w Ty-F.Inst (value.Inst (Some number))
    is_instance w number l = subst (λ x. Of w x Ty-F.Inst) (sym (value.outs-Inst (Some number))) (of_instance number l)

    well_told : (spot : Option Spot) (number : ℕ) (s : Started) (w : World) → TellsAt w spot → number < w.instances → Fits known w s → Grows w (Fits known) (told spot number s)
    well_told _ number s w to_none l h = grows_gives w (Fits known) s h
    well_told _ number s w (to_spot t spot is) l h =
        let now : Known = also_all (whole_or t.steps t.slot []) known in
        grows_giving w (Same w (λ v. Held v scope now)) (Fits known) _
        (λ v wider variables both.
        let grown : Fits known v s = start_grows scope base model known w v wider both.0 s h in
        record {
          of_program = grown.of_program;
          held = held_less v scope known now variables (within_all (whole_or t.steps t.slot []) known) both.1;
          each = grown.each;
          count = grown.count;
          few = grown.few;
        })
        (store (spot, value.Inst (Some number)) s.variables)
        (well_store laws scope known w known s.variables t Ty-F.Inst spot (value.Inst (Some number)) (λ k j. j) is (is_instance w number l) h.held)

    well_made : (process : ℕ) (d : ProcDef) (values : List Value) (spot : Option Spot) (s : Started) (w : World) → slice_get core.procs process ≡ Some d → MayStart its (exit_of d)
        → AreOf w values (kinds_of d.params) → TellsAt w spot → Fits known w s → Grows w (Fits known) (made_by process d values spot s)
    unfolding made_by
    well_made process d values spot s w there starts are tells h =
        let more : Started = record s { made = s.made ++ new_instance process d values ∷ [] } in
        makes_then w (IsNew w.instances) (Fits known) (λ number. told spot number more)
        (λ v wider number is. well_told spot number more v (tells_grow w v wider spot tells) is.last (record {
          of_program = wider.names ∙ h.of_program;
          held = held_grows w v wider scope known s.variables h.held;
          each = every_append (IsKinded core model v) s.made (new_instance process d values ∷ []) (λ k i e. instance_grows core model w v wider (settled i) (h.each k i e))
              (every_cons (IsKinded core model v) (new_instance process d values) []
              (kinded_new core model v process d values there (fine.processes process d there) (may_start_on model its (exit_of d) may starts) (are_grow w v wider values (kinds_of d.params) are))
              (every_nil (IsKinded core model v)));
          count = let l = length-append s.made (new_instance process d values ∷ []) in let c = is.count in let b = h.count in omega (arith, l, c, b);
          few = is.few;
        }))
        numbered (well_numbered w)

    well_makes : (target : Option CTarget) (process : ℕ) (arguments : List CExpr) (d : ProcDef) → slice_get core.procs process ≡ Some d → MayStart its (exit_of d)
        → HaveKinds scope known arguments (kinds_of d.params) → TakesInstance scope known target → (s : Started) (w : World) → Fits known w s
        → Grows w (Fits known) (makes value_in core.procs target process arguments s)
    unfolding makes
    well_makes target process arguments d there starts h takes s w fit =
        grows_then w (λ v xs. AreOf v xs (kinds_of d.params)) (Fits known) _
        (λ v wider1 s1 xs are. grows_then v TellsAt (Fits known) _
        (λ u wider2 s2 spot tells.
        let are_u : AreOf u xs (kinds_of d.params) = are_grow v u wider2 xs (kinds_of d.params) are in
        let fit_u : Fits known u s = start_grows scope base model known w u (wider_still w v u wider1 wider2) (s2 ∙ s1) s fit in
        subst (λ o. Grows u (Fits known) (λ view. then_do (wanted o view) (λ d. made_by process d xs spot s))) (sym (process_found core process d there u xs are_u))
        (well_made process d xs spot s u there starts are_u tells fit_u))
        (told_at value_in core.procs s.variables target) (well_told_at s.variables target takes v (reads_grow w v wider1 scope known s.variables (reads scope base model known w s fit))))
        (in_turn (map (value_in s.variables) arguments)) (well_values laws scope run scene provides known s.variables arguments (kinds_of d.params) h w (reads scope base model known w s fit))

  -- what starts elements does well in each wider world
  abbrev StartsWell : Known → (Started → Does Started) → Type 0
  StartsWell known f = (w : World) (s : Started) → Fits known w s → Grows w (Fits known) (f s)

  abbrev elements_start : List CElem → Started → Does Started
  elements_start elements = through (λ f. f) (map (starts value_in core.procs) elements)

  well_unwound : (known : Known) (slots : List ℕ) (T : Kind) (elements : List CElem) → SlotsTake scope slots T → StartsWell (also_all slots known) (elements_start elements) → (x : Value) (w : World)
      → IsOf w T x → (s : Started) → Fits known w s → Grows w (Fits known) (unwound value_in core.procs slots (map (starts value_in core.procs) elements) x s)
  well_unwound known slots T elements take well x w is s fit =
      grows_then w (λ v. Held v scope (also_all slots known)) (Fits known) _
      (λ v wider same variables held.
      let grown : Fits known v s = start_grows scope base model known w v wider same s fit in
      grows_weaker v (Fits (also_all slots known)) (Fits known)
      (λ u after h. record {
        of_program = h.of_program;
        held = held_less u scope known (also_all slots known) after.variables (within_all slots known) h.held;
        each = h.each;
        count = h.count;
        few = h.few;
      })
      (elements_start elements (record s { variables = variables }))
      (well v (record s { variables = variables }) (record {
        of_program = grown.of_program;
        held = held;
        each = grown.each;
        count = grown.count;
        few = grown.few;
      })))
      (wanted (bound slots x s.variables))
      (well_some w (λ v. Held v scope (also_all slots known)) (bound slots x s.variables) (held_bound w scope slots T x take is known s.variables fit.held))

  makes_by : (e : CElem) (target : Option CTarget) (process : ℕ) (arguments : List CExpr) → out-CElem e ≡ CElem-F.Make target process arguments → e ≡ element.Make target process arguments
  makes_by e target process arguments h = sym (roll-out-CElem e) ∙ ap roll-CElem h ∙ element.rolls-Make target process arguments

  unwinds_by : (e : CElem) (slots : List ℕ) (container : CExpr) (elements : List CElem) → out-CElem e ≡ CElem-F.Unwind slots container elements → e ≡ element.Unwind slots container elements
  unwinds_by e slots container elements h = sym (roll-out-CElem e) ∙ ap roll-CElem h ∙ element.rolls-Unwind slots container elements

  -- the elements of a container, for each of which others are started
  abbrev over_elements : List ℕ → CExpr → List CElem → Started → Does Started
  over_elements slots container elements s view =
      then_do (value_in s.variables container view) (λ x now.
      then_do (wanted (elements_of x) now) (λ xs. through (unwound value_in core.procs slots (map (starts value_in core.procs) elements)) xs s))

  abbrev Layer : Known → CElem-F CElem → Type 0
  Layer known (CElem-F.Make target process arguments) = StartsWell known (makes value_in core.procs target process arguments)
  Layer known (CElem-F.Unwind slots container elements) = StartsWell known (over_elements slots container elements)

  by_layer : (known : Known) (e : CElem) (layer : CElem-F CElem) → out-CElem e ≡ layer → Layer known layer → StartsWell known (starts value_in core.procs e)
  by_layer known e (CElem-F.Make target process arguments) h well w s fit view fits =
      subst (Kept w (Fits known)) (sym (starts_make value_in core.procs s view e target process arguments (makes_by e target process arguments h))) (well w s fit view fits)
  by_layer known e (CElem-F.Unwind slots container elements) h well w s fit view fits =
      subst (Kept w (Fits known)) (sym (starts_unwind value_in core.procs s view e slots container elements (unwinds_by e slots container elements h))) (well w s fit view fits)

  mutual
    well_elements : (known : Known) (elements : List CElem) → SoundElements scope its known elements → StartsWell known (elements_start elements)
    well_elements _ _ (no_element known) = λ w s fit. grows_gives w (Fits known) s fit
    well_elements _ _ (one_element known e es h more) = λ w s fit.
        makes_then w (Fits known) (Fits known) (elements_start es) (λ v wider after fit'. well_elements known es more v after fit') (starts value_in core.procs e s)
        (by_layer known e (out-CElem e) refl (well_element known (out-CElem e) h) w s fit)

    well_element : (known : Known) (layer : CElem-F CElem) → SoundElement scope its known layer → Layer known layer
    well_element _ _ (sound.makes known target process arguments d there starts h takes) = λ w s fit. well_makes known target process arguments d there starts h takes s w fit
    well_element _ _ (sound.unwinds known slots container elements over more) = λ w s fit.
        grows_then w (λ v. IsOf v over.kind) (Fits known) _
        (λ v wider1 s1 x is. grows_then v (λ u. Every (IsOf u over.element)) (Fits known) _
        (λ u wider2 s2 xs each.
        grows_through (Fits known) (unwound value_in core.procs slots (map (starts value_in core.procs) elements)) u xs
        (λ z wider3 k y e after fit'. well_unwound known slots over.element elements over.take (well_elements (also_all slots known) elements more) y z
        (value_grows u z wider3 y over.element (each k y e)) after fit')
        s (start_grows scope base model known w u (wider_still w v u wider1 wider2) (s2 ∙ s1) s fit))
        (wanted (elements_of x)) (well_some v (λ u. Every (IsOf u over.element)) (elements_of x) (elements_fit v scope over.kind over.element (out-Value x) over.over is)))
        (value_in s.variables container) (well_value laws scope run scene provides known s.variables container over.kind over.has_kind w (reads scope base model known w s fit))

  through_map : {X : Type 0} (f : X → Started → Does Started) (xs : List X) → through (λ g. g) (map f xs) ≡ through f xs
  through_map f [] = refl
  through_map f (x ∷ xs) = λ i s view. then_do (f x s view) (through_map f xs i)

  pub well_started : (known : Known) (variables : Variables) (elements : List CElem) → SoundElements scope its known elements → (w : World) → Reads w scope known variables → w.instances ≡ base
      → base ≤ MOST_INSTANCES → Grows w (Fits known) (all_started value_in core.procs variables elements)
  well_started known variables elements h w r count few =
      let s : Started = record { variables = variables; made = [] } in
      subst (λ f. Grows w (Fits known) (f s)) (through_map (starts value_in core.procs) elements)
      (well_elements known elements h w s (record {
        of_program = r.names;
        held = r.held;
        each = every_nil (IsKinded core model w);
        count = omega (arith, count);
        few = omega (arith, count, few);
      }))
