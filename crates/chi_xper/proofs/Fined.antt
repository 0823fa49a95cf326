-- In an experiment of a sound program nothing is amiss, and each run that it makes is allowed.
use Rattle.std.proofs.Common.{◌≡◌, ◌≢◌, ℕ, zero, suc, ◌-◌, Bool, false, List, [], ◌∷◌, map, length, Option, Some, None, refl, sym, subst, ◌∙◌, append-nil, arith}
use Rattle.std.proofs.lemmas.List.{length-map, length-replicate}
use Rattle.std.specs.Prelude.{slice_get}
use Rattle.std.specs.Option.{IsSomeAnd}
use Rattle.chi_types.specs.declared.ty.Ty.{Ty-F}
use Rattle.chi_value.specs.declared.value.Value.{Value}
use Rattle.chi_dist.specs.Draws.{stream_count}
use Rattle.chi_core.specs.declared.experiment.XperDef.{XperDef}
use Rattle.chi_core.specs.declared.op_name.OpName.TheVariants as op
use Rattle.chi_core.specs.declared.program.ConstDef.{ConstDef}
use Rattle.chi_core.specs.declared.program.Core.{Core}
use Rattle.chi_core.specs.declared.scene.Scene.{Scene}
use Rattle.chi_core.specs.declared.view.View.{View}
use Rattle.chi_core.specs.Answer.{Answer, Gives, Fails, then_do, gives, tick}
use Rattle.chi_core.specs.Answer as answer
use Rattle.chi_core.specs.Beginning.{constant_scene, constant_view}
use Rattle.chi_core.specs.Evaluation.{Run, eval}
use Rattle.chi_core.specs.Functions.{calls}
use Rattle.chi_core.specs.Kinded.{Held, KindedConstants}
use Rattle.chi_core.specs.Kinds.{Kind, Every, kinds_of, kind_of}
use Rattle.chi_core.specs.Of.{World, nowhere, IsOf, AreOf, none_of, one_of}
use Rattle.chi_core.specs.OperatorKinds.{widen_int}
use Rattle.chi_core.specs.Scopes.{Scope, function, experiment_scope}
use Rattle.chi_core.specs.SetSlots.{also_all, wholes}
use Rattle.chi_core.specs.Sound.{Sound, nothing_known}
use Rattle.chi_core.specs.SoundExperiments.{TakenAs, as_it_is, as_a_real}
use Rattle.chi_core.specs.Variables.{Variables, variables_of}
use Rattle.chi_core.proofs.Lists.{every_nil, every_cons}
use Rattle.chi_core.proofs.Worlds.{from_nowhere, value_grows}
use Rattle.chi_core_kinds.specs.Laws.{WellOf}
use Rattle.chi_core_kinds.specs.Well.{FitsView, Kept, Same, Well}
use Rattle.chi_core_kinds.proofs.Composing.{well_gives, well_then, well_tick, every_append}
use Rattle.chi_core_kinds.proofs.Expressions.{Provides}
use Rattle.chi_core_kinds.proofs.Functions.{SceneFits, provided, calls_well}
use Rattle.chi_core_kinds.proofs.Operations.{Laws}
use Rattle.chi_core_kinds.proofs.Targets.{is_spot_grows, well_store}
use Rattle.chi_core_kinds.proofs.Held.{held_grows}
use Rattle.chi_xper.specs.Conditions.{MayRun, AllowsAll, ExitsFit, IsFine}
use Rattle.chi_xper.specs.Experiments as experiments
use Rattle.chi_xper.specs.Experiments.{Outcome, Outcomes, End, Done, Fault, Spent, Amiss, Made, Told, over, after, unless_over, converted, taken, exit_value, came_back, made_by, outcome_of, did_then, goes, begins, experiment}
use Rattle.chi_xper.specs.Items.{Do, Term, Call, Did, On, Calls, line_of, done}
use Rattle.chi_xper.proofs.Kept.{CallFits, DidFits, well_done}
use Rattle.chi_xper.proofs.Plainly.{all_plainly}
use Rattle.chi_xper.proofs.Sounding.{SoundTerm, nothing_left, At, at_grows, term_grows, block_first}
use Rattle.chi_xper.proofs.Turns.{goes_none}

module _ (allows : ℕ → List Value → Type 0) where
  fine_over : (end : End) → end ≢ Amiss → IsFine allows (over end)
  fine_over end well = record { well = well; allowed = every_nil (λ made. allows made.model made.arguments) }

  fine_after : (runs : List Made) (text : List ℕ) (told : Told) → Every (λ made. allows made.model made.arguments) runs → IsFine allows told → IsFine allows (after runs text told)
  fine_after runs text told each fine =
      record { well = fine.well; allowed = every_append (λ made. allows made.model made.arguments) runs told.runs each fine.allowed }

-- an int as a real, where that is wanted, is of the kind that the target takes
well_converted : (laws : Laws) (w : World) (scene : Scene) (exit kind : Kind) (widen : Bool) (v : Value) → scene.names.kinds ≡ w.names → TakenAs exit widen kind → IsOf w exit v → WellOf w kind (converted widen v)
well_converted laws w scene _ _ _ v names (as_it_is T) is = well_gives w (λ u. IsOf u T) v is
well_converted laws w scene _ _ _ v names as_a_real is = laws.operators w scene names op.Widen (Ty-F.Int ∷ []) Ty-F.Real widen_int refl (v ∷ []) (one_of v [] Ty-F.Int [] is none_of)

module _ (laws : Laws) (core : Core) (fine : Sound core) (constants : List Value) (kinded : KindedConstants core constants) (seed : ℕ) (outcomes : Outcomes)
    (allows : ℕ → List Value → Type 0) (serves : AllowsAll core allows) (exits : ExitsFit core outcomes) (x : XperDef) where
  scope : Scope
  scope = experiment_scope core x

  here : Scene
  here = constant_scene core seed constants

  run : Run
  run = calls core.funcs here

  scene_fits : SceneFits core here
  unfolding here
  scene_fits = record {
    enumerations = λ k names e. (fine.enumerations k names e).values;
    names = refl;
    constants = λ number c e. there number c (kinded number c e);
  }
    where
      there : (number : ℕ) (c : ConstDef) → (v : Value) × (slice_get constants number ≡ Some v) × IsOf (nowhere core.names.kinds) (kind_of c.ty) v
          → IsSomeAnd (slice_get constants number) (IsOf (nowhere core.names.kinds) (kind_of c.ty))
      there number c (v, at, is) = subst (λ o. IsSomeAnd o (IsOf (nowhere core.names.kinds) (kind_of c.ty))) (sym at) is

  provides : Provides scope run here
  unfolding scope run
  provides = provided core (kinds_of x.slots) (function Ty-F.Void) here (calls core.funcs here) scene_fits (calls_well laws core fine here scene_fits)

  abbrev Fits : World → Did → Type 0
  Fits = DidFits scope

  -- what is told where so many turns are left
  abbrev from : ℕ → ℕ → Variables → Term → View → Told
  from = goes core constants seed outcomes

  -- after a run: the value of its exit, where it has one, is taken
  module _ (n : ℕ) (next_fine : (count : ℕ) (variables : Variables) (term : Term) (view : View) (w : World) → FitsView w view → w.names ≡ core.names.kinds → At scope w variables term
      → IsFine allows (from n count variables term view)) (line count : ℕ) (c : Call) (new : Variables) (term : Term) (now : View) (w : World) (fits : FitsView w now)
      (names : w.names ≡ core.names.kinds) (call : CallFits scope w c new term) where
    next : Variables → View → Told
    next after = from n (suc count) after term

    made : Made
    made = made_by seed count c

    outcome : Outcome
    outcome = outcome_of outcomes made

    may : MayRun core c.model call.exit c.arguments
    unfolding scope
    may = record {
      d = call.d;
      is = call.model;
      exits = call.exits;
      plain = call.plain;
      fit = subst (λ names. AreOf (nowhere names) c.arguments (kinds_of call.d.params)) names (all_plainly w c.arguments (kinds_of call.d.params) call.arguments call.plain);
    }

    value_fits : (v : Value) → exit_value outcome.verdict ≡ Some v → IsOf w call.exit v
    unfolding outcome made
    value_fits v e =
        value_grows (nowhere w.names) w (from_nowhere w) v call.exit
        (subst (λ names. IsOf (nowhere names) call.exit v) (sym names) (exits c.model call.exit c.arguments may (made_by seed count c).seed v e))

    well_taken : (v : Value) → IsOf w call.exit v → Well w (λ u. Held u scope (also_all (wholes (call.target ∷ [])) call.known)) (taken c.widen c.spot new v)
    unfolding here
    well_taken v is =
        well_then w (λ u. IsOf u call.taken) (λ u. Held u scope (also_all (wholes (call.target ∷ [])) call.known)) _
        (λ u wider same y of_it. well_store laws scope call.known u call.known new call.target call.taken c.spot y (λ k j. j)
        (is_spot_grows scope call.known w u wider call.target call.taken c.spot call.spot) of_it (held_grows w u wider scope call.known new call.held))
        (converted c.widen v) (well_converted laws w here call.exit call.taken c.widen v (sym names) call.takes is)

    by_answer : (it : Answer Variables) → Kept w (Same w (λ u. Held u scope (also_all (wholes (call.target ∷ [])) call.known))) it → IsFine allows (unless_over line (suc count) next it)
    unfolding next
    by_answer (Gives after later) kept =
        next_fine (suc count) after term later kept.world kept.fits (kept.wider.names ∙ names) (record {
          loop = call.loop;
          base = call.base;
          known = also_all (wholes (call.target ∷ [])) call.known;
          sound = term_grows scope w kept.world kept.wider call.loop call.base (also_all (wholes (call.target ∷ [])) call.known) term call.sound;
          held = kept.is.1;
        })
    by_answer (Fails kind) kept = fine_over allows (Fault kind line (suc count)) (λ e. absurd (cc))
    by_answer answer.Spent kept = fine_over allows (Spent (suc count)) (λ e. absurd (cc))
    by_answer answer.Amiss kept = absurd kept

    by_value : (o : Option Value) → exit_value outcome.verdict ≡ o → IsFine allows (came_back line count c new next now outcome o)
    by_value (Some v) e = by_answer (taken c.widen c.spot new v now) (well_taken v (value_fits v e) now fits)
    by_value None e = fine_over allows (experiments.Run count c.model outcome.verdict outcome.clock) (λ e. absurd (cc))

    fine_call : IsFine allows (did_then core constants seed outcomes line count (from n) (Calls c new term) now)
    unfolding next outcome made
    fine_call =
        fine_after allows (made ∷ []) outcome.output (came_back line count c new next now outcome (exit_value outcome.verdict))
        (every_cons (λ made. allows made.model made.arguments) made [] (serves c.model call.exit c.arguments may) (every_nil (λ made. allows made.model made.arguments)))
        (by_value (exit_value outcome.verdict) refl)

  by_did : (n : ℕ) → ((count : ℕ) (variables : Variables) (term : Term) (view : View) (w : World) → FitsView w view → w.names ≡ core.names.kinds → At scope w variables term
      → IsFine allows (from n count variables term view)) → (line count : ℕ) (w : World) → w.names ≡ core.names.kinds → (it : Answer Did) → Kept w (Same w Fits) it
      → IsFine allows (unless_over line count (did_then core constants seed outcomes line count (from n)) it)
  by_did n next_fine line count w names (Gives (On new term text) now) kept =
      fine_after allows [] text (from n count new term now) (every_nil (λ made. allows made.model made.arguments))
      (next_fine count new term now kept.world kept.fits (kept.wider.names ∙ names) kept.is.1)
  by_did n next_fine line count w names (Gives (Calls c new term) now) kept = fine_call n next_fine line count c new term now kept.world kept.fits (kept.wider.names ∙ names) kept.is.1
  by_did n next_fine line count w names (Fails kind) kept = fine_over allows (Fault kind line count) (λ e. absurd (cc))
  by_did n next_fine line count w names answer.Spent kept = fine_over allows (Spent count) (λ e. absurd (cc))
  by_did n next_fine line count w names answer.Amiss kept = absurd kept

  goes_fine : (n count : ℕ) (variables : Variables) (term : Term) (view : View) (w : World) → FitsView w view → w.names ≡ core.names.kinds → At scope w variables term
      → IsFine allows (from n count variables term view)
  unfolding goes run here scope
  goes_fine n count variables [] view w fits names at =
      let P : Told → Type 0 = IsFine allows in
      subst P (sym (goes_none core constants seed outcomes count variables view n)) (fine_over allows (Done count) (λ e. absurd (cc)))
  goes_fine zero count variables (i ∷ rest) view w fits names at = fine_over allows (Spent count) (λ e. absurd (cc))
  goes_fine (suc n) count variables (i ∷ rest) view w fits names at =
      by_did n (goes_fine n) (line_of i) count w names (then_do (tick view) (λ ticked. done core (eval run here variables) variables i rest))
      (well_then w (λ v x. Unit {0}) Fits (λ ticked. done core (eval run here variables) variables i rest)
      (λ v wider same ticked is. well_done laws scope run here provides variables v i rest (wider.names ∙ names) (at_grows scope w v wider variables (i ∷ rest) at))
      tick (well_tick w) view fits)

  -- from its beginning on
  begins_fine : (bound : ℕ) → slice_get core.xpers 0 ≡ Some x → IsFine allows (begins core constants seed outcomes bound (Some x))
  unfolding scope
  begins_fine bound there =
      goes_fine bound 0 (variables_of (length x.slots) []) (map Do x.body) (record constant_view { left = bound }) (nowhere core.names.kinds)
      (record { channels = refl; streams = let none : ℕ = 0 in length-replicate stream_count none; instances = refl }) refl
      (record { loop = false; base = nothing_known; known = nothing_known; sound = body; held = record { sized = sizes; each = λ slot known. absurd (cc) } })
    where
      w : World
      w = nowhere core.names.kinds

      body : SoundTerm scope (nowhere core.names.kinds) false nothing_known nothing_known (map Do x.body)
      body =
          subst (SoundTerm scope (nowhere core.names.kinds) false nothing_known nothing_known) (append-nil (map Do x.body))
          (block_first scope (nowhere core.names.kinds) false nothing_known nothing_known x.body [] (λ k j. j) (fine.experiments 0 x there).body
          (λ now within. nothing_left nothing_known now))

      sizes : length (variables_of (length x.slots) []) ≡ length (kinds_of x.slots)
      sizes =
          let none : Option Value = None in
          let unset = length-replicate (length x.slots - 0) none in
          let all : length (kinds_of x.slots) ≡ length x.slots = length-map x.slots kind_of in
          omega (arith, unset, all)

-- an experiment of a sound program, by a runner that allows and gives what it is to
pub experiment_fine : (laws : Laws) (core : Core) → Sound core → (constants : List Value) → KindedConstants core constants → (seed : ℕ) (outcomes : Outcomes) (allows : ℕ → List Value → Type 0)
    → AllowsAll core allows → ExitsFit core outcomes → slice_get core.xpers 0 ≢ None → (bound : ℕ) → IsFine allows (experiment core constants seed outcomes bound)
experiment_fine laws core fine constants kinded seed outcomes allows serves exits some bound = by_first (slice_get core.xpers 0) refl
  where
    by_first : (o : Option XperDef) → slice_get core.xpers 0 ≡ o → IsFine allows (begins core constants seed outcomes bound o)
    by_first None e = absurd (some e)
    by_first (Some x) e = begins_fine laws core fine constants kinded seed outcomes allows serves exits x bound e
