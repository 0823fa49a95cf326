-- The step of an item in a kinded configuration of a sound program: where it ends the run with a value, that is of the kind of the model's exits.
use Rattle.std.proofs.Common.{◌≡◌, ℕ, zero, suc, Bool, true, [], ◌∷◌, Option, Some, None, refl, sym, subst}
use Rattle.std.specs.Prelude.{slice_get}
use Rattle.std.specs.Option.{IsSomeAnd}
use Rattle.chi_value.specs.declared.value.Value.{Value}
use Rattle.chi_core.specs.declared.expression.CExpr.{CExpr}
use Rattle.chi_core.specs.declared.label.Label.{Label}
use Rattle.chi_core.specs.declared.program.Core.{Core}
use Rattle.chi_core.specs.declared.statement.CStat.{CStat-F, out-CStat}
use Rattle.chi_core.specs.declared.view.View.{View}
use Rattle.chi_core.specs.Answer as answer
use Rattle.chi_core.specs.Answer.{Answer, Gives, Fails, Does}
use Rattle.chi_core.specs.Config.{Config, Instance, State, Running, Waiting, Joining, Finished, scene_of, run_of, value_in, view_of}
use Rattle.chi_core.specs.Kinded.{Held, KindedInstance, Kinded}
use Rattle.chi_core.specs.Kinds.{Kind, kind_of, is_plain_kind}
use Rattle.chi_core.specs.Of.{World, nowhere, IsOf}
use Rattle.chi_core.specs.Performing.{Change, exits_with, exited, performed}
use Rattle.chi_core.specs.Scopes.{Home, process, process_home, exit_of}
use Rattle.chi_core.specs.SetSlots.{Known}
use Rattle.chi_core.specs.Sound.{Sound, SoundProcess}
use Rattle.chi_core.specs.SoundParts.{SoundExit, without_value, with_value, MayStart, its_own, none}
use Rattle.chi_core.specs.SoundStatements as sound
use Rattle.chi_core.specs.SoundStatements.{SoundStat}
use Rattle.chi_core.specs.Standing.{term_of, is_within_loop}
use Rattle.chi_core.specs.Step.{first_done, local_in, local, name_of, line_of, fault_in, step}
use Rattle.chi_core.specs.Terms.{Term}
use Rattle.chi_core_kinds.specs.Well.{FitsView, Kept, Same}
use Rattle.chi_core_kinds.proofs.Expressions.{Provides, well_value}
use Rattle.chi_core_kinds.proofs.Functions.{SceneFits, provided, calls_well}
use Rattle.chi_core_kinds.proofs.Held.{held_less}
use Rattle.chi_core_kinds.proofs.Operations.{Laws}
use Rattle.chi_core_kinds.proofs.Standings.{Ready, nothing_left, a_statement, a_loop, a_walk, ready}
use Rattle.chi_core_kinds.proofs.Statements.{first_at}
use Rattle.chi_xper_runs.proofs.ExitsChanges.{IfGives, if_then, ChangeExits, Fitting, StepExits, exits_after, exits_fault, exits_taken, exits_stat, exits_turn, exits_with_value}
use Rattle.chi_xper_runs.proofs.ExitsPlain.{plain_value}

-- what is started with an exit of a kind is started by what has exits of that kind
exit_started : (model its : Option Kind) (T : Kind) → MayStart model its → its ≡ Some T → model ≡ Some T
exit_started _ _ T (its_own exit) e = e
exit_started _ _ T (none exit) e = absurd (cc)

-- what is given well is of its kind, and names nothing where that is plain
given_nowhere : (w : World) (T : Kind) → is_plain_kind T ≡ true → (a : Answer Value) → Kept w (Same w (λ v. IsOf v T)) a → IfGives (IsOf (nowhere w.names) T) a
given_nowhere w T plain (Gives x view) k = subst (λ names. IsOf (nowhere names) T x) k.wider.names (plain_value k.world x T plain k.is.1)
given_nowhere w T plain (Fails kind) k = tt
given_nowhere w T plain answer.Spent k = tt
given_nowhere w T plain answer.Amiss k = tt

-- instance p, which runs, in a kinded configuration of a sound program
module _ (laws : Laws) (core : Core) (fine : Sound core) (config : Config) (h : Kinded core config)
    (p : ℕ) (i : Instance) (k : KindedInstance core (exit_of h.model) h.world i) where
  abbrev home : Home
  home = process_home core k.d

  abbrev w : World
  w = h.world

  abbrev Fits : Answer Change → Type 0
  Fits = Fitting core.names.kinds (exit_of h.model)

  scene_fits : SceneFits core (scene_of core config)
  scene_fits = record {
    enumerations = λ n names e. (fine.enumerations n names e).values;
    names = refl;
    constants = λ number c e.
        let at = h.constants number c e in
        subst (λ o. IsSomeAnd o (IsOf (nowhere core.names.kinds) (kind_of c.ty))) (sym at.1) at.2;
  }

  provides : Provides home.scope (run_of core config) (scene_of core config)
  provides = provided core home.scope.slots home.scope.role (scene_of core config) (run_of core config) scene_fits (calls_well laws core fine (scene_of core config) scene_fits)

  body : SoundProcess core k.d
  body = fine.processes i.definition k.d k.is

  exit_role : (exit : Option Kind) → home.scope.role ≡ process exit → exit ≡ exit_of k.d
  exit_role exit e = cc (sym e)

  fits_exit : (known : Known) (e : Option CExpr) (exit : Option Kind) → SoundExit home.scope known e exit → exit ≡ exit_of k.d → Held w home.scope known i.variables
      → (view : View) → FitsView w view → Fits (exited core (value_in core config i.variables) e view)
  fits_exit known _ _ without_value its held view fits = tt
  fits_exit known _ _ (with_value e T has plain) its held view fits =
      if_then (IsOf (nowhere w.names) T) (ChangeExits core.names.kinds (exit_of h.model)) (exits_with core)
      (λ v now is. exits_with_value core.names.kinds (exit_of h.model) core v now (T, exit_started (exit_of h.model) (exit_of k.d) T k.exits (sym its), subst (λ names. IsOf (nowhere names) T v) h.names is))
      (value_in core config i.variables e view)
      (given_nowhere w T plain (value_in core config i.variables e view)
      (well_value laws home.scope (run_of core config) (scene_of core config) provides known i.variables e T has w (record { names = h.names; held = held }) view fits))

  -- the statement of an exit is sound
  the_exit : (loop : Bool) (known : Known) (line : ℕ) (e : Option CExpr) → SoundStat home.scope loop known (CStat-F.Exit line e) → SoundExit home.scope known e (exit_of k.d)
  the_exit _ _ _ _ (sound.exits loop known line e exit role has) = subst (SoundExit home.scope known e) (exit_role exit role) has

  -- each item that may be next, with what is left after it
  abbrev FirstFits : Term → Type 0
  FirstFits [] = Unit {0}
  FirstFits (item ∷ rest) = (view : View) → FitsView w view → Fits (performed core config p (record i { term = rest }) item view)

  fits_first : (known : Known) (term : Term) → Ready home w known term → Held w home.scope known i.variables → FirstFits term
  fits_first known _ nothing_left held = tt
  fits_first known _ (a_statement outer x rest frames place within walks) held = λ view fits.
      exits_stat core.names.kinds (exit_of h.model) core config p (record i { term = term_of rest frames }) (out-CStat x) view
      (λ line e is. fits_exit outer e (exit_of k.d)
      (the_exit (is_within_loop frames) outer line e (subst (SoundStat home.scope (is_within_loop frames) outer) is (first_at home body.home outer x rest frames place)))
      refl (held_less w home.scope outer known i.variables within held) view fits)
  fits_first known _ (a_loop line test block rest frames b walks) held = λ view fits. exits_turn core.names.kinds (exit_of h.model) core config p (record i { term = term_of rest frames }) _
  fits_first known _ (a_walk line slots elements container block rest frames b walks) held = λ view fits.
      exits_turn core.names.kinds (exit_of h.model) core config p (record i { term = term_of rest frames }) _

  fits_its : FirstFits i.term
  fits_its = fits_first k.at.known i.term (subst (Ready home w k.at.known) (sym k.at.left) (ready home w k.at.known k.at.rest k.at.frames k.at.place k.at.walks)) k.at.held

  fits_done : (term : Term) → FirstFits term → (view : View) → FitsView w view → StepExits core.names.kinds (exit_of h.model) (first_done core config p i term view)
  fits_done [] first view fits = tt
  fits_done (item ∷ rest) first view fits =
      exits_after core.names.kinds (exit_of h.model) (fault_in (name_of core i.definition) (line_of item)) (exits_fault core.names.kinds (exit_of h.model) (name_of core i.definition) (line_of item))
      (performed core config p (record i { term = rest }) item view) (first view fits)

  fits_in : (s : State) (view : View) → FitsView w view → StepExits core.names.kinds (exit_of h.model) (local_in core config p i s view)
  fits_in Running view fits = fits_done i.term fits_its view fits
  fits_in (Waiting offers) view fits = tt
  fits_in (Joining numbers) view fits = tt
  fits_in Finished view fits = tt

-- each step in a kinded configuration of a sound program
module _ (laws : Laws) (core : Core) (fine : Sound core) (config : Config) (h : Kinded core config) where
  fits_local : (p : ℕ) (view : View) → FitsView h.world view → (o : Option Instance) → slice_get config.instances p ≡ o → StepExits core.names.kinds (exit_of h.model) (local core config p o view)
  fits_local p view fits None e = tt
  fits_local p view fits (Some i) e = fits_in laws core fine config h p i (h.each p i e) i.state view fits

  -- where it ends the run with a value, that is of the kind of the model's exits
  pub fits_step : (l : Label) (left : ℕ) → StepExits core.names.kinds (exit_of h.model) (step core config l left)
  unfolding step
  fits_step l zero = tt
  fits_step l (suc left) =
      exits_taken core.names.kinds (exit_of h.model) core config (view_of config left)
      (λ p. fits_local p (view_of config left) (record { channels = h.channels; streams = h.streams; instances = h.instances }) (slice_get config.instances p) refl) l
