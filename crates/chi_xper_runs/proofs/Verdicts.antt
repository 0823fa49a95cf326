-- The verdicts of runs that an experiment makes: each can be told, and none says that its run was stopped.
use Rattle.std.proofs.Common.{◌≡◌, ◌≢◌, ℕ, zero, suc, ℤ, true, List, [], ◌∷◌, Option, Some, None, refl, sym, subst, ◌∙◌}
use Rattle.std.specs.Prelude.{slice_get}
use Rattle.chi_core.specs.declared.fault.FaultKind.{FaultKind}
use Rattle.chi_core.specs.declared.label.Label.{Label}
use Rattle.chi_core.specs.declared.label.Label.TheVariants as label
use Rattle.chi_value.specs.declared.value.Value.{Value}
use Rattle.chi_core.specs.declared.program.Core.{Core}
use Rattle.chi_core.specs.declared.verdict.Verdict.TheVariants.{Stopped}
use Rattle.chi_core.specs.declared.view.View.{View}
use Rattle.chi_core.specs.Answer as answer
use Rattle.chi_core.specs.Answer.{Answer, Gives, Fails}
use Rattle.chi_core.specs.Beginning.{start}
use Rattle.chi_core.specs.Config.{Config, Instance, State, Running, Waiting, Joining, Finished, view_of}
use Rattle.chi_core.specs.Meeting.{offer_at, paired, woken, joined, next_due, may_reach, advanced}
use Rattle.chi_core.specs.Performing.{Change, Goes, Exits, performed}
use Rattle.chi_core.specs.Runs.{Told, Derivation}
use Rattle.chi_core.specs.Step as outcome
use Rattle.chi_core.specs.Step.{Outcome, Next, Over, after_step, no_fault, fault_in, name_of, line_of, first_done, local_in, local, taken, step}
use Rattle.chi_core.specs.Terms.{Term}
use Rattle.chi_core.specs.VerdictLine.{MayTell}
use Rattle.chi_core_runs.specs.Endings.{EachEndingIsTold}
use Rattle.chi_core_runs.specs.Picked.{PickedIsDerived}
use Rattle.chi_core_runs.specs.Time.{StaysInTime}
use Rattle.chi_xper_runs.specs.Models.{with_model, told_with, IsOutcome, VerdictsCanBeTold}
use Rattle.chi_xper_runs.proofs.Derived.{rests_so, StepSo, derived_so, begins_so}
use Rattle.chi_xper_runs.proofs.Exits.{begins_fitting}
use Rattle.chi_xper_runs.proofs.OtherModel.{sound_there}

-- no step stops a run

abbrev NotStopped : Outcome → Type 0
NotStopped (Next config text left) = Unit {0}
NotStopped (Over verdict) = verdict ≢ Stopped
NotStopped outcome.Spent = Unit {0}
NotStopped outcome.Amiss = Unit {0}

after_not : (fault : FaultKind → Outcome) → ((kind : FaultKind) → NotStopped (fault kind)) → (a : Answer Change) → NotStopped (after_step fault a)
after_not fault faults (Gives (Goes config text) view) = tt
after_not fault faults (Gives (Exits v) view) = λ e. cc
after_not fault faults (Fails kind) = faults kind
after_not fault faults answer.Spent = tt
after_not fault faults answer.Amiss = tt

fault_not : (name : Option (List ℕ)) (line : ℕ) (kind : FaultKind) → NotStopped (fault_in name line kind)
fault_not None line kind = tt
fault_not (Some name) line kind = λ e. cc

module _ (core : Core) (config : Config) (view : View) where
  first_not : (p : ℕ) (i : Instance) (term : Term) → NotStopped (first_done core config p i term view)
  first_not p i [] = tt
  first_not p i (item ∷ rest) = after_not (fault_in (name_of core i.definition) (line_of item)) (fault_not (name_of core i.definition) (line_of item)) (performed core config p (record i { term = rest }) item view)

  state_not : (p : ℕ) (i : Instance) (s : State) → NotStopped (local_in core config p i s view)
  state_not p i Running = first_not p i i.term
  state_not p i (Waiting offers) = tt
  state_not p i (Joining numbers) = tt
  state_not p i Finished = tt

  local_not : (p : ℕ) (o : Option Instance) → NotStopped (local core config p o view)
  local_not p None = tt
  local_not p (Some i) = state_not p i i.state

  taken_not : (l : Label) → NotStopped (taken core config l view)
  taken_not (label.Local p) = local_not p (slice_get config.instances p)
  taken_not (label.Pair p a q b) =
      let i = slice_get config.instances p in
      let j = slice_get config.instances q in
      after_not no_fault (λ kind. tt) (paired config p i (offer_at i a) q j (offer_at j b) view)
  taken_not (label.Wake p a) = let i = slice_get config.instances p in after_not no_fault (λ kind. tt) (woken config p i (offer_at i a) view)
  taken_not (label.Join p) = after_not no_fault (λ kind. tt) (joined config p (slice_get config.instances p) view)
  taken_not label.Advance = after_not no_fault (λ kind. tt) (advanced config (next_due config) view)

step_not : (core : Core) (config : Config) (l : Label) (left : ℕ) → NotStopped (step core config l left)
unfolding step
step_not core config l zero = tt
step_not core config l (suc left) = taken_not core config (view_of config left) l

-- nor is a run stopped that has no stopping time

abbrev Endless : Config → Type 0
Endless config = config.until ≡ None

stays_endless : StaysInTime → (core : Core) (config : Config) → Endless config → (l : Label) (left : ℕ) → StepSo core Endless (λ v. v ≢ Stopped) (step core config l left)
stays_endless stays core config endless l left = by_step (step core config l left) refl (step_not core config l left)
  where
    by_step : (o : Outcome) → step core config l left ≡ o → NotStopped o → StepSo core Endless (λ v. v ≢ Stopped) o
    by_step (Next new text rest) e fine = (stays core config l left new text rest e (subst (λ (u : Option ℤ). may_reach u config.clock ≡ true) (sym endless) refl)).0 ∙ endless
    by_step (Over verdict) e fine = fine
    by_step outcome.Spent e fine = tt
    by_step outcome.Amiss e fine = tt

endless_not : StaysInTime → (core : Core) (arguments : List Value) (seed bound : ℕ) (told : Told) → Derivation core (start core arguments seed None) bound told → told.ending.verdict ≢ Stopped
endless_not stays core arguments seed =
    derived_so core Endless (λ v. v ≢ Stopped) (λ config endless l may left. stays_endless stays core config endless l left)
    (λ config endless. rests_so (λ v. v ≢ Stopped) (λ e. cc) (λ e. cc) config (λ t is. absurd (let no : None ≡ Some t = sym endless ∙ is in cc)))
    (λ e. cc) (start core arguments seed None)
    (begins_so core (λ v. v ≢ Stopped) (λ kind name line e. cc) arguments seed None [] core.consts)

pub verdicts_can_be_told : PickedIsDerived → EachEndingIsTold → StaysInTime → VerdictsCanBeTold
verdicts_can_be_told derived tells stays core sound pick bound outcomes are number exit arguments may seed =
    let other : Core = with_model core number in
    let run : IsOutcome core pick bound number arguments seed (outcomes number arguments seed) = are number exit arguments may seed in
    let told : Told = told_with run.labels (outcomes number arguments seed) in
    let way : Derivation other (start other arguments seed None) bound told = derived other (start other arguments seed None) pick bound told run.picked in
    let tell : MayTell other told.ending.verdict = tells other (sound_there core number may.d may.is sound) (start other arguments seed None) (record {
      model = may.d;
      is = may.is;
      arguments = arguments;
      fit = begins_fitting core number exit arguments may;
      seed = seed;
      until = None;
      begins = refl;
    }) bound told way in
    (record { may = tell.may; within = tell.within }, endless_not stays other arguments seed bound told way)
