-- What holds of the verdict of a derivation: by what holds of its configurations, of each step from them that ends it, and of each other way to end.
use Rattle.std.proofs.Common.{◌≡◌, ℕ, ℤ, suc, List, [], ◌∷◌, ◌++◌, Option, Some, None, Bool, true, false, cond, inl, inr, sym, subst, refl}
use Rattle.std.specs.Prelude.{codes, length, Contains}
use Rattle.chi_value.specs.declared.value.Value.{Value}
use Rattle.chi_core.specs.declared.fault.FaultKind.{FaultKind}
use Rattle.chi_core.specs.declared.label.Label.{Label}
use Rattle.chi_core.specs.declared.program.ConstDef.{ConstDef}
use Rattle.chi_core.specs.declared.program.Core.{Core}
use Rattle.chi_core.specs.declared.program.ProcDef.{ProcDef}
use Rattle.chi_core.specs.declared.verdict.Verdict.{Verdict}
use Rattle.chi_core.specs.declared.verdict.Verdict.TheVariants.{Completed, Deadlock, Fault, OutOfSteps, Stopped}
use Rattle.chi_core.specs.Answer as answer
use Rattle.chi_core.specs.Answer.{Answer, Gives, Fails}
use Rattle.chi_core.specs.Beginning as beginning
use Rattle.chi_core.specs.Beginning.{Beginning, Begins, Breaks, model_begins, constant_value, with_constant, begins_after}
use Rattle.chi_core.specs.Config.{Config}
use Rattle.chi_core.specs.Meeting.{next_due}
use Rattle.chi_core.specs.Options.{Ending, all_finished, stopped_at, at_rest, ending_of, enabled, ending}
use Rattle.chi_core.specs.Runs.{After, Runs, MayDerive, Told, Derivation}
use Rattle.chi_core.specs.Starting.{started_by}
use Rattle.chi_core.specs.Step as outcome
use Rattle.chi_core.specs.Step.{Outcome, Next, Over, step}

-- where nothing is enabled, all have finished, or nothing can happen any more, or not before the stopping time has passed
pub rests_so : (P : Verdict → Type 0) → P Completed → P Deadlock → (config : Config) → ((t : ℤ) → config.until ≡ Some t → P Stopped) → (end : Ending) → ending config ≡ Some end → P end.verdict
rests_so P completed deadlock config stopped end e = by_enabled (enabled config) e
  where
    by_stop : (t u : Option ℤ) → config.until ≡ u → P (stopped_at config t u).verdict
    by_stop (Some t) (Some u) is = stopped u is
    by_stop (Some t) None is = deadlock
    by_stop None u is = deadlock

    by_all : (b : Bool) → P (cond b (record { verdict = Completed; clock = config.clock }) (stopped_at config (next_due config) config.until)).verdict
    by_all true = completed
    by_all false = by_stop (next_due config) config.until refl

    by_enabled : (ls : List Label) → ending_of ls config ≡ Some end → P end.verdict
    by_enabled [] is =
        let same : at_rest config ≡ end = cc in
        subst (λ (x : Ending). P x.verdict) same (by_all (all_finished config))
    by_enabled (l ∷ ls) is = absurd (cc)

module _ (core : Core) (Holds : Config → Type 0) (P : Verdict → Type 0) where
  -- a step goes on so, or ends the run so
  abbrev pub StepSo : Outcome → Type 0
  StepSo (Next config text left) = Holds config
  StepSo (Over verdict) = P verdict
  StepSo outcome.Spent = Unit {0}
  StepSo outcome.Amiss = Unit {0}

  -- a run begins so, or a constant ends it so
  abbrev pub BeginsSo : Beginning → Type 0
  BeginsSo (Begins config) = Holds config
  BeginsSo (Breaks end) = P end.verdict
  BeginsSo beginning.Amiss = Unit {0}

  module _ (steps : (config : Config) → Holds config → (l : Label) → Contains (enabled config) l → (left : ℕ) → StepSo (step core config l left))
      (rests : (config : Config) → Holds config → (end : Ending) → ending config ≡ Some end → P end.verdict) (out : P OutOfSteps) where
    run_so : (labels : List Label) (turn : ℕ) (config : Config) (left : ℕ) (end : Ending) → Holds config → Runs MayDerive core turn config left labels end → P end.verdict
    unfolding Runs
    run_so [] turn config left end h (inl rest) = rests config h end rest
    run_so [] turn config left end h (inr cut) = subst (λ (x : Ending). P x.verdict) (sym cut.out_of_steps) out
    run_so (label ∷ labels) turn config left end h run =
        by_step (λ new rest good after. run_so labels (suc turn) new rest end good after) (step core config label left) (steps config h label run.0 left) run.1
      where
        by_step : ((new : Config) (rest : ℕ) → Holds new → Runs MayDerive core (suc turn) new rest labels end → P end.verdict)
            → (o : Outcome) → StepSo o → After (λ new rest. Runs MayDerive core (suc turn) new rest labels end) o config labels end → P end.verdict
        by_step more (Next new text rest) good after = more new rest good after
        by_step more (Over verdict) good after = subst (λ (x : Ending). P x.verdict) (sym after.1) good
        by_step more outcome.Spent good after = absurd after
        by_step more outcome.Amiss good after = absurd after

    -- so is the verdict of each derivation that begins so
    pub derived_so : (b : Beginning) → BeginsSo b → (bound : ℕ) (told : Told) → Derivation core b bound told → P told.ending.verdict
    derived_so (Begins config) h bound told run = run_so told.labels 0 config bound told.ending h run.0
    derived_so (Breaks end) h bound told run = subst (λ (t : Told). P t.ending.verdict) (sym run) h
    derived_so beginning.Amiss h bound told run = absurd run

-- a run begins with its stopping time, if it has one, or a fault in a constant ends it
module _ (core : Core) (P : Verdict → Type 0) (faults : (kind : FaultKind) (name : List ℕ) (line : ℕ) → P (Fault kind name line))
    (arguments : List Value) (seed : ℕ) (until : Option ℤ) where
  abbrev So : Beginning → Type 0
  So = BeginsSo core (λ config. config.until ≡ until) P

  pub begins_so : (values : List Value) (cs : List ConstDef) → So (begins_after core arguments seed until values cs)
  begins_so values [] = by_model (started_by core.procs core.model (length arguments))
    where
      by_model : (o : Option ProcDef) → So (model_begins seed until arguments values core.model o)
      by_model None = tt
      by_model (Some d) = refl
  begins_so values (c ∷ cs) = by_value (λ more. begins_so more cs) (constant_value core seed values c)
    where
      by_value : ((more : List Value) → So (begins_after core arguments seed until more cs))
          → (m : Answer Value) → So (with_constant core arguments seed until (λ more. begins_after core arguments seed until more cs) values c m)
      by_value later (Gives v view) = later (values ++ v ∷ [])
      by_value later (Fails kind) = faults kind (codes "const") c.line
      by_value later answer.Spent = tt
      by_value later answer.Amiss = tt
