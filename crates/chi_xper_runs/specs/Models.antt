-- The runs of models that an experiment makes: each is the run that the policy picks, of the program with that model, with the whole
-- bound for itself and without a stopping time.
use Rattle.std.specs.Prelude.{◌≡◌, ◌≢◌, ℕ, ◌^◌, ◌<◌, ℤ, None, List}
use Rattle.chi_value.specs.declared.value.Value.{Value}
use Rattle.chi_core.specs.declared.label.Label.{Label}
use Rattle.chi_core.specs.declared.program.Core.{Core}
use Rattle.chi_core.specs.declared.verdict.Verdict.{Verdict}
use Rattle.chi_core.specs.declared.verdict.Verdict.TheVariants.{Stopped}
use Rattle.chi_core.specs.Beginning.{start}
use Rattle.chi_core.specs.Kinded.{KindedConstants}
use Rattle.chi_core.specs.Kinds.{Kind}
use Rattle.chi_core.specs.Picks.{Pick, IsLawful, Picked}
use Rattle.chi_core.specs.Runs.{Told}
use Rattle.chi_core.specs.Sound.{Sound}
use Rattle.chi_core.specs.VerdictLine.{MayTell}
use Rattle.chi_xper.specs.Conditions.{MayRun, ExitsFit}
use Rattle.chi_xper.specs.Experiments.{Outcome, Outcomes, Run, exit_value, experiment}

-- the program with the model of this number as the one that is run
abbrev pub with_model : Core → ℕ → Core
with_model core number = record core { model = number }

-- a run with these labels, of which that is told
abbrev pub told_with : List Label → Outcome → Told
told_with labels outcome = record { labels = labels; ending = record { verdict = outcome.verdict; clock = outcome.clock }; output = outcome.output }

-- that comes of the run of a model with these arguments and this seed
pub record IsOutcome (core : Core) (pick : Pick) (bound number : ℕ) (arguments : List Value) (seed : ℕ) (outcome : Outcome) : Type 0 where
  pub labels : List Label
  pub picked : Picked (with_model core number) (start (with_model core number) arguments seed None) pick bound (told_with labels outcome)

-- that comes of each run that an experiment may make
abbrev pub AreOutcomes : Core → Pick → ℕ → Outcomes → Type 0
AreOutcomes core pick bound outcomes =
    (number : ℕ) (exit : Kind) (arguments : List Value) → MayRun core number exit arguments
    → (seed : ℕ) → IsOutcome core pick bound number arguments seed (outcomes number arguments seed)

-- of a sound program something comes of each run, by a lawful policy
abbrev pub SomethingComes : Type 0
SomethingComes =
    (core : Core) → Sound core → (pick : Pick) → IsLawful pick → (bound : ℕ) → bound < 2 ^ 63 → (outcomes : Outcomes) × AreOutcomes core pick bound outcomes

-- where a run exits with a value, that is of the exit type of the model that was run
abbrev pub ExitsAreOfTheirKinds : Type 0
ExitsAreOfTheirKinds =
    (core : Core) → Sound core → (pick : Pick) (bound : ℕ) (outcomes : Outcomes) → AreOutcomes core pick bound outcomes → ExitsFit core outcomes

-- an experiment is one alone, whatever stands for the runs that it may not make
abbrev pub ExperimentIsOne : Type 0
ExperimentIsOne =
    (core : Core) → Sound core → (constants : List Value) → KindedConstants core constants → (seed : ℕ) (pick : Pick) (bound most : ℕ) (outcomes others : Outcomes)
    → AreOutcomes core pick most outcomes → AreOutcomes core pick most others
    → experiment core constants seed outcomes bound ≡ experiment core constants seed others bound

-- an outcome without a value of a run that may be made
pub record IsWithoutValue (core : Core) (outcomes : Outcomes) (model : ℕ) (verdict : Verdict) (clock : ℤ) : Type 0 where
  pub exit : Kind
  pub arguments : List Value
  pub may : MayRun core model exit arguments
  pub seed : ℕ
  pub ended : verdict ≡ (outcomes model arguments seed).verdict
  pub at : clock ≡ (outcomes model arguments seed).clock
  pub none : exit_value verdict ≡ None

-- where a run ends an experiment, it is one that may be made, and has no value
abbrev pub RunsEndWithoutValue : Type 0
RunsEndWithoutValue =
    (core : Core) → Sound core → (constants : List Value) → KindedConstants core constants → (seed : ℕ) (pick : Pick) (bound most : ℕ) (outcomes : Outcomes)
    → AreOutcomes core pick most outcomes → (number model : ℕ) (verdict : Verdict) (clock : ℤ)
    → (experiment core constants seed outcomes bound).end ≡ Run number model verdict clock → IsWithoutValue core outcomes model verdict clock

-- the verdict of each run that may be made can be told, and no run is stopped
abbrev pub VerdictsCanBeTold : Type 0
VerdictsCanBeTold =
    (core : Core) → Sound core → (pick : Pick) (bound : ℕ) (outcomes : Outcomes) → AreOutcomes core pick bound outcomes
    → (number : ℕ) (exit : Kind) (arguments : List Value) → MayRun core number exit arguments → (seed : ℕ)
    → MayTell core (outcomes number arguments seed).verdict × ((outcomes number arguments seed).verdict ≢ Stopped)
