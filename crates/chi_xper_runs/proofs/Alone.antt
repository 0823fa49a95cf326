-- An experiment is one alone: what comes of the runs that it makes is so by its policy, and what stands for other runs doesn't count.
use Rattle.std.proofs.Common.{◌≡◌, ℕ, List, Option, Some, None, refl, ap}
use Rattle.std.specs.Prelude.{slice_get}
use Rattle.chi_value.specs.declared.value.Value.{Value}
use Rattle.chi_core.specs.declared.experiment.XperDef.{XperDef}
use Rattle.chi_core.specs.declared.program.Core.{Core}
use Rattle.chi_core.specs.Beginning.{start}
use Rattle.chi_core.specs.Kinds.{Kind}
use Rattle.chi_core.specs.Picks.{Pick}
use Rattle.chi_core_kinds.proofs.Operations.{Laws}
use Rattle.chi_core_runs.proofs.Picks.{picked-once}
use Rattle.chi_xper.specs.Conditions.{MayRun}
use Rattle.chi_xper.specs.Experiments.{Outcomes, begins}
use Rattle.chi_xper_runs.specs.Models.{with_model, told_with, AreOutcomes, ExitsAreOfTheirKinds, ExperimentIsOne}
use Rattle.chi_xper_runs.proofs.Allowed.{Allowed, begins_allowed}
use Rattle.chi_xper_runs.proofs.Outcomes.{outcome_in}
use Rattle.chi_xper_runs.proofs.Same.{goes_same}

-- of one run one thing comes
outcomes_agree : (core : Core) (pick : Pick) (most : ℕ) (outcomes others : Outcomes) → AreOutcomes core pick most outcomes → AreOutcomes core pick most others
    → (number : ℕ) (exit : Kind) (arguments : List Value) → MayRun core number exit arguments → (seed : ℕ) → outcomes number arguments seed ≡ others number arguments seed
outcomes_agree core pick most outcomes others are are_others number exit arguments may seed =
    let it = are number exit arguments may seed in
    let other = are_others number exit arguments may seed in
    ap outcome_in (picked-once (with_model core number) (start (with_model core number) arguments seed None) pick most (told_with it.labels (outcomes number arguments seed))
    (told_with other.labels (others number arguments seed)) it.picked other.picked)

-- each run that the experiment of a sound program makes may be made, so both give the same
pub experiment_one : Laws → ExitsAreOfTheirKinds → ExperimentIsOne
experiment_one laws exits core sound constants kinded seed pick bound most outcomes others are are_others = by_first (slice_get core.xpers 0) refl
  where
    by_first : (o : Option XperDef) → slice_get core.xpers 0 ≡ o → begins core constants seed outcomes bound o ≡ begins core constants seed others bound o
    by_first None e = refl
    by_first (Some x) e =
        goes_same (Allowed core) core constants seed outcomes others
        (λ number arguments may. outcomes_agree core pick most outcomes others are are_others number may.0 arguments may.1) bound _ _ _ _
        (begins_allowed laws exits core sound constants kinded seed pick bound most outcomes are x e).allowed
