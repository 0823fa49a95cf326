-- The values with which runs exit that an experiment makes.
use Rattle.std.proofs.Common.{◌≡◌, ℕ, List, Some, None, sym, subst}
use Rattle.chi_value.specs.declared.value.Value.{Value}
use Rattle.chi_core.specs.declared.program.Core.{Core}
use Rattle.chi_core.specs.declared.verdict.Verdict.{Verdict}
use Rattle.chi_core.specs.declared.verdict.Verdict.TheVariants.{Completed, Exit, Deadlock, Fault, OutOfSteps, Stopped}
use Rattle.chi_core.specs.Beginning.{start}
use Rattle.chi_core.specs.Kinds.{Kind, kinds_of}
use Rattle.chi_core.specs.Of.{nowhere, at_start, IsOf, AreOf}
use Rattle.chi_core.specs.Runs.{Told, Derivation}
use Rattle.chi_core.specs.Sound.{Sound}
use Rattle.chi_core.proofs.Worlds.{from_nowhere, are_grow}
use Rattle.chi_core_kinds.specs.Keeps.{BeginsAlways, KeepsKinded}
use Rattle.chi_core_kinds.proofs.Operations.{Laws}
use Rattle.chi_core_runs.specs.Picked.{PickedIsDerived}
use Rattle.chi_xper.specs.Conditions.{MayRun}
use Rattle.chi_xper.specs.Experiments.{exit_value}
use Rattle.chi_xper_runs.specs.Models.{with_model, told_with, IsOutcome, ExitsAreOfTheirKinds}
use Rattle.chi_xper_runs.proofs.ExitsChanges.{ExitFits}
use Rattle.chi_xper_runs.proofs.ExitsRuns.{derived_exits}
use Rattle.chi_xper_runs.proofs.OtherModel.{sound_there}

-- a verdict with a value that fits has one of the kind of the exits
value_fits : (names : List (List (List ℕ))) (T : Kind) (verdict : Verdict) (v : Value) → ExitFits names (Some T) verdict → exit_value verdict ≡ Some v → IsOf (nowhere names) T v
value_fits names T (Exit (Some x)) v fits e =
    let kinds : fits.0 ≡ T = cc (sym fits.1) in
    let values : x ≡ v = cc in
    subst (λ T. IsOf (nowhere names) T v) kinds (subst (IsOf (nowhere names) fits.0) values fits.2)
value_fits names T (Exit None) v fits e = absurd (cc)
value_fits names T Completed v fits e = absurd (cc)
value_fits names T Deadlock v fits e = absurd (cc)
value_fits names T (Fault kind name line) v fits e = absurd (cc)
value_fits names T OutOfSteps v fits e = absurd (cc)
value_fits names T Stopped v fits e = absurd (cc)

-- the arguments of a run that may be made are those of a beginning
pub begins_fitting : (core : Core) (number : ℕ) (exit : Kind) (arguments : List Value) (may : MayRun core number exit arguments) → AreOf (at_start core.names.kinds) arguments (kinds_of may.d.params)
begins_fitting core number exit arguments may =
    are_grow (nowhere core.names.kinds) (at_start core.names.kinds) (from_nowhere (at_start core.names.kinds)) arguments (kinds_of may.d.params) may.fit

pub exits_are_of_their_kinds : Laws → ((core : Core) → Sound core → BeginsAlways core) → ((core : Core) → Sound core → KeepsKinded core) → PickedIsDerived → ExitsAreOfTheirKinds
exits_are_of_their_kinds laws begins keeps derived core sound pick bound outcomes are number exit arguments may seed v e =
    let other : Core = with_model core number in
    let fine : Sound other = sound_there core number may.d may.is sound in
    let run : IsOutcome core pick bound number arguments seed (outcomes number arguments seed) = are number exit arguments may seed in
    let told : Told = told_with run.labels (outcomes number arguments seed) in
    let way : Derivation other (start other arguments seed None) bound told = derived other (start other arguments seed None) pick bound told run.picked in
    value_fits core.names.kinds exit (outcomes number arguments seed).verdict v
    (subst (λ o. ExitFits core.names.kinds o (outcomes number arguments seed).verdict) may.exits
    (derived_exits laws other fine (keeps other fine) may.d may.is (begins other fine) arguments (begins_fitting core number exit arguments may) seed None bound told way)) e
