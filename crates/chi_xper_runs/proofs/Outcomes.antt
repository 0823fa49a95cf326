-- Something comes of each run that an experiment of a sound program may make.
use Rattle.std.proofs.Common.{◌≡◌, ℕ, List, None, refl, sym, subst}
use Rattle.chi_value.specs.declared.value.Value.{Value}
use Rattle.chi_core.specs.declared.program.Core.{Core}
use Rattle.chi_core.specs.Beginning.{Beginning, start}
use Rattle.chi_core.specs.Kinds.{Kind, kinds_of}
use Rattle.chi_core.specs.Of.{at_start, nowhere}
use Rattle.chi_core.specs.Picks.{Picked}
use Rattle.chi_core.specs.Runs.{Told}
use Rattle.chi_core.proofs.Worlds.{from_nowhere, are_grow}
use Rattle.chi_core_runs.specs.Picked.{IsBeginning, PicksOnly, PickedAlways}
use Rattle.chi_xper.specs.Conditions.{MayRun}
use Rattle.chi_xper.specs.Experiments.{Outcome}
use Rattle.chi_xper_runs.specs.Models.{with_model, AreOutcomes, SomethingComes}
use Rattle.chi_xper_runs.proofs.Computed.{computed, computed_is}
use Rattle.chi_xper_runs.proofs.OtherModel.{sound_there}

-- what is told of a run, as it comes to an experiment
abbrev pub outcome_in : Told → Outcome
outcome_in told = record { output = told.output; verdict = told.ending.verdict; clock = told.ending.clock }

-- a run that an experiment may make begins so
begins_there : (core : Core) (number : ℕ) (exit : Kind) (arguments : List Value) → MayRun core number exit arguments → (seed : ℕ)
    → IsBeginning (with_model core number) (start (with_model core number) arguments seed None)
begins_there core number exit arguments may seed = record {
  model = may.d;
  is = may.is;
  arguments = arguments;
  fit = are_grow (nowhere core.names.kinds) (at_start core.names.kinds) (from_nowhere (at_start core.names.kinds)) arguments (kinds_of may.d.params) may.fit;
  seed = seed;
  until = None;
  begins = refl;
}

-- what is computed of each run comes of it
pub something_comes : PickedAlways → SomethingComes
something_comes always core fine pick lawful bound small =
    (λ number arguments seed. outcome_in (computed (with_model core number) pick bound (start (with_model core number) arguments seed None)), comes)
  where
    comes : AreOutcomes core pick bound (λ number arguments seed. outcome_in (computed (with_model core number) pick bound (start (with_model core number) arguments seed None)))
    comes number exit arguments may seed =
        let there : Core = with_model core number in
        let from : Beginning = start there arguments seed None in
        let r : (told : Told) × PicksOnly there from pick bound told
        = always there (sound_there core number may.d may.is fine) from (begins_there core number exit arguments may seed) pick lawful bound small in
        let same : computed there pick bound from ≡ r.0
        = computed_is there pick from bound r.0 r.1.0 in
        record { labels = (computed there pick bound from).labels; picked = subst (λ (told : Told). Picked there from pick bound told) (sym same) r.1.0 }
