-- Runs of models by machines. Private to proofs.
use Rattle.std.specs.Prelude.{◌≡◌, ℕ, ◌^◌, ◌<◌, List, None}
use Rattle.chi_code.specs.declared.code.Code.{Code}
use Rattle.chi_code.specs.Codes.{Codes}
use Rattle.chi_core.specs.declared.program.Core.{Core}
use Rattle.chi_core.specs.Beginning.{start}
use Rattle.chi_core.specs.Kinds.{Kind}
use Rattle.chi_core.specs.Options.{Ending}
use Rattle.chi_core.specs.Picks.{Pick}
use Rattle.chi_core.specs.Sound.{Sound}
use Rattle.chi_engine.specs.Courses.{Course}
use Rattle.chi_value.specs.declared.value.Value.{Value}
use Rattle.chi_xper.specs.Conditions.{MayRun}
use Rattle.chi_xper.specs.Experiments.{Outcome, Outcomes}
use Rattle.chi_xper_runs.specs.Models.{with_model}
use Rattle.chi_xper_runs.proofs.Computed.{computed}
use Rattle.chi_xper_runs.proofs.Outcomes.{outcome_in}

-- A run that machines may make: the code is that of the program but for the model that it names, and the bound is within
-- what is counted.
pub record MayBeMade (core : Core) (code : Code) (bound number : ℕ) (arguments : List Value) : Type 0 where
  pub exit : Kind
  pub may : MayRun core number exit arguments
  pub sound : Sound core
  pub codes : Codes (with_model core code.model) code
  pub bounded : bound < 2 ^ 63

-- what comes of each run, by its policy and its bound
abbrev pub outcomes_by : Core → Pick → ℕ → Outcomes
outcomes_by core pick bound number arguments seed = outcome_in (computed (with_model core number) pick bound (start (with_model core number) arguments seed None))

-- it wrote this and ended so
abbrev pub outcome_with : List ℕ → Ending → Outcome
outcome_with output ending = record { output = output; verdict = ending.verdict; clock = ending.clock }

-- it ended so, and this is what it wrote
pub record Wrote (comes : Course → Type 0) (output : List ℕ) (ending : Ending) : Type 0 where
  pub course : Course
  pub run : comes course
  pub ended : course.ending ≡ ending
  pub wrote : output ≡ course.output
