-- What a call that runs a program's code comes to.
use Rattle.std.specs.Prelude.{◌≡◌, ℕ, Bool, true, false, List, [], Result, Ok, Err}
use Rattle.chi_core.specs.declared.program.Core.{Core}
use Rattle.chi_core.specs.Options.{Ending}
use Rattle.chi_core.specs.VerdictLine.{MayTell}
use Rattle.chi_io.specs.Sink.{IsFrontOf, IsProperFrontOf}
use Rattle.chi_machine_traces.specs.declared.passing.PassFault.{PassFault}
use Rattle.chi_machine_traces.specs.declared.passing.PassFault.TheVariants.{Stopped, NoMemory}
use Rattle.chi_engine.specs.Courses.{Course}

-- The run has ended so: the sink took the whole of its output and goes on, its lines are logged, and its verdict can be told.
pub record RanToItsEnd (comes : Course → Type 0) (core : Core) (took logged : List ℕ → Type 0) (end : Ending) : Type 0 where
  pub course : Course
  pub run : comes course
  pub ended : course.ending ≡ end
  pub took_all : took course.output
  pub logged_all : logged course.log
  pub may : MayTell core end.verdict

-- a part of its output was taken, of which P holds
pub record RanSoFar (comes : Course → Type 0) (P : List ℕ → List ℕ → Type 0) (took : List ℕ → Type 0) : Type 0 where
  pub course : Course
  pub run : comes course
  pub front : List ℕ
  pub part : P front course.output
  pub took_part : took front

-- It ran to its end; or the sink failed, exactly where it is stopped then, and took less than its output; or memory was wanting.
abbrev pub RunsTo : (Course → Type 0) → Core → (List ℕ → Type 0) → (List ℕ → Type 0) → Type 0 → Bool → Result Ending PassFault → Type 0
RunsTo comes core took logged rose stopped (Ok end) = (stopped ≡ false) × RanToItsEnd comes core took logged end
RunsTo comes core took logged rose stopped (Err Stopped) = (stopped ≡ true) × rose × RanSoFar comes IsProperFrontOf took
RunsTo comes core took logged rose stopped (Err NoMemory) = (stopped ≡ false) × RanSoFar comes IsFrontOf took

-- what is left of a run's output at its end isn't passed on: the sink failed, or memory was wanting before
abbrev pub LosesRest : List ℕ → (List ℕ → Type 0) → Type 0 → Bool → PassFault → Type 0
LosesRest rest took rose stopped Stopped = (stopped ≡ true) × rose × (front : List ℕ) × IsProperFrontOf front rest × took front
LosesRest rest took rose stopped NoMemory = (stopped ≡ false) × took []

-- or it is
abbrev pub PassesRest : {T : Type 0} → List ℕ → (List ℕ → Type 0) → Type 0 → Bool → Result T PassFault → Type 0
PassesRest rest took rose stopped (Ok x) = (stopped ≡ false) × took rest
PassesRest rest took rose stopped (Err lost) = LosesRest rest took rose stopped lost
