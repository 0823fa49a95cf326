-- What comes of the experiment of a program, and the line that tells how it ended.
use Rattle.std.specs.Prelude.{◌≡◌, ◌≢◌, ℕ, ℤ, List, [], ◌++◌, codes, Some, None, slice_get}
use Rattle.std.specs.Fmt.{decimal}
use Rattle.chi_value.specs.declared.value.Value.{Value}
use Rattle.chi_core.specs.declared.experiment.XperDef.{XperDef}
use Rattle.chi_core.specs.declared.fault.FaultKind.{FaultKind}
use Rattle.chi_core.specs.declared.program.Core.{Core}
use Rattle.chi_core.specs.declared.program.ProcDef.{ProcDef}
use Rattle.chi_core.specs.declared.verdict.Verdict.{Verdict}
use Rattle.chi_core.specs.declared.verdict.Verdict.TheVariants as by
use Rattle.chi_core.specs.Fault.{kind_name}
use Rattle.chi_core.specs.Options.{Ending}
use Rattle.chi_core.specs.Picks.{Pick}
use Rattle.chi_core.specs.VerdictLine.{verdict_line_of}
use Rattle.chi_xper.specs.Experiments.{Outcomes, End, Done, Run, Fault, Spent, Told, experiment}
use Rattle.chi_xper_runs.specs.Constants.{Set, Breaks, constants}
use Rattle.chi_xper_runs.specs.Models.{AreOutcomes}
use Rattle.chi_xper_machines.specs.declared.tale.Ended.{Ended}
use Rattle.chi_xper_machines.specs.declared.tale.Ended.TheVariants as word
use Rattle.chi_xper_machines.specs.declared.tale.Tale.{Tale}

-- The program has no experiment; or a fault in a constant ends it before its first item; or this is all that it did.
pub data Trial : Type 0 where
  Missing : Trial
  Broken : Ending → Trial
  Tried : Told → Trial

-- That comes of the first experiment of a program, with a seed for its first run, within a bound for itself and the same for each run, whose labels a
-- policy picks.
pub data IsTrial (core : Core) (seed : ℕ) (pick : Pick) (bound : ℕ) : Trial → Type 0 where
  missing : core.xpers ≡ [] → IsTrial core seed pick bound Missing
  broken : core.xpers ≢ [] → (ending : Ending) → constants core seed ≡ Breaks ending → IsTrial core seed pick bound (Broken ending)
  tried : core.xpers ≢ [] → (values : List Value) → constants core seed ≡ Set values → (outcomes : Outcomes) → AreOutcomes core pick bound outcomes
      → IsTrial core seed pick bound (Tried (experiment core values seed outcomes bound))

abbrev pub after_runs : ℕ → List ℕ
after_runs count = codes " after " ++ decimal count ++ codes " runs\n"

-- the line that tells how an experiment of the program ended
pub data TellsEnd (core : Core) : End → List ℕ → Type 0 where
  done : (count : ℕ) → TellsEnd core (Done count) (codes "experiment completed" ++ after_runs count)
  run : (number model : ℕ) (verdict : Verdict) (clock : ℤ) (d : ProcDef) → slice_get core.procs model ≡ Some d
      → TellsEnd core (Run number model verdict clock) (codes "run " ++ decimal number ++ codes " of " ++ d.name ++ codes ": " ++ verdict_line_of core.names.kinds verdict clock)
  fault : (kind : FaultKind) (line count : ℕ) (x : XperDef) → slice_get core.xpers 0 ≡ Some x
      → TellsEnd core (Fault kind line count) (codes "fault " ++ kind_name kind ++ codes " in " ++ x.name ++ codes " line " ++ decimal line ++ after_runs count)
  spent : (count : ℕ) → TellsEnd core (Spent count) (codes "out of steps" ++ after_runs count)

-- the line that is logged
pub data Logs (core : Core) : Trial → List ℕ → Type 0 where
  missing : Logs core Missing (codes "no xper\n")
  broken : (ending : Ending) → Logs core (Broken ending) (verdict_line_of core.names.kinds ending.verdict ending.clock)
  tried : (told : Told) (line : List ℕ) → TellsEnd core told.end line → Logs core (Tried told) line

-- what it wrote
abbrev pub output_of : Trial → List ℕ
output_of Missing = []
output_of (Broken ending) = []
output_of (Tried told) = told.output

-- How an experiment ended, in a word. No run that ends one exits with a value, and none is stopped.
pub data EndOf : End → Ended → Type 0 where
  done : (count : ℕ) → EndOf (Done count) word.Completed
  run_completed : (number model : ℕ) (clock : ℤ) → EndOf (Run number model by.Completed clock) word.WithoutValue
  run_exited : (number model : ℕ) (clock : ℤ) → EndOf (Run number model (by.Exit None) clock) word.WithoutValue
  run_deadlocked : (number model : ℕ) (clock : ℤ) → EndOf (Run number model by.Deadlock clock) word.Deadlocked
  run_faulted : (number model : ℕ) (kind : FaultKind) (name : List ℕ) (line : ℕ) (clock : ℤ) → EndOf (Run number model (by.Fault kind name line) clock) word.Faulted
  run_spent : (number model : ℕ) (clock : ℤ) → EndOf (Run number model by.OutOfSteps clock) word.OutOfSteps
  fault : (kind : FaultKind) (line count : ℕ) → EndOf (Fault kind line count) word.Faulted
  spent : (count : ℕ) → EndOf (Spent count) word.OutOfSteps

-- how the experiment of a program ended, in a word
pub data EndsSo : Trial → Ended → Type 0 where
  missing : EndsSo Missing word.Missing
  broken : (ending : Ending) → EndsSo (Broken ending) word.Faulted
  tried : (told : Told) (ended : Ended) → EndOf told.end ended → EndsSo (Tried told) ended

-- What is told of the experiment of a program.
pub record IsTale (core : Core) (seed : ℕ) (pick : Pick) (bound : ℕ) (tale : Tale) : Type 0 where
  pub trial : Trial
  pub is : IsTrial core seed pick bound trial
  pub ended : EndsSo trial tale.ended
  pub out : tale.out.items ≡ output_of trial
  pub log : Logs core trial tale.log.items
