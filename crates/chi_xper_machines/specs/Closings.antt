-- What is told of how an experiment ended. Private to proofs.
use Rattle.std.specs.Prelude.{◌≡◌, ◌≢◌, ℕ, ℤ, List, [], ◌++◌, codes, Option, Some, None, slice_get}
use Rattle.std.specs.Fmt.{decimal}
use Rattle.chi_core.specs.declared.experiment.XperDef.{XperDef}
use Rattle.chi_core.specs.declared.fault.FaultKind.{FaultKind}
use Rattle.chi_core.specs.declared.program.Core.{Core}
use Rattle.chi_core.specs.declared.program.ProcDef.{ProcDef}
use Rattle.chi_core.specs.declared.verdict.Verdict.{Verdict}
use Rattle.chi_core.specs.declared.verdict.Verdict.TheVariants as by
use Rattle.chi_core.specs.Fault.{kind_name}
use Rattle.chi_core.specs.VerdictLine.{MayTell, verdict_line_of}
use Rattle.chi_xper.specs.declared.ending.XEnd.{XEnd}
use Rattle.chi_xper.specs.declared.ending.XEnd.TheVariants as end
use Rattle.chi_xper.specs.Experiments.{exit_value}
use Rattle.chi_xper_machines.specs.declared.tale.Ended.{Ended}
use Rattle.chi_xper_machines.specs.declared.tale.Ended.TheVariants as word
use Rattle.chi_xper_machines.specs.declared.tale.Tale.{Tale}
use Rattle.chi_xper_machines.specs.Trials.{Trial, EndsSo, Logs, after_runs, output_of}

-- a run of the program that ends an experiment
pub record EndsIt (core : Core) (model : ℕ) (verdict : Verdict) : Type 0 where
  pub d : ProcDef
  pub is : slice_get core.procs model ≡ Some d
  pub may : MayTell core verdict
  pub none : exit_value verdict ≡ None
  pub goes_on : verdict ≢ by.Stopped

-- its end can be told
abbrev pub MayClose : Core → XEnd → Type 0
MayClose core (end.Run number model verdict clock) = (slice_get core.procs model ≢ None) × MayTell core verdict
MayClose core (end.Done count) = Unit {0}
MayClose core (end.Fault kind line count) = Unit {0}
MayClose core (end.Spent count) = Unit {0}
MayClose core end.NoMemory = Unit {0}

-- the word for it where a run with this verdict has ended it: none that ends one has a value, and none is stopped
abbrev pub word_by : Verdict → Ended
word_by by.Completed = word.WithoutValue
word_by (by.Exit v) = word.WithoutValue
word_by by.Deadlock = word.Deadlocked
word_by (by.Fault kind name line) = word.Faulted
word_by by.OutOfSteps = word.OutOfSteps
word_by by.Stopped = word.WithoutValue

-- the word for an end
abbrev pub word_for : XEnd → Ended
word_for (end.Done count) = word.Completed
word_for (end.Run number model verdict clock) = word_by verdict
word_for (end.Fault kind line count) = word.Faulted
word_for (end.Spent count) = word.OutOfSteps
word_for end.NoMemory = word.Missing

abbrev pub name_of : Option ProcDef → List ℕ
name_of None = []
name_of (Some d) = d.name

abbrev pub called : Option XperDef → List ℕ
called None = []
called (Some x) = x.name

abbrev pub run_line : Core → ℕ → ℕ → Verdict → ℤ → List ℕ
run_line core number model verdict clock =
    codes "run " ++ decimal number ++ codes " of " ++ name_of (slice_get core.procs model) ++ codes ": " ++ verdict_line_of core.names.kinds verdict clock

abbrev pub fault_line : List ℕ → FaultKind → ℕ → ℕ → List ℕ
fault_line name kind line count = codes "fault " ++ kind_name kind ++ codes " in " ++ name ++ codes " line " ++ decimal line ++ after_runs count

-- the line for an end
abbrev pub line_for : Core → XEnd → List ℕ
line_for core (end.Done count) = codes "experiment completed" ++ after_runs count
line_for core (end.Run number model verdict clock) = run_line core number model verdict clock
line_for core (end.Fault kind line count) = fault_line (called (slice_get core.xpers 0)) kind line count
line_for core (end.Spent count) = codes "out of steps" ++ after_runs count
line_for core end.NoMemory = []

-- what is told of it
pub record Tells (core : Core) (trial : Trial) (tale : Tale) : Type 0 where
  pub ended : EndsSo trial tale.ended
  pub out : tale.out.items ≡ output_of trial
  pub log : Logs core trial tale.log.items
