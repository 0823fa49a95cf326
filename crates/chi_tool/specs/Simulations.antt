-- What the library calls are given, what they did, and what is promised of it.
use Rattle.std.specs.Prelude.{◌≡◌, ◌≢◌, ℕ, ◌⊎◌, ◌↔◌, true, List, [], None}
use Rattle.chi_core.specs.declared.program.Core.{Core}
use Rattle.chi_core.specs.Beginning.{start}
use Rattle.chi_core.specs.Picks.{picks_of}
use Rattle.chi_core.specs.Runs.{Told, Derivation}
use Rattle.chi_core.specs.declared.verdict.Verdict.TheVariants as verdict
use Rattle.chi_value.specs.declared.value.Value.{Value}
use Rattle.chi_engine.specs.Courses.{Course, IsRunOf}
use Rattle.chi_engine.specs.Settings.{Settings}
use Rattle.chi_tool.specs.Arguments.{Means}
use Rattle.chi_tool.specs.Call.{Call, SinkUse, Took, SinkStood}
use Rattle.chi_tool.specs.Headline.{IsReportedOrLost, MeetsAlone, HasLexicalFault, HasSyntaxFault, HasTypeFault, EndsAs, IsUnfit, IsExit, IsFault, IsExactly, StoppedByFailure}
use Rattle.chi_tool.specs.Refusals.{Report}
use Rattle.chi_tool.specs.Report.{IsReportOfSource}
use Rattle.chi_tool.specs.Running.{run_report}
use Rattle.chi_trace_events.specs.Traces.{IsLogged}
use Rattle.chi_tool.specs.Settings.{Wanted, simulates, settings_with}
use Rattle.chi_tool.specs.Sources.{ComesTo}
use Rattle.chi_tool.specs.Statuses as statuses
use Rattle.chi_tool.specs.Statuses.{status_of}

-- a source that is to be simulated as it is wanted; and what came of it
pub record Simulation : Type 0 where
  pub source : List ℕ
  pub wanted : Wanted
  pub status : ℕ
  pub out : SinkUse
  pub log : SinkUse

-- the same as a call without words and without files
abbrev pub as_call : Simulation → Call
as_call s = record {
  words = [];
  status = s.status;
  shelf = record { files = None; faults_before = 0; faults_after = 0 };
  out = s.out;
  log = s.log;
}

pub record SimulationHeadline (s : Simulation) : Type 0 where
  -- there is a report that the simulation meets
  pub report : (r : Report) × IsReportOfSource IsRunOf s.source (simulates s.wanted) r × MeetsAlone r (as_call s)
  -- once the output is stopped, nothing is logged
  pub out_stopped : s.out.stopped ≡ true → Took s.log []

-- where no sink fails, the status is this one exactly where the cause holds, unless memory is wanting
abbrev pub IsExactlyFor : Simulation → ℕ → Type 0 → Type 0
IsExactlyFor s n cause = SinkStood s.out → SinkStood s.log → IsExactly (as_call s) n cause

-- of a cause in the source
abbrev pub ComesOf : Simulation → ℕ → (List ℕ → Type 0) → Type 0
ComesOf s n P = IsExactlyFor s n (P s.source)

-- when each status comes
pub record SimulationCauses (s : Simulation) : Type 0 where
  pub done : ComesOf s statuses.completed (EndsAs IsRunOf (λ v. v ≡ verdict.Completed) s.wanted)
  pub exit : ComesOf s statuses.exited (EndsAs IsRunOf IsExit s.wanted)
  pub deadlock : ComesOf s statuses.deadlocked (EndsAs IsRunOf (λ v. v ≡ verdict.Deadlock) s.wanted)
  pub fault : ComesOf s statuses.faulted (EndsAs IsRunOf IsFault s.wanted)
  pub out_of_steps : ComesOf s statuses.out_of_steps (EndsAs IsRunOf (λ v. v ≡ verdict.OutOfSteps) s.wanted)
  pub stopped : ComesOf s statuses.stopped (EndsAs IsRunOf (λ v. v ≡ verdict.Stopped) s.wanted)
  pub lexical : ComesOf s statuses.lexical HasLexicalFault
  pub syntax : ComesOf s statuses.syntax HasSyntaxFault
  pub typing : ComesOf s statuses.typing HasTypeFault
  pub arguments : ComesOf s statuses.arguments (IsUnfit s.wanted.texts)
  -- no words, no file, no text of picks, no log and no experiment are to blame
  pub no_request : s.status ≢ statuses.no_request
  pub not_read : s.status ≢ statuses.not_read
  pub misfit : s.status ≢ statuses.misfit
  pub mispicked : s.status ≢ statuses.mispicked
  pub no_log : s.status ≢ statuses.no_log
  pub layout_too_long : s.status ≢ statuses.layout_too_long
  pub without_value : s.status ≢ statuses.without_value
  pub no_experiment : s.status ≢ statuses.no_experiment
  pub not_written : (s.status ≡ statuses.not_written) ↔ ((s.out.stopped ≡ true) ⊎ (s.log.stopped ≡ true))
  -- each sink by its own count
  pub out_failed : StoppedByFailure s.out
  pub log_failed : StoppedByFailure s.log

-- a program, with arguments that fit, is run to its end: the status is that of its verdict, unless memory is wanting
abbrev pub IsSimulatedToItsEnd : Simulation → Type 0
IsSimulatedToItsEnd s =
    SinkStood s.out → SinkStood s.log
    → (core : Core) → ComesTo s.source core → (arguments : List Value) → Means core s.wanted.texts arguments
    → (course : Course) × IsRunOf core (settings_with s.wanted arguments) course
    × ((s.status ≡ status_of course.ending.verdict) ⊎ (s.status ≡ statuses.no_memory))

-- a derivation of a program with its settings, whatever the policy, and what is logged of it
pub record IsDerived (core : Core) (s : Settings) (told : Told) (log : List ℕ) : Type 0 where
  pub derived : Derivation core (start core s.arguments s.seed s.until) s.bound told
  pub logged : IsLogged s.trace core (start core s.arguments s.seed s.until) s.bound told log

-- what is told of it, without its labels
abbrev pub course_of : Told → List ℕ → Course
course_of told log = record { output = told.output; log = log; ending = told.ending }

-- the numbers are those by which it is picked
abbrev pub AreOwnPicks : Core → Settings → Told → List ℕ → Type 0
AreOwnPicks core s told numbers = numbers ≡ picks_of core (start core s.arguments s.seed s.until) s.bound told

-- Of the program, with arguments that fit: a derivation whose own numbers these are is what was simulated. Where no sink fails, what it
-- wrote is written, and its log and the line of its verdict are logged, unless memory is wanting.
abbrev pub IsReplayed : Simulation → List ℕ → Type 0
IsReplayed s numbers =
    SinkStood s.out → SinkStood s.log
    → (core : Core) → ComesTo s.source core → (arguments : List Value) → Means core s.wanted.texts arguments
    → (told : Told) (log : List ℕ) → IsDerived core (settings_with s.wanted arguments) told log → AreOwnPicks core (settings_with s.wanted arguments) told numbers
    → IsReportedOrLost (run_report core (course_of told log)) (as_call s)
