-- A run of a program's code, told turn by turn. No public contract but that of a turn speaks of it.
use Rattle.std.specs.Prelude.{◌≡◌, ℕ, Bool, true, false, List, [], ◌++◌, length, Option, Some, None, if◌then◌else◌}
use Rattle.chi_core.specs.declared.label.Label.{Label}
use Rattle.chi_core.specs.declared.program.Core.{Core}
use Rattle.chi_core.specs.declared.verdict.Verdict.{Verdict}
use Rattle.chi_core.specs.declared.verdict.Verdict.TheVariants.{OutOfSteps}
use Rattle.chi_core.specs.Beginning.{Beginning}
use Rattle.chi_core.specs.Config.{Config}
use Rattle.chi_core.specs.Options.{Ending}
use Rattle.chi_core.specs.Picks.{Pick}
use Rattle.chi_core.specs.Sound.{Sound}
use Rattle.chi_core_runs.specs.Turns.{UnderWay}
use Rattle.chi_code.specs.declared.code.Code.{Code}
use Rattle.chi_code.specs.Codes.{Codes}
use Rattle.chi_machine_laws.specs.Stands.{Stands}
use Rattle.chi_machine_laws.specs.Turns.{InBound}
use Rattle.chi_machine_told.specs.Below.chi_machine.specs.declared.course.Course.{Course}
use Rattle.chi_machine_told.specs.Below.chi_machine.specs.Views.{whole_of}
use Rattle.chi_trace.specs.declared.event.Event.{Event}
use Rattle.chi_trace.specs.declared.filter.Filter.{Filter}
use Rattle.chi_trace_events.specs.Traces.{event_at, lines_of}
use Rattle.chi_trace_events.specs.Tracing.{TracedSoFar, shown_line}
use Rattle.chi_sched.specs.Policies.{Answers}
use Rattle.chi_machine_traces.specs.declared.run.Telling.{Telling}
use Rattle.chi_machine_traces.specs.Passing.{OfRun}
use Rattle.chi_machine_traces.specs.Told.{IsTold}

-- what is logged before anything happens: the first line of the trace, where that is wanted
abbrev pub first_log : Option Filter → List ℕ
first_log None = []
first_log (Some probe) = lines_of []

-- the line of a label's event at a turn, where the trace is wanted and shows that
abbrev pub IsLine : Option Filter → Core → ℕ → Config → Label → List ℕ → Type 0
IsLine None core turn config label line = line ≡ []
IsLine (Some probe) core turn config label line = (e : Event) × (event_at core turn config label ≡ Some e) × (line ≡ shown_line probe e)

abbrev pub is_within_bound : Verdict → Bool
is_within_bound OutOfSteps = false
is_within_bound _ = true

-- a label was taken, unless the run ended there since it cost too much
abbrev pub was_taken : Option Ending → Bool
was_taken None = true
was_taken (Some end) = is_within_bound end.verdict

-- its line, if it was
abbrev pub logged_by : Option Ending → List ℕ → List ℕ
logged_by end line = if was_taken end then line else []

-- what a label adds to the log, where taking it came to this
abbrev pub LogsBy : Option Filter → Core → ℕ → Config → Label → Option Ending → List ℕ → List ℕ → Type 0
LogsBy trace core turn config label end before after = (line : List ℕ) × IsLine trace core turn config label line × (after ≡ before ++ logged_by end line)

-- so much is logged along the labels that led to a configuration
abbrev pub LoggedSoFar : Option Filter → Core → Beginning → ℕ → List Label → List ℕ → Config → ℕ → Type 0
LoggedSoFar None core beginning bound labels log config left = log ≡ []
LoggedSoFar (Some probe) core beginning bound labels log config left = TracedSoFar probe core beginning bound labels log config left

-- The run of a sound program's code that the policy picks is under way: after these labels, of which so much is told, the
-- machine stands for the configuration to which they led. Of its output this was passed on before, and the rest is kept.
pub record IsUnderWay (trace : Option Filter) (core : Core) (code : Code) (beginning : Beginning) (pick : Pick) (bound : ℕ) (passed : List ℕ) (course : Course) (told : Telling) : Type 0 where
  pub codes : Codes core code
  pub sound : Sound core
  pub config : Config
  pub stands : Stands core code config (whole_of course.world)
  pub within : InBound core course.turn config course.left
  pub labels : List Label
  pub counted : length labels ≡ course.turn
  pub way : UnderWay core beginning pick bound labels (passed ++ told.out.items) config course.left
  pub logged : LoggedSoFar trace core beginning bound labels told.log.items config course.left

-- what a turn of it comes to: it is under way still, or it has ended
abbrev pub ComesTo : Option Filter → Core → Code → Beginning → Pick → ℕ → List ℕ → Option Ending → Course → Telling → Type 0
ComesTo trace core code beginning pick bound passed None course told = IsUnderWay trace core code beginning pick bound passed course told
ComesTo trace core code beginning pick bound passed (Some end) course told = IsTold trace core beginning pick bound passed (record { ending = end; told = told })

-- P holds of whichever run was under way so, by whichever function tells what the policy answers, with nothing passed on yet
abbrev pub OfWay : (ℕ → ℕ → ℕ → Type 0) → Option Filter → Code → Course → Telling → OfRun → Type 0
OfWay gives trace code course told P =
    (core : Core) (beginning : Beginning) (pick : Pick) (bound : ℕ) → Answers gives pick → IsUnderWay trace core code beginning pick bound [] course told
    → P core beginning pick bound
