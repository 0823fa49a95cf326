-- The report of a program's run, and of its experiment.
use Rattle.std.specs.Prelude.{◌≡◌, ℕ, List, ◌++◌}
use Rattle.chi_core.specs.declared.program.Core.{Core}
use Rattle.chi_core.specs.Beginning.{start}
use Rattle.chi_core.specs.Options.{Ending}
use Rattle.chi_core.specs.VerdictLine.{verdict_line_of}
use Rattle.chi_engine.specs.Courses.{Course, Runs, IsRunOf}
use Rattle.chi_engine.specs.Settings.{Settings}
use Rattle.chi_explain_endings.specs.Endings.{ending_text}
use Rattle.chi_explain_runs.specs.Waits.{IsWaitingTold}
use Rattle.chi_xper_machines.specs.declared.tale.Ended.{Ended}
use Rattle.chi_xper_machines.specs.Trials.{Trial, IsTrial, EndsSo, output_of, Logs}
use Rattle.chi_tool.specs.Refusals.{Report}
use Rattle.chi_tool.specs.Settings.{Trying, Aim, of_program, simulates}
use Rattle.chi_tool.specs.Statuses.{status_of, status_of_trial}

-- By what comes of a run: where words ask that a source be simulated, by what comes of it with an engine; else by the run of
-- the meaning.
abbrev pub runs_for : Runs → Aim → Runs
runs_for runs (of_program (simulates w)) = runs
runs_for runs _ = IsRunOf

-- what it wrote and logged, and the line of its verdict
abbrev pub run_report : Core → Course → Report
run_report core course = record {
  status = status_of course.ending.verdict;
  out = course.output;
  log = course.log ++ verdict_line_of core.names.kinds course.ending.verdict course.ending.clock;
}

-- the report of what comes of a program's run
pub record IsRunReport (runs : Runs) (core : Core) (settings : Settings) (r : Report) : Type 0 where
  pub course : Course
  pub run : runs core settings course
  pub is : r ≡ run_report core course

-- what is told, by the meaning, of the instances that haven't finished where a run comes to rest
abbrev pub IsRestTold : Core → List ℕ → Settings → List ℕ → Type 0
IsRestTold core source s text = IsWaitingTold core source (start core s.arguments s.seed s.until) s.pick s.bound text

-- how a run ended, at length, and what is told of where it came to rest
abbrev pub end_told : List ℕ → Core → List ℕ → Ending → List ℕ
end_told source core rest ending = ending_text source core.names.kinds ending.verdict ending.clock ++ rest

-- what an experiment wrote, and the line that tells how it ended
abbrev pub trial_report : Trial → Ended → List ℕ → Report
trial_report trial ended line = record { status = status_of_trial ended; out = output_of trial; log = line }

-- the report of what comes of a program's first experiment, by the runs of the meaning
pub record IsReportOfTrial (core : Core) (t : Trying) (r : Report) : Type 0 where
  pub trial : Trial
  pub is : IsTrial core t.seed t.pick t.bound trial
  pub ended : Ended
  pub ends : EndsSo trial ended
  pub line : List ℕ
  pub logged : Logs core trial line
  pub told : r ≡ trial_report trial ended line
