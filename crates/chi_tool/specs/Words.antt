-- What words ask for.
use Rattle.std.specs.Prelude.{ℕ, ℤ, Bool, true, false, List, Option, None, Result, Ok, Err}
use Rattle.chi_cli.specs.declared.fault.CliFault.{CliFault}
use Rattle.chi_cli.specs.declared.fault.CliFault.TheVariants as fault
use Rattle.chi_cli.specs.declared.request.Request.{Request}
use Rattle.chi_cli.specs.declared.request.Request.TheVariants as request
use Rattle.chi_cli.specs.Requests.{request_of}
use Rattle.chi_trace.specs.declared.filter.Filter.{Filter}
use Rattle.chi_trace.specs.declared.filter.Filter.TheVariants.{All}
use Rattle.chi_tool.specs.Settings.{trace_by}
use Rattle.chi_tool.specs.declared.settings.ByPicks.{ByPicks}
use Rattle.chi_tool.specs.declared.task.Asked.{Asked}
use Rattle.chi_tool.specs.declared.task.LogPurpose.TheVariants.{Judge, Picks}
use Rattle.chi_tool.specs.declared.task.Task.{Task}
use Rattle.chi_tool.specs.declared.task.Task.TheVariants as task
use Rattle.chi_tool.specs.declared.task.PairPurpose.TheVariants.{Replay, OnLog}
use Rattle.chi_tool.specs.declared.task.Purpose.TheVariants.{OfProgram, Explain, LayOut}
use Rattle.chi_tool.specs.declared.task.ProgramPurpose.TheVariants.{Simulate, Check, ListCode, Experiment}

-- what a program is asked for with where its picks come from the second file
abbrev pub unpicked : List (List ℕ) → ℕ → ℕ → Option ℤ → Option Filter → Asked ByPicks
unpicked texts seed bound until trace =
    record { terms = record { seed = seed; bound = bound; policy = record {}; until = until; trace = trace }; texts = texts }

-- a run, a run that is told at length, the run of an experiment, a run by picks, the judgement on a log or its picks, a check, a listing of code, a layout, a run of a factory,
-- a log of old that is to be brought up, or help
abbrev pub task_of : Request → Task
task_of (request.Sim file texts seed bound until pick trace probe) =
    task.OfFile file (OfProgram (Simulate (record { terms = record { seed = seed; bound = bound; policy = pick; until = until; trace = trace_by trace probe }; texts = texts })))
task_of (request.Explain file texts seed bound until pick) =
    task.OfFile file (Explain (record { terms = record { seed = seed; bound = bound; policy = pick; until = until; trace = None }; texts = texts }))
task_of (request.Xper file seed bound pick) = task.OfFile file (OfProgram (Experiment (record { seed = seed; bound = bound; pick = pick })))
task_of (request.Check file) = task.OfFile file (OfProgram Check)
task_of (request.Code file) = task.OfFile file (OfProgram ListCode)
task_of (request.Fmt file) = task.OfFile file LayOut
task_of (request.Load n) = task.OfFactory n
task_of (request.Replay file picks texts seed bound until trace) =
    task.OfPair (record { file = file; beside = picks; purpose = Replay (unpicked texts seed bound until (trace_by trace All)) })
task_of (request.Judge file log texts seed bound until) =
    task.OfPair (record { file = file; beside = log; purpose = OnLog Judge (unpicked texts seed bound until None) })
task_of (request.Picks file log texts seed bound until) =
    task.OfPair (record { file = file; beside = log; purpose = OnLog Picks (unpicked texts seed bound until None) })
task_of (request.TraceUp file) = task.OfLog file
task_of (request.Help topic) = task.OfTopic topic

-- nothing, since the words are no request; or a task
pub data Wish : Type 0 where
  nothing : Wish
  of_task : Task → Wish

abbrev pub wish_by : Result Request CliFault → Wish
wish_by (Ok asked) = of_task (task_of asked)
wish_by (Err fault) = nothing

abbrev pub wish_of : List (List ℕ) → Wish
wish_of words = wish_by (request_of words)

-- it has to do with no file
abbrev pub NamesNoFile : Wish → Type 0
NamesNoFile nothing = Unit {0}
NamesNoFile (of_task (task.OfFile file purpose)) = ⊥
NamesNoFile (of_task (task.OfPair pair)) = ⊥
NamesNoFile (of_task (task.OfLog file)) = ⊥
NamesNoFile (of_task (task.OfFactory size)) = Unit {0}
NamesNoFile (of_task (task.OfTopic topic)) = Unit {0}

-- words are refused; want of memory is no refusal of theirs
abbrev pub is_refusal : CliFault → Bool
is_refusal fault.Usage = true
is_refusal fault.Command = true
is_refusal fault.BadNumber = true
is_refusal fault.NoMemory = false
