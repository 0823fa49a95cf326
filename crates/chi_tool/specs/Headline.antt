-- What the program promises of each call.
use Rattle.std.specs.Prelude.{◌≡◌, ℕ, ◌<◌, ◌≤◌, ◌⊎◌, ◌↔◌, true, false, List, [], length, Option, Some, None, IfSome, IsSomeAnd}
use Rattle.chi_io.specs.Shelf.{Files}
use Rattle.chi_token.specs.declared.place.Spanned.{Spanned}
use Rattle.chi_load.specs.Factory.{factory_source}
use Rattle.chi_lex.specs.declared.fault.LexFault.{LexFault}
use Rattle.chi_lex.specs.declared.lexer.TheConstants.{MOST_BYTES}
use Rattle.chi_lex.specs.Reading as lexical
use Rattle.chi_grammar.specs.declared.fault.ParseFault.{ParseFault}
use Rattle.chi_check_types.specs.declared.fault.Fault.{Fault}
use Rattle.chi_core.specs.declared.program.Core.{Core}
use Rattle.chi_core.specs.declared.fault.FaultKind.{FaultKind}
use Rattle.chi_core.specs.declared.verdict.Verdict.{Verdict}
use Rattle.chi_core.specs.declared.verdict.Verdict.TheVariants as verdict
use Rattle.chi_engine.specs.Courses.{Course, Runs}
use Rattle.chi_trace.specs.declared.log.TheConstants.{MOST_LOG_BYTES}
use Rattle.chi_trace.specs.Logs as logs
use Rattle.chi_value.specs.declared.value.Value.{Value}
use Rattle.chi_cli.specs.declared.args.ArgFault.{ArgFault}
use Rattle.chi_cli_help.specs.declared.topic.Topic.{Topic}
use Rattle.chi_picks.specs.Lists as picks
use Rattle.chi_xper_machines.specs.declared.tale.Ended.{Ended}
use Rattle.chi_xper_machines.specs.declared.tale.Ended.TheVariants.{Missing, Completed, WithoutValue, Deadlocked, Faulted, OutOfSteps}
use Rattle.chi_xper_machines.specs.Trials.{Trial, IsTrial, EndsSo}
use Rattle.chi_sched.specs.Policies.{listed}
use Rattle.chi_tool.specs.declared.task.TheConstants.{MOST_BESIDE}
use Rattle.chi_tool.specs.declared.task.Pair.{Pair}
use Rattle.chi_tool.specs.declared.task.Purpose.{Purpose}
use Rattle.chi_tool.specs.declared.task.Task.TheVariants.{OfFile, OfPair, OfLog, OfFactory, OfTopic}
use Rattle.chi_tool.specs.Words.{Wish, nothing, of_task, wish_of, NamesNoFile}
use Rattle.chi_tool.specs.Arguments.{Means, Misfits}
use Rattle.chi_tool.specs.Layouts.{HasLayout}
use Rattle.chi_tool.specs.Refusals.{Report, no_such_file, file_too_long}
use Rattle.chi_tool.specs.Report.{IsReport}
use Rattle.chi_tool.specs.OnLogs.{IsLogWith, IsNoLogWith}
use Rattle.chi_tool.specs.Running.{runs_for}
use Rattle.chi_tool.specs.Settings.{Wanted, Unpicked, picked_by, Trying, simulates, replays, judges, checks, lists, tries, Aim, of_program, lays_out, wanted_of, aim_of, pair_aim, settings_with, plain}
use Rattle.chi_tool.specs.Sources.{IsNoProgram, BreaksRule, ComesTo}
use Rattle.chi_tool.specs.Statuses as statuses
use Rattle.chi_tool.specs.Statuses.{status_of}
use Rattle.chi_tool.specs.Call.{Call, SinkUse, ShelfUse, Took, TookFront, TookSome, SinkRose, SinkStood, ShelfRose, ShelfStood}
use Rattle.chi_tool.specs.Delivery.{TookWhole, TookPart, DeliversReport}

-- no object that was handed in failed
pub record NothingFailed (call : Call) : Type 0 where
  pub shelf : ShelfStood call.shelf
  pub out : SinkStood call.out
  pub log : SinkStood call.log

-- the status and the bytes of each sink that tells are those of the report
pub record IsReported (r : Report) (call : Call) : Type 0 where
  pub status : call.status ≡ r.status
  pub out : Took call.out r.out
  pub log : Took call.log r.log

-- the same, unless memory is wanting
abbrev pub IsReportedOrLost : Report → Call → Type 0
IsReportedOrLost r call = (call.status ≡ statuses.no_memory) ⊎ IsReported r call

-- the report is delivered, as far as no sink fails; or memory was wanting, a front of its output is written, and nothing is logged
pub data MeetsAlone (r : Report) (call : Call) : Type 0 where
  delivered : DeliversReport r call.status call.out call.log → MeetsAlone r call
  wanting : call.status ≡ statuses.no_memory → TookPart call.out r.out → TookWhole call.log [] → MeetsAlone r call

-- Or the shelf failed, and in place of the report it is delivered that the file isn't there, or that it is too long; or
-- nothing is written, and the status says that the file can't be read.
pub data Meets (r : Report) (call : Call) : Type 0 where
  alone : MeetsAlone r call → Meets r call
  not_there : ShelfRose call.shelf → DeliversReport no_such_file call.status call.out call.log → Meets r call
  too_long : ShelfRose call.shelf → DeliversReport file_too_long call.status call.out call.log → Meets r call
  unread : ShelfRose call.shelf → call.status ≡ statuses.not_read → TookWhole call.out [] → TookWhole call.log [] → Meets r call

-- the shelf may have these files: it tells no others
abbrev pub MayHold : ShelfUse → Files → Type 0
MayHold shelf files = IfSome shelf.files (λ told. told ≡ files)

-- with what comes of the runs that words ask to be simulated
pub record Headline (runs : Runs) (call : Call) : Type 0 where
  -- there is a report of the words, and of files that the shelf may have, which the call meets
  pub report : (files : Files) × MayHold call.shelf files × (r : Report) × IsReport runs call.words files r × Meets r call
  -- where the words name no file, it is the same with whichever files
  pub by_words : NamesNoFile (wish_of call.words) → (files : Files) → (r : Report) × IsReport runs call.words files r × MeetsAlone r call
  -- once the output is stopped, nothing is logged
  pub out_stopped : call.out.stopped ≡ true → Took call.log []

-- What follows where a call meets a report, for whoever reads status and bytes.

-- each sink took a front of the report's bytes
pub record IsReportedInFront (r : Report) (call : Call) : Type 0 where
  pub out : TookFront call.out r.out
  pub log : TookFront call.log r.log

-- a file was refused while the shelf failed: only a line of that refusal, or a front of it, is written
pub record IsRefusedByFault (call : Call) : Type 0 where
  pub rose : ShelfRose call.shelf
  pub out : Took call.out []
  pub log : TookFront call.log no_such_file.log ⊎ TookFront call.log file_too_long.log

pub record Follows (r : Report) (call : Call) : Type 0 where
  -- where nothing fails, the status and every byte are the report's, unless memory is wanting
  pub whole : NothingFailed call → IsReportedOrLost r call
  -- whatever fails, the report is there whole, or the status is one of three
  pub status : IsReported r call ⊎ ((call.status ≡ statuses.not_read) ⊎ ((call.status ≡ statuses.not_written) ⊎ (call.status ≡ statuses.no_memory)))
  -- and nothing else is written
  pub fronts : IsReportedInFront r call ⊎ IsRefusedByFault call
  -- the log follows the output
  pub out_first : TookSome call.log → Took call.out r.out ⊎ IsRefusedByFault call

-- the words ask for this to be done with this source: the content of a file, within the limit, with that of a second one where
-- they name it; or that of a factory
pub data IsAskedSource (call : Call) (files : Files) (aim : Aim) (source : List ℕ) : Type 0 where
  held : (name : List ℕ) (purpose : Purpose) → wish_of call.words ≡ of_task (OfFile name purpose) → files name ≡ Some source → length source ≤ MOST_BYTES
      → aim ≡ aim_of purpose → IsAskedSource call files aim source
  beside : (pair : Pair) (text : List ℕ) → wish_of call.words ≡ of_task (OfPair pair) → files pair.file ≡ Some source → length source ≤ MOST_BYTES
      → files pair.beside ≡ Some text → length text ≤ MOST_BESIDE → aim ≡ of_program (pair_aim pair.purpose text) → IsAskedSource call files aim source
  made : (size : ℕ) → wish_of call.words ≡ of_task (OfFactory size) → source ≡ factory_source size → aim ≡ of_program (simulates (wanted_of plain))
      → IsAskedSource call files aim source

-- the words ask for something with a source of which P holds
abbrev pub AsksFor : Call → Files → (Aim → List ℕ → Type 0) → Type 0
AsksFor call files P = (aim : Aim) × (source : List ℕ) × IsAskedSource call files aim source × P aim source

-- the words ask for this log to be brought up: the content of a file, within the limit
pub record IsAskedLog (call : Call) (files : Files) (text : List ℕ) : Type 0 where
  pub name : List ℕ
  pub asked : wish_of call.words ≡ of_task (OfLog name)
  pub there : files name ≡ Some text
  pub within : length text ≤ MOST_LOG_BYTES

-- one of which P holds
abbrev pub AsksForLog : Call → Files → (List ℕ → Type 0) → Type 0
AsksForLog call files P = (text : List ℕ) × IsAskedLog call files text × P text

-- the words ask for help
abbrev pub AsksForHelp : Call → Type 0
AsksForHelp call = (topic : Topic) × (wish_of call.words ≡ of_task (OfTopic topic))

-- there is a log that it is brought up to
abbrev pub ComesUp : List ℕ → Type 0
ComesUp text = (up : List ℕ) × logs.IsUp text up

-- one of its lines is the first that doesn't fit
abbrev pub HasMisfit : List ℕ → Type 0
HasMisfit text = (k : ℕ) × logs.Misfits text k

-- the asked source has a lexical fault
abbrev pub HasLexicalFault : List ℕ → Type 0
HasLexicalFault source = (fault : LexFault) × lexical.HasFault source fault

-- it has none, and its tokens are no program
abbrev pub HasSyntaxFault : List ℕ → Type 0
HasSyntaxFault source = (tokens : List Spanned) × (fault : ParseFault) × IsNoProgram source tokens fault

-- it is a program, and breaks a rule
abbrev pub HasTypeFault : List ℕ → Type 0
HasTypeFault source = (fault : Fault) × BreaksRule source fault

-- something is to be done with the program, which breaks a rule
abbrev pub IsMistyped : Aim → List ℕ → Type 0
IsMistyped (of_program aim) source = HasTypeFault source
IsMistyped lays_out source = ⊥

-- it comes to a program whose run, as it is asked for, ends with a verdict of which P holds
pub record EndsAs (runs : Runs) (P : Verdict → Type 0) (w : Wanted) (source : List ℕ) : Type 0 where
  pub core : Core
  pub program : ComesTo source core
  pub arguments : List Value
  pub fit : Means core w.texts arguments
  pub course : Course
  pub run : runs core (settings_with w arguments) course
  pub ends : P course.ending.verdict

-- a run is asked for, as w wants it: by a policy that words name, or by the numbers of a text of picks
abbrev pub IsRunAsked : Aim → Wanted → Type 0
IsRunAsked (of_program (simulates v)) w = w ≡ v
IsRunAsked (of_program (replays u text)) w = (numbers : List ℕ) × picks.Has text numbers × (w ≡ picked_by (listed numbers) u)
IsRunAsked (of_program (judges purpose u text)) w = ⊥
IsRunAsked (of_program checks) w = ⊥
IsRunAsked (of_program lists) w = ⊥
IsRunAsked (of_program (tries t)) w = ⊥
IsRunAsked lays_out w = ⊥

-- and ends so
abbrev pub Ends : Runs → (Verdict → Type 0) → Aim → List ℕ → Type 0
Ends runs P aim source = (w : Wanted) × IsRunAsked aim w × EndsAs (runs_for runs aim) P w source

-- it comes to a program whose first experiment ends so
pub record TriesAs (e : Ended) (t : Trying) (source : List ℕ) : Type 0 where
  pub core : Core
  pub program : ComesTo source core
  pub trial : Trial
  pub is : IsTrial core t.seed t.pick t.bound trial
  pub ends : EndsSo trial e

-- an experiment is asked for, and ends so
abbrev pub Tries : Ended → Aim → List ℕ → Type 0
Tries e (of_program (simulates w)) source = ⊥
Tries e (of_program (replays u text)) source = ⊥
Tries e (of_program (judges purpose u text)) source = ⊥
Tries e (of_program checks) source = ⊥
Tries e (of_program lists) source = ⊥
Tries e (of_program (tries t)) source = TriesAs e t source
Tries e lays_out source = ⊥

-- a run is asked for, and ends with a verdict of which P holds; or an experiment, which ends so
abbrev pub EndsOrTries : Runs → (Verdict → Type 0) → Ended → Aim → List ℕ → Type 0
EndsOrTries runs P e aim source = Ends runs P aim source ⊎ Tries e aim source

-- it comes to a program that can give this text as a log, with the arguments that are given
pub record GivesLog (u : Unpicked) (text source : List ℕ) : Type 0 where
  pub core : Core
  pub program : ComesTo source core
  pub arguments : List Value
  pub fit : Means core u.texts arguments
  pub output : List ℕ
  pub numbers : List ℕ
  pub is : IsLogWith core u arguments text output numbers

-- a check or a listing is asked for, and the source comes to a program; or that is asked of a log, which it can give; or the layout of
-- the source is asked for, which is within the limit
abbrev pub IsAccepted : Aim → List ℕ → Type 0
IsAccepted (of_program (simulates w)) source = ⊥
IsAccepted (of_program (replays u text)) source = ⊥
IsAccepted (of_program (judges purpose u text)) source = GivesLog u text source
IsAccepted (of_program checks) source = (core : Core) × ComesTo source core
IsAccepted (of_program lists) source = (core : Core) × ComesTo source core
IsAccepted (of_program (tries t)) source = ⊥
IsAccepted lays_out source = (text : List ℕ) × HasLayout source text × (length text ≤ MOST_BYTES)

-- a run or an experiment has completed, or a source is accepted, to be checked, listed or laid out, or with a log that its program can give
abbrev pub IsDone : Runs → Aim → List ℕ → Type 0
IsDone runs aim source = EndsOrTries runs (λ v. v ≡ verdict.Completed) Completed aim source ⊎ IsAccepted aim source

-- it comes to a program whose parameters the given arguments don't fit
pub record IsUnfit (texts : List (List ℕ)) (source : List ℕ) : Type 0 where
  pub core : Core
  pub program : ComesTo source core
  pub wanted : ℕ
  pub fault : ArgFault
  pub misfits : Misfits core texts wanted fault

-- a run is asked for, or something of a log, with such arguments
abbrev pub HasUnfitArguments : Aim → List ℕ → Type 0
HasUnfitArguments (of_program (simulates w)) source = IsUnfit w.texts source
HasUnfitArguments (of_program (replays u text)) source = IsUnfit u.texts source
HasUnfitArguments (of_program (judges purpose u text)) source = IsUnfit u.texts source
HasUnfitArguments (of_program checks) source = ⊥
HasUnfitArguments (of_program lists) source = ⊥
HasUnfitArguments (of_program (tries t)) source = ⊥
HasUnfitArguments lays_out source = ⊥

-- it comes to a program whose parameters the arguments fit, and line k of the picks is the first that doesn't fit
pub record IsMispicked (texts : List (List ℕ)) (text : List ℕ) (source : List ℕ) : Type 0 where
  pub core : Core
  pub program : ComesTo source core
  pub arguments : List Value
  pub fit : Means core texts arguments
  pub k : ℕ
  pub misfits : picks.Misfits text k

-- a run by such picks is asked for
abbrev pub HasMispick : Aim → List ℕ → Type 0
HasMispick (of_program (simulates w)) source = ⊥
HasMispick (of_program (replays u text)) source = IsMispicked u.texts text source
HasMispick (of_program (judges purpose u text)) source = ⊥
HasMispick (of_program checks) source = ⊥
HasMispick (of_program lists) source = ⊥
HasMispick (of_program (tries t)) source = ⊥
HasMispick lays_out source = ⊥

-- it comes to a program whose parameters the arguments fit, which can't give this text as a log: line k is the first wrong one
pub record GivesNoLog (u : Unpicked) (text source : List ℕ) : Type 0 where
  pub core : Core
  pub program : ComesTo source core
  pub arguments : List Value
  pub fit : Means core u.texts arguments
  pub k : ℕ
  pub refuses : IsNoLogWith core u arguments text k

-- something is asked of such a log
abbrev pub HasNoLog : Aim → List ℕ → Type 0
HasNoLog (of_program (simulates w)) source = ⊥
HasNoLog (of_program (replays u text)) source = ⊥
HasNoLog (of_program (judges purpose u text)) source = GivesNoLog u text source
HasNoLog (of_program checks) source = ⊥
HasNoLog (of_program lists) source = ⊥
HasNoLog (of_program (tries t)) source = ⊥
HasNoLog lays_out source = ⊥

-- a layout is asked for, which has more bytes than a source may have
abbrev pub IsTooLong : Aim → List ℕ → Type 0
IsTooLong (of_program aim) source = ⊥
IsTooLong lays_out source = (text : List ℕ) × HasLayout source text × (MOST_BYTES < length text)

abbrev pub IsExit : Verdict → Type 0
IsExit v = (x : Option Value) × (v ≡ verdict.Exit x)

abbrev pub IsFault : Verdict → Type 0
IsFault v = (kind : FaultKind) × (name : List ℕ) × (line : ℕ) × (v ≡ verdict.Fault kind name line)

-- a file isn't there, or has more bytes than these
abbrev pub IsNoContent : ℕ → Option (List ℕ) → Type 0
IsNoContent most None = Unit {0}
IsNoContent most (Some content) = most < length content

-- the shelf failed, or the file of this name is none of its, or is too long
abbrev pub IsUnread : ℕ → List ℕ → ShelfUse → Type 0
IsUnread most file shelf = ShelfRose shelf ⊎ IsSomeAnd shelf.files (λ files. IsNoContent most (files file))

-- a file that the words ask for can't be read
abbrev pub CannotBeRead : ShelfUse → Wish → Type 0
CannotBeRead shelf nothing = ⊥
CannotBeRead shelf (of_task (OfFile file purpose)) = IsUnread MOST_BYTES file shelf
CannotBeRead shelf (of_task (OfPair pair)) = IsUnread MOST_BYTES pair.file shelf ⊎ IsUnread MOST_BESIDE pair.beside shelf
CannotBeRead shelf (of_task (OfLog file)) = IsUnread MOST_LOG_BYTES file shelf
CannotBeRead shelf (of_task (OfFactory size)) = ⊥
CannotBeRead shelf (of_task (OfTopic topic)) = ⊥

-- the status is this one exactly where the cause holds, unless memory is wanting
abbrev pub IsExactly : Call → ℕ → Type 0 → Type 0
IsExactly call n cause = (call.status ≡ n → cause) × (cause → (call.status ≡ n) ⊎ (call.status ≡ statuses.no_memory))

-- the shelf tells these files and nothing fails, or no sink fails and the words name no file
pub data GoesWell (call : Call) (files : Files) : Type 0 where
  with_files : call.shelf.files ≡ Some files → NothingFailed call → GoesWell call files
  by_words : NamesNoFile (wish_of call.words) → SinkStood call.out → SinkStood call.log → GoesWell call files

-- of a cause in files that the shelf may have; and exactly where it holds, where all goes well
pub record IsExactlyIn (call : Call) (n : ℕ) (P : Files → Type 0) : Type 0 where
  pub only : call.status ≡ n → (files : Files) × MayHold call.shelf files × P files
  pub exactly : (files : Files) → GoesWell call files → IsExactly call n (P files)

-- of a cause in the source that is asked for
abbrev pub IsExactlyOf : Call → ℕ → (Aim → List ℕ → Type 0) → Type 0
IsExactlyOf call n P = IsExactlyIn call n (λ files. AsksFor call files P)

-- a run or an experiment has completed, a program is accepted, listed, laid out or can give a log, a log of old is brought up, or help is told
abbrev pub AsksForDone : Runs → Call → Files → Type 0
AsksForDone runs call files = AsksFor call files (IsDone runs) ⊎ (AsksForLog call files ComesUp ⊎ AsksForHelp call)

-- a sink that is stopped has failed
abbrev pub StoppedByFailure : SinkUse → Type 0
StoppedByFailure sink = sink.stopped ≡ true → SinkRose sink

-- when each status comes
pub record Causes (runs : Runs) (call : Call) : Type 0 where
  pub done : IsExactlyIn call statuses.completed (AsksForDone runs call)
  pub exit : IsExactlyOf call statuses.exited (Ends runs IsExit)
  pub deadlock : IsExactlyOf call statuses.deadlocked (EndsOrTries runs (λ v. v ≡ verdict.Deadlock) Deadlocked)
  pub fault : IsExactlyOf call statuses.faulted (EndsOrTries runs IsFault Faulted)
  pub out_of_steps : IsExactlyOf call statuses.out_of_steps (EndsOrTries runs (λ v. v ≡ verdict.OutOfSteps) OutOfSteps)
  pub stopped : IsExactlyOf call statuses.stopped (Ends runs (λ v. v ≡ verdict.Stopped))
  pub without_value : IsExactlyOf call statuses.without_value (Tries WithoutValue)
  pub no_experiment : IsExactlyOf call statuses.no_experiment (Tries Missing)
  pub lexical : IsExactlyOf call statuses.lexical (λ aim. HasLexicalFault)
  pub syntax : IsExactlyOf call statuses.syntax (λ aim. HasSyntaxFault)
  pub typing : IsExactlyOf call statuses.typing IsMistyped
  pub arguments : IsExactlyOf call statuses.arguments HasUnfitArguments
  pub mispicked : IsExactlyOf call statuses.mispicked HasMispick
  pub no_log : IsExactlyOf call statuses.no_log HasNoLog
  pub layout_too_long : IsExactlyOf call statuses.layout_too_long IsTooLong
  pub misfit : IsExactlyIn call statuses.misfit (λ files. AsksForLog call files HasMisfit)
  pub no_request : call.out.stopped ≡ false → call.log.stopped ≡ false → IsExactly call statuses.no_request (wish_of call.words ≡ nothing)
  pub not_read : call.status ≡ statuses.not_read → CannotBeRead call.shelf (wish_of call.words)
  pub not_written : (call.status ≡ statuses.not_written) ↔ ((call.out.stopped ≡ true) ⊎ (call.log.stopped ≡ true))
  -- each sink by its own count
  pub out_failed : StoppedByFailure call.out
  pub log_failed : StoppedByFailure call.log

-- a program that is asked to be run, with arguments that fit, is run to its end: the status is that of its verdict, unless
-- memory is wanting
abbrev pub IsComplete : Runs → Call → Type 0
IsComplete runs call =
    (files : Files) → GoesWell call files → (aim : Aim) (source : List ℕ) → IsAskedSource call files aim source → (w : Wanted) → IsRunAsked aim w
    → (core : Core) → ComesTo source core → (arguments : List Value) → Means core w.texts arguments
    → (course : Course) × runs_for runs aim core (settings_with w arguments) course
    × ((call.status ≡ status_of course.ending.verdict) ⊎ (call.status ≡ statuses.no_memory))
