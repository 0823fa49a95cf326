-- The report of words and files: the status, and every byte that is written.
use Rattle.std.specs.Prelude.{◌≡◌, ℕ, ◌<◌, ◌≤◌, List, ◌++◌, length, Option, Some, None}
use Rattle.chi_cli.specs.declared.args.ArgFault.{ArgFault}
use Rattle.chi_code.specs.declared.code.Code.{Code}
use Rattle.chi_code.specs.Codes.{Codes}
use Rattle.chi_io.specs.Shelf.{Files}
use Rattle.chi_load.specs.Factory.{factory_source}
use Rattle.chi_lex.specs.declared.lexer.TheConstants.{MOST_BYTES}
use Rattle.chi_core.specs.declared.program.Core.{Core}
use Rattle.chi_engine.specs.Courses.{Runs, IsRunOf}
use Rattle.chi_explain.specs.Explanations.{explained}
use Rattle.chi_explain.specs.Lexical as lexical
use Rattle.chi_explain_counts.specs.Numbers.{told_words}
use Rattle.chi_explain_syntax.specs.Syntax.{IsSyntaxExplanation}
use Rattle.chi_trace.specs.declared.log.TheConstants.{MOST_LOG_BYTES}
use Rattle.chi_trace.specs.Logs as logs
use Rattle.chi_value.specs.declared.value.Value.{Value}
use Rattle.chi_picks.specs.Lists as picks
use Rattle.chi_sched.specs.Policies.{listed}
use Rattle.chi_tool.specs.declared.task.TheConstants.{MOST_BESIDE}
use Rattle.chi_tool.specs.declared.task.LogPurpose.{LogPurpose}
use Rattle.chi_tool.specs.declared.task.Pair.{Pair}
use Rattle.chi_tool.specs.declared.task.Purpose.{Purpose}
use Rattle.chi_tool.specs.declared.task.Purpose.TheVariants.{OfProgram, Explain, LayOut}
use Rattle.chi_tool.specs.declared.task.Task.{Task}
use Rattle.chi_tool.specs.declared.task.Task.TheVariants.{OfFile, OfPair, OfLog, OfFactory, OfTopic}
use Rattle.chi_tool.specs.Arguments.{Means, Misfits, IsMisfitExplained}
use Rattle.chi_tool.specs.Refusals as refusal
use Rattle.chi_tool.specs.Layouts.{HasLayout}
use Rattle.chi_tool.specs.Refusals.{Report, usage, no_such_file, file_too_long, unfit_arguments, brought_up, accepted}
use Rattle.chi_tool.specs.OnLogs.{IsLogWith, IsNoLogWith}
use Rattle.chi_tool.specs.Running.{IsRunReport, IsReportOfTrial, IsRestTold, end_told}
use Rattle.chi_tool.specs.Settings.{Wanted, Unpicked, picked_by, ProgramAim, simulates, replays, judges, checks, lists, tries, Aim, of_program, program_aim, lays_out, wanted_of, pair_aim, settings_with, plain}
use Rattle.chi_tool.specs.Sources.{IsUnparsed, by_lexer, by_parser, IsRefused, unparsed, by_checker, ComesTo}
use Rattle.chi_tool.specs.Words.{Wish, nothing, of_task, wish_of}

-- a program with which something is done by arguments: these are refused, or P says what comes of them
pub data IsReportWith (core : Core) (texts : List (List ℕ)) (P : List Value → Report → Type 0) (r : Report) : Type 0 where
  unfit : (wanted : ℕ) (fault : ArgFault) → Misfits core texts wanted fault → r ≡ unfit_arguments wanted (length texts) fault → IsReportWith core texts P r
  fit : (values : List Value) → Means core texts values → P values r → IsReportWith core texts P r

-- it is run with them
abbrev pub IsReportOfRun : Runs → Core → Wanted → Report → Type 0
IsReportOfRun runs core w r = IsReportWith core w.texts (λ values. IsRunReport runs core (settings_with w values)) r

-- a program that is run with arguments by the picks of a text: these are refused, or it is run by them
pub data IsReportByPicks (core : Core) (u : Unpicked) (text : List ℕ) (values : List Value) (r : Report) : Type 0 where
  mispicked : (k : ℕ) → picks.Misfits text k → r ≡ refusal.mispicked k → IsReportByPicks core u text values r
  replayed : (numbers : List ℕ) → picks.Has text numbers → IsRunReport IsRunOf core (settings_with (picked_by (listed numbers) u) values) r
      → IsReportByPicks core u text values r

abbrev pub IsReportOfReplay : Core → Unpicked → List ℕ → Report → Type 0
IsReportOfReplay core u text r = IsReportWith core u.texts (IsReportByPicks core u text) r

-- a program that is asked with arguments of a text: the text is a log that it can give, or isn't, with its first wrong line
pub data IsReportOnLog (core : Core) (purpose : LogPurpose) (u : Unpicked) (text : List ℕ) (values : List Value) (r : Report) : Type 0 where
  yes : (output numbers : List ℕ) → IsLogWith core u values text output numbers → r ≡ refusal.is_log purpose output numbers
      → IsReportOnLog core purpose u text values r
  no : (k : ℕ) → IsNoLogWith core u values text k → r ≡ refusal.no_log k → IsReportOnLog core purpose u text values r

abbrev pub IsReportOfJudging : Core → LogPurpose → Unpicked → List ℕ → Report → Type 0
IsReportOfJudging core purpose u text r = IsReportWith core u.texts (IsReportOnLog core purpose u text) r

-- a program whose code is to be listed: the listing of what is its code, by the layout of code
pub record IsReportOfCode (core : Core) (r : Report) : Type 0 where
  pub code : Code
  pub is : Codes core code
  pub listed : r ≡ refusal.listed code

-- what is done with a program
abbrev pub IsReportOfProgram : Runs → Core → ProgramAim → Report → Type 0
IsReportOfProgram runs core (simulates w) r = IsReportOfRun runs core w r
IsReportOfProgram runs core (replays u text) r = IsReportOfReplay core u text r
IsReportOfProgram runs core (judges purpose u text) r = IsReportOfJudging core purpose u text r
IsReportOfProgram runs core checks r = r ≡ accepted
IsReportOfProgram runs core lists r = IsReportOfCode core r
IsReportOfProgram runs core (tries t) r = IsReportOfTrial core t r

-- a source's report where something is done with its program: its refusal, or that of the program that it comes to
pub data IsReportOfSource (runs : Runs) (source : List ℕ) (aim : ProgramAim) (r : Report) : Type 0 where
  refused : IsRefused source r → IsReportOfSource runs source aim r
  program : (core : Core) → ComesTo source core → IsReportOfProgram runs core aim r → IsReportOfSource runs source aim r

-- What is told at length of a simulation, in place of the log of its report: where the source of this file is refused, and why; why its
-- arguments are; or what is logged of its run, how that ended, and who waits for what where it came to rest.
abbrev pub IsExplanation : (runs : Runs) (file source : List ℕ) (w : Wanted) (r : Report) → IsReportOfSource runs source (simulates w) r → List ℕ → Type 0
IsExplanation runs file source w r (refused (unparsed (by_lexer fault has is))) text = lexical.IsExplanation file source fault text
IsExplanation runs file source w r (refused (unparsed (by_parser tokens fault has is))) text = IsSyntaxExplanation file source tokens fault text
IsExplanation runs file source w r (refused (by_checker fault has is)) text = text ≡ explained file source fault.place (told_words source has.tree fault.rule fault.place)
IsExplanation runs file source w r (program core comes (unfit wanted fault misfits is)) text = IsMisfitExplained misfits.model.params w.texts fault text
IsExplanation runs file source w r (program core comes (fit values means of)) text =
    (rest : List ℕ) × IsRestTold core source (settings_with w values) rest × (text ≡ of.course.log ++ end_told source core rest of.course.ending)

-- a source's report where its simulation is told at length: that of the simulation, with the explanation in place of its log
pub record IsExplained (runs : Runs) (file : List ℕ) (w : Wanted) (source : List ℕ) (r : Report) : Type 0 where
  pub plain : Report
  pub is : IsReportOfSource runs source (simulates w) plain
  pub text : List ℕ
  pub explains : IsExplanation runs file source w plain is text
  pub told : r ≡ refusal.at_length plain text

-- its report where it is laid out, as it is written: its refusal, its layout, or that this has more bytes than a source may have
pub data IsReportOfLayout (source : List ℕ) (r : Report) : Type 0 where
  faulty : IsUnparsed source r → IsReportOfLayout source r
  laid_out : (text : List ℕ) → HasLayout source text → length text ≤ MOST_BYTES → r ≡ refusal.laid_out text → IsReportOfLayout source r
  too_long : (text : List ℕ) → HasLayout source text → MOST_BYTES < length text → r ≡ refusal.layout_too_long → IsReportOfLayout source r

-- a log's report: what it is brought up to, or its first line that doesn't fit
pub data IsReportOfLog (text : List ℕ) (r : Report) : Type 0 where
  up : (log : List ℕ) → logs.IsUp text log → r ≡ brought_up log → IsReportOfLog text r
  misfit : (k : ℕ) → logs.Misfits text k → r ≡ refusal.misfit k → IsReportOfLog text r

-- a file's report: its refusal where it isn't there or has more bytes than these, or what P says of its content
pub data IsReportOfFile (most : ℕ) (P : List ℕ → Report → Type 0) (file : Option (List ℕ)) (r : Report) : Type 0 where
  missing : file ≡ None → r ≡ no_such_file → IsReportOfFile most P file r
  long : (content : List ℕ) → file ≡ Some content → most < length content → r ≡ file_too_long → IsReportOfFile most P file r
  fetched : (content : List ℕ) → file ≡ Some content → length content ≤ most → P content r → IsReportOfFile most P file r

-- what is said of a file that holds a source
abbrev pub IsReportFor : Runs → Aim → List ℕ → Report → Type 0
IsReportFor runs (of_program aim) source = IsReportOfSource runs source aim
IsReportFor runs lays_out source = IsReportOfLayout source

-- the same of a file of this name, as words ask
abbrev pub IsReportTo : Runs → List ℕ → Purpose → List ℕ → Report → Type 0
IsReportTo runs file (OfProgram p) source = IsReportFor runs (of_program (program_aim p)) source
IsReportTo runs file (Explain a) source = IsExplained runs file (wanted_of a) source
IsReportTo runs file LayOut source = IsReportFor runs lays_out source

-- what is said of two files, the source and the text: the first refusal of one is told, in this order
abbrev pub IsReportOfPair : Runs → Pair → Files → Report → Type 0
IsReportOfPair runs pair files r =
    IsReportOfFile MOST_BYTES (λ source. IsReportOfFile MOST_BESIDE (λ text. IsReportOfSource runs source (pair_aim pair.purpose text)) (files pair.beside)) (files pair.file) r

-- a factory is run like its source, with nothing asked for
abbrev pub IsReportOfTask : Runs → Task → Files → Report → Type 0
IsReportOfTask runs (OfFile file purpose) files r = IsReportOfFile MOST_BYTES (IsReportTo runs file purpose) (files file) r
IsReportOfTask runs (OfPair pair) files r = IsReportOfPair runs pair files r
IsReportOfTask runs (OfLog file) files r = IsReportOfFile MOST_LOG_BYTES IsReportOfLog (files file) r
IsReportOfTask runs (OfFactory size) files r = IsReportOfSource runs (factory_source size) (simulates (wanted_of plain)) r
IsReportOfTask runs (OfTopic topic) files r = r ≡ refusal.helped topic

abbrev pub IsReportOfWish : Runs → Wish → Files → Report → Type 0
IsReportOfWish runs nothing files r = r ≡ usage
IsReportOfWish runs (of_task t) files r = IsReportOfTask runs t files r

-- r is the report of these words and files, with what comes of the runs that words ask to be simulated: the first refusal among
-- words, files, bytes, tokens, program, arguments, and picks or log,
-- or what was asked for: the output, trace and verdict of the run, or the same told at length, as its refusals then are, that a text is a log that the program can give, with its run's output
-- or its picks, what its first experiment wrote and how that ended, that the program is accepted, the listing of its code, the layout of the source, what the log of old is
-- brought up to, or the text of help
abbrev pub IsReport : Runs → List (List ℕ) → Files → Report → Type 0
IsReport runs words files r = IsReportOfWish runs (wish_of words) files r
