-- The laws that the promises rest on, as their functions' contracts give them.
use Rattle.std.proofs.Common.{◌≡◌, ◌≢◌, ℕ, ◌≤◌, List, length, Result, ◌⊎◌}
use Rattle.std.specs.Prelude.{Ok, Err}
use Rattle.chi_cli.specs.declared.request.Pick as request
use Rattle.chi_cli.specs.declared.request.Request.{Request}
use Rattle.chi_cli.specs.declared.args.ArgFault.TheVariants as arg
use Rattle.chi_cli.specs.Arguments.{IsNumber, values_of}
use Rattle.chi_cli.specs.Ranges.{IsInRange}
use Rattle.chi_cli.specs.Requests.{request_of}
use Rattle.chi_code.specs.declared.code.Code.{Code}
use Rattle.chi_code.specs.Codes.{Codes}
use Rattle.chi_io.specs.Shelf.{Files}
use Rattle.chi_token.specs.declared.place.Spanned.{Spanned}
use Rattle.chi_grammar.specs.declared.fault.ParseFault.{ParseFault}
use Rattle.chi_tree.specs.declared.definition.Program.{Program}
use Rattle.chi_tree_laws.specs.Answers.{IsAnswer, IsProgram}
use Rattle.chi_core.specs.declared.program.Core.{Core}
use Rattle.chi_core.specs.Kinds.{kinds_of}
use Rattle.chi_core.specs.Of.{at_start, AreOf}
use Rattle.chi_core.specs.Runs.{Told}
use Rattle.chi_core.specs.Sound.{Sound}
use Rattle.chi_engine.specs.Courses.{Course, Runs, MayHave, IsRunOf, ComesToOne}
use Rattle.chi_engine.specs.Settings.{Settings, policy_of}
use Rattle.chi_lex.specs.declared.lexer.TheConstants.{MOST_BYTES}
use Rattle.chi_explain.specs.Lexical as lexical_told
use Rattle.chi_explain_runs.specs.Laws.{WaitingToldAlways, WaitingToldOnce}
use Rattle.chi_explain_syntax.specs.Syntax.{IsSyntaxExplanation}
use Rattle.chi_lex.specs.declared.fault.LexFault.{LexFault}
use Rattle.chi_lex.specs.Reading as lexical
use Rattle.chi_lex.specs.Reading.{Reads}
use Rattle.chi_check.specs.Programs.{checked, Answers}
use Rattle.chi_check_parsed.specs.Below.chi_check_laws.specs.Laws.{IsWhole}
use Rattle.chi_log.specs.Laws.{EachIsJudged, OneFirstWrong, OneLog}
use Rattle.chi_picks.specs.Lists as picks
use Rattle.chi_trace.specs.Logs as logs
use Rattle.chi_trace.specs.Logs.{IsUp}
use Rattle.chi_sched.specs.Policies.{listed}
use Rattle.chi_types.specs.declared.ty.Ty.{Ty}
use Rattle.chi_value.specs.declared.value.Value.{Value}
use Rattle.chi_xper_machines.specs.declared.tale.Ended.{Ended}
use Rattle.chi_xper_machines.specs.declared.terms.ExperimentTerms.{ExperimentTerms}
use Rattle.chi_xper_machines.specs.Trials.{Trial, IsTrial, EndsSo, Logs}
use Rattle.chi_tool.specs.declared.task.Asked.{Asked}
use Rattle.chi_tool.specs.declared.task.ProgramPurpose.TheVariants.{Experiment}
use Rattle.chi_tool.specs.declared.task.Purpose.TheVariants.{OfProgram, Explain}
use Rattle.chi_tool.specs.declared.task.Task.TheVariants.{OfFile}
use Rattle.chi_tool.specs.Refusals.{Report}
use Rattle.chi_tool.specs.Report.{IsReportOfSource, IsExplained, IsReportFor, IsReport}
use Rattle.chi_tool.specs.Running.{runs_for}
use Rattle.chi_tool.specs.Settings.{Trying, simulates, tries, wanted_of, Aim, IsShortFor, MayBeAimedAt, MayBeAimed}
use Rattle.chi_tool.specs.Simulations.{AreOwnPicks, IsDerived, course_of}
use Rattle.chi_tool.specs.Sources.{ComesTo}
use Rattle.chi_tool.specs.Words.{of_task, wish_of}

-- tokens are one program, or have one fault
pub record AnswerLaw : Type 0 where
  pub some : (tokens : List Spanned) → (result : Result Program ParseFault) × IsAnswer tokens result
  pub one : (tokens : List Spanned) (result other : Result Program ParseFault)
      → IsAnswer tokens result → IsAnswer tokens other → result ≡ other

-- of the run of the program that a source within the limit comes to, for whichever aim, comes one thing with settings that it may have
pub record RunLaw (runs : Runs) : Type 0 where
  pub some : (aim : Aim) (source : List ℕ) (core : Core) → length source ≤ MOST_BYTES → ComesTo source core → (s : Settings) → MayHave core s
      → (course : Course) × runs_for runs aim core s course
  pub one : (aim : Aim) → ComesToOne (runs_for runs aim)

-- it has a run by the meaning
abbrev pub HasRun : Type 0
HasRun = (source : List ℕ) (core : Core) → length source ≤ MOST_BYTES → ComesTo source core → (s : Settings) → MayHave core s → (course : Course) × IsRunOf core s course

-- that program has one code
pub record CodeLaw : Type 0 where
  pub some : (source : List ℕ) (core : Core) → length source ≤ MOST_BYTES → ComesTo source core → (code : Code) × Codes core code
  pub one : (core : Core) (code other : Code) → Codes core code → Codes core other → code ≡ other

-- of its first experiment comes one thing, on terms that may be had; that ends in one way, and one line tells how
pub record TrialLaw : Type 0 where
  pub some : (source : List ℕ) (core : Core) → length source ≤ MOST_BYTES → ComesTo source core → (t : Trying) → MayBeAimedAt (tries t)
      → (trial : Trial) × IsTrial core t.seed t.pick t.bound trial × ((ended : Ended) × EndsSo trial ended) × ((line : List ℕ) × Logs core trial line)
  pub one : (source : List ℕ) (core : Core) → length source ≤ MOST_BYTES → ComesTo source core → (t : Trying) (trial other : Trial)
      → IsTrial core t.seed t.pick t.bound trial → IsTrial core t.seed t.pick t.bound other → trial ≡ other
  pub one_ended : (trial : Trial) (ended other : Ended) → EndsSo trial ended → EndsSo trial other → ended ≡ other
  pub one_line : (core : Core) (trial : Trial) (line other : List ℕ) → Logs core trial line → Logs core trial other → line ≡ other

-- a program that breaks no rule comes to a core, which is sound where its source is within the limit
pub record CheckLaw : Type 0 where
  pub whole : (tokens : List Spanned) (tree : Program) → IsProgram tokens tree → IsWhole (checked tree)
  pub sound : (source : List ℕ) (tokens : List Spanned) (tree : Program) (core : Core) → length source ≤ MOST_BYTES → Reads source tokens → IsProgram tokens tree
      → Answers (Ok core) (checked tree) → Sound core

-- so the program that a source comes to is sound
pub comes_sound : CheckLaw → (source : List ℕ) (core : Core) → length source ≤ MOST_BYTES → ComesTo source core → Sound core
comes_sound law source core within comes =
    law.sound source comes.written.tokens comes.tree core within comes.written.read comes.written.parsed (comes.unbroken, comes.made)

-- the numbers of a request are in their ranges
abbrev pub RangeLaw : Type 0
RangeLaw = (words : List (List ℕ)) (asked : Request) → request_of words ≡ Ok asked → IsInRange asked

-- the values that texts mean are of the kinds of the parameters
abbrev pub ValuesLaw : Type 0
ValuesLaw =
    (names : List (List (List ℕ))) (params : List Ty) (texts : List (List ℕ)) (values : List Value)
    → values_of params texts ≡ Ok values → AreOf (at_start names) values (kinds_of params)

-- a text is brought up to one log, or has one first line that doesn't fit
pub record LogLaw : Type 0 where
  pub some : (text : List ℕ) → ((up : List ℕ) × IsUp text up) ⊎ ((k : ℕ) × logs.Misfits text k)
  pub one_log : (text up other : List ℕ) → IsUp text up → IsUp text other → up ≡ other
  pub one_line : (text : List ℕ) (j k : ℕ) → logs.Misfits text j → logs.Misfits text k → j ≡ k
  pub apart : (text up : List ℕ) (k : ℕ) → IsUp text up → logs.Misfits text k → ⊥

-- the run by the list of a derivation's own picks is that derivation
abbrev pub OwnLaw : Type 0
OwnLaw =
    (core : Core) (s : Settings) (told : Told) (log numbers : List ℕ) → IsDerived core s told log → AreOwnPicks core s told numbers
    → s.pick ≡ listed numbers → IsRunOf core s (course_of told log)

-- a text has one list of picks, or one first line that doesn't fit
pub record PicksLaw : Type 0 where
  pub some : (text : List ℕ) → ((numbers : List ℕ) × picks.Has text numbers) ⊎ ((k : ℕ) × picks.Misfits text k)
  pub one_list : (text numbers other : List ℕ) → picks.Has text numbers → picks.Has text other → numbers ≡ other
  pub one_line : (text : List ℕ) (j k : ℕ) → picks.Misfits text j → picks.Misfits text k → j ≡ k
  pub apart : (text numbers : List ℕ) (k : ℕ) → picks.Has text numbers → picks.Misfits text k → ⊥

-- a text is the log of one run of a program, or has one first wrong line
pub record JudgeLaw : Type 0 where
  pub some : EachIsJudged
  pub one_log : OneLog
  pub one_line : OneFirstWrong

-- a source within the limit has one report, by the runs of the meaning
pub record SourceLaw : Type 0 where
  pub some : (source : List ℕ) (aim : Aim) → length source ≤ MOST_BYTES → MayBeAimed aim → (r : Report) × IsReportFor IsRunOf aim source r
  pub one : (source : List ℕ) (aim : Aim) → IsShortFor aim source → (r other : Report) → IsReportFor IsRunOf aim source r → IsReportFor IsRunOf aim source other → r ≡ other

-- what is told at length of a fault is one text; and a fault of an argument names it
pub record ExplainLaw : Type 0 where
  pub lexical_some : (file source : List ℕ) (fault : LexFault) → lexical.HasFault source fault → (text : List ℕ) × lexical_told.IsExplanation file source fault text
  pub lexical_one : (file source : List ℕ) (fault : LexFault) (text other : List ℕ) → lexical_told.IsExplanation file source fault text
      → lexical_told.IsExplanation file source fault other → text ≡ other
  pub syntax_some : (file source : List ℕ) (tokens : List Spanned) (fault : ParseFault) → IsAnswer tokens (Err fault) → (text : List ℕ) × IsSyntaxExplanation file source tokens fault text
  pub syntax_one : (file source : List ℕ) (tokens : List Spanned) (fault : ParseFault) (text other : List ℕ) → IsSyntaxExplanation file source tokens fault text
      → IsSyntaxExplanation file source tokens fault other → text ≡ other
  pub kind : (params : List Ty) (args : List (List ℕ)) (k : ℕ) → values_of params args ≡ Err (arg.Kind k) → IsNumber params k
  pub text : (params : List Ty) (args : List (List ℕ)) (k : ℕ) → values_of params args ≡ Err (arg.Text k) → IsNumber params k × IsNumber args k
  pub memory : (params : List Ty) (args : List (List ℕ)) → values_of params args ≢ Err arg.NoMemory
  pub waits_one : WaitingToldOnce
  pub waits_some : WaitingToldAlways

-- words and files have one report; each report of a simulation that words ask to be told at length can be told so, and what comes of an experiment that
-- they ask for can be told
pub record ReportLaw (runs : Runs) : Type 0 where
  pub some : (words : List (List ℕ)) (files : Files) → (r : Report) × IsReport runs words files r
  pub one : (words : List (List ℕ)) (files : Files) (r other : Report) → IsReport runs words files r → IsReport runs words files other → r ≡ other
  pub explained : (words : List (List ℕ)) (file : List ℕ) (a : Asked request.Pick) → wish_of words ≡ of_task (OfFile file (Explain a))
      → (source : List ℕ) → length source ≤ MOST_BYTES → (plain : Report) → IsReportOfSource runs source (simulates (wanted_of a)) plain
      → (r : Report) × IsExplained runs file (wanted_of a) source r × (r.status ≡ plain.status)
  pub tried : (words : List (List ℕ)) (file : List ℕ) (t : ExperimentTerms) → wish_of words ≡ of_task (OfFile file (OfProgram (Experiment t)))
      → (source : List ℕ) → length source ≤ MOST_BYTES → (core : Core) → ComesTo source core
      → (trial : Trial) → IsTrial core t.seed (policy_of t.pick) t.bound trial → (line : List ℕ) × Logs core trial line
