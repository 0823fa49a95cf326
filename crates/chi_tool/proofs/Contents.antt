-- Which statuses the report of a file's content has, and which tasks have to do with a file.
use Rattle.std.proofs.Common.{◌≡◌, ◌≢◌, ℕ, ◌≤◌, List, ◌⊎◌, inl, inr, sym, ◌∙◌, ap, subst, refl, arith}
use Rattle.chi_cli.specs.declared.args.ArgFault.{ArgFault}
use Rattle.chi_cli_help.specs.declared.topic.Topic.{Topic}
use Rattle.chi_code.specs.declared.code.Code.{Code}
use Rattle.chi_core.specs.declared.program.Core.{Core}
use Rattle.chi_io.specs.Shelf.{Files}
use Rattle.chi_lex.specs.declared.lexer.TheConstants.{MOST_BYTES}
use Rattle.chi_load.specs.Factory.{factory_source}
use Rattle.chi_trace.specs.declared.log.TheConstants.{MOST_LOG_BYTES}
use Rattle.chi_value.specs.declared.value.Value.{Value}
use Rattle.chi_engine.specs.Courses.{Course, Runs}
use Rattle.chi_tool.specs.declared.task.LogPurpose.{LogPurpose}
use Rattle.chi_tool.specs.declared.task.LogPurpose.TheVariants.{Judge, Picks}
use Rattle.chi_tool.specs.declared.task.Purpose.{Purpose}
use Rattle.chi_tool.specs.declared.task.Purpose.TheVariants.{OfProgram, Explain, LayOut}
use Rattle.chi_tool.specs.declared.task.Task.{Task}
use Rattle.chi_tool.specs.declared.task.Task.TheVariants.{OfFile, OfLog, OfFactory, OfTopic}
use Rattle.chi_tool.specs.Call.{ShelfUse}
use Rattle.chi_tool.specs.Headline.{IsUnread, CannotBeRead}
use Rattle.chi_tool.specs.Refusals as refusal
use Rattle.chi_tool.specs.Refusals.{Report}
use Rattle.chi_tool.specs.Report.{IsReportWith, unfit, fit, IsReportByPicks, mispicked, replayed, IsReportOfReplay, IsReportOnLog, yes, no, IsReportOfJudging, IsReportOfProgram, IsReportOfSource, refused, program, IsReportOfLayout, faulty, laid_out, too_long, IsReportOfLog, up, misfit, IsReportOfFile, IsReportFor, IsReportTo, IsReportOfTask}
use Rattle.chi_tool.specs.Running.{IsRunReport, IsReportOfTrial, run_report}
use Rattle.chi_tool.specs.Settings.{Wanted, Unpicked, Trying, ProgramAim, simulates, replays, judges, checks, lists, tries, Aim, of_program, lays_out, wanted_of, aim_of, settings_with, plain}
use Rattle.chi_tool.specs.Sources.{IsRefused, by_lexer, by_parser, unparsed, by_checker}
use Rattle.chi_tool.specs.Words.{of_task, NamesNoFile}
use Rattle.chi_tool.proofs.Verdicts.{status_bound, OfTrialStatus, ended_bound}

pub status_ap : (r s : Report) → r ≡ s → r.status ≡ s.status
status_ap r s e = ap (λ x. x.status) e

-- what a program's report is of
data ProgramCase (core : Core) (r : Report) : Type 0 where
  is_accepted : r ≡ refusal.accepted → ProgramCase core r
  is_listed : (code : Code) → r ≡ refusal.listed code → ProgramCase core r
  is_unfit : (wanted given : ℕ) (fault : ArgFault) → r ≡ refusal.unfit_arguments wanted given fault → ProgramCase core r
  is_mispicked : (k : ℕ) → r ≡ refusal.mispicked k → ProgramCase core r
  is_judged : (purpose : LogPurpose) (output numbers : List ℕ) → r ≡ refusal.is_log purpose output numbers → ProgramCase core r
  is_no_log : (k : ℕ) → r ≡ refusal.no_log k → ProgramCase core r
  is_run : (course : Course) → r ≡ run_report core course → ProgramCase core r
  is_trial : OfTrialStatus r.status → ProgramCase core r

with_case : (core : Core) (texts : List (List ℕ)) (P : List Value → Report → Type 0) (r : Report) → ((values : List Value) → P values r → ProgramCase core r)
    → IsReportWith core texts P r → ProgramCase core r
with_case core texts P r of (unfit wanted fault misfits is) = is_unfit wanted _ fault is
with_case core texts P r of (fit values means is) = of values is

picks_case : (core : Core) (u : Unpicked) (text : List ℕ) (values : List Value) (r : Report) → IsReportByPicks core u text values r → ProgramCase core r
picks_case core u text values r (mispicked k misfits is) = is_mispicked k is
picks_case core u text values r (replayed numbers has of) = is_run of.course of.is

log_case : (core : Core) (purpose : LogPurpose) (u : Unpicked) (text : List ℕ) (values : List Value) (r : Report) → IsReportOnLog core purpose u text values r → ProgramCase core r
log_case core purpose u text values r (yes output numbers log is) = is_judged purpose output numbers is
log_case core purpose u text values r (no k refuses is) = is_no_log k is

-- which statuses the report of an experiment has
pub trial_bound : (core : Core) (t : Trying) (r : Report) → IsReportOfTrial core t r → OfTrialStatus r.status
trial_bound core t r of = subst OfTrialStatus (sym (status_ap r _ of.told)) (ended_bound of.ended)

program_case : (runs : Runs) (core : Core) (aim : ProgramAim) (r : Report) → IsReportOfProgram runs core aim r → ProgramCase core r
program_case runs core checks r is = is_accepted is
program_case runs core lists r is = is_listed is.code is.listed
program_case runs core (tries t) r is = is_trial (trial_bound core t r is)
program_case runs core (simulates w) r is = with_case core w.texts (λ values. IsRunReport runs core (settings_with w values)) r (λ values of. is_run of.course of.is) is
program_case runs core (replays u text) r is = with_case core u.texts (IsReportByPicks core u text) r (λ values of. picks_case core u text values r of) is
program_case runs core (judges purpose u text) r is = with_case core u.texts (IsReportOnLog core purpose u text) r (λ values of. log_case core purpose u text values r of) is

-- which statuses a run's report has
pub ran_bound : (core : Core) (course : Course) (r : Report) → r ≡ run_report core course → (r.status ≡ 0) ⊎ ((10 ≤ r.status) × (r.status ≤ 14))
ran_bound core course r e = by (status_bound course.ending.verdict) (status_ap r _ e)
  where
    by : {n : ℕ} → (n ≡ 0) ⊎ ((10 ≤ n) × (n ≤ 14)) → r.status ≡ n → (r.status ≡ 0) ⊎ ((10 ≤ r.status) × (r.status ≤ 14))
    by (inl z) is = inl (is ∙ z)
    by (inr b) is = inr (let low = b.0 in let high = b.1 in (omega arith, omega arith))

-- which that of a run by picks has
pub replayed_bound : (core : Core) (u : Unpicked) (text : List ℕ) (r : Report) → IsReportOfReplay core u text r
    → (r.status ≡ 0) ⊎ (((10 ≤ r.status) × (r.status ≤ 14)) ⊎ ((r.status ≡ 23) ⊎ (r.status ≡ 26)))
replayed_bound core u text r (unfit wanted fault misfits e) = inr (inr (inl (status_ap r _ e)))
replayed_bound core u text r (fit values means (mispicked k misfits e)) = inr (inr (inr (status_ap r _ e)))
replayed_bound core u text r (fit values means (replayed numbers has of)) = by (ran_bound core of.course r of.is)
  where
    by : (r.status ≡ 0) ⊎ ((10 ≤ r.status) × (r.status ≤ 14)) → (r.status ≡ 0) ⊎ (((10 ≤ r.status) × (r.status ≤ 14)) ⊎ ((r.status ≡ 23) ⊎ (r.status ≡ 26)))
    by (inl z) = inl z
    by (inr b) = inr (inl b)

-- which that of a log has
pub is_log_status : (purpose : LogPurpose) (output numbers : List ℕ) → (refusal.is_log purpose output numbers).status ≡ 0
is_log_status Judge output numbers = refl
is_log_status Picks output numbers = refl

pub judging_bound : (core : Core) (purpose : LogPurpose) (u : Unpicked) (text : List ℕ) (r : Report) → IsReportOfJudging core purpose u text r
    → (r.status ≡ 0) ⊎ ((r.status ≡ 23) ⊎ (r.status ≡ 25))
judging_bound core purpose u text r (unfit wanted fault misfits e) = inr (inl (status_ap r _ e))
judging_bound core purpose u text r (fit values means (yes output numbers log e)) = inl (status_ap r _ e ∙ is_log_status purpose output numbers)
judging_bound core purpose u text r (fit values means (no k refuses e)) = inr (inr (status_ap r _ e))

-- which a program's report has
abbrev pub OfProgramStatus : ℕ → Type 0
OfProgramStatus n = (n ≡ 0) ⊎ (((10 ≤ n) × (n ≤ 15)) ⊎ ((n ≡ 23) ⊎ (((25 ≤ n) × (n ≤ 26)) ⊎ (n ≡ 28))))

program_status : (core : Core) (r : Report) → ProgramCase core r → OfProgramStatus r.status
program_status core r (is_accepted e) = inl (status_ap r _ e)
program_status core r (is_listed code e) = inl (status_ap r _ e)
program_status core r (is_unfit wanted given fault e) = inr (inr (inl (status_ap r _ e)))
program_status core r (is_mispicked k e) = let is = status_ap r _ e in inr (inr (inr (inl (omega arith, omega arith))))
program_status core r (is_judged purpose output numbers e) = inl (status_ap r _ e ∙ is_log_status purpose output numbers)
program_status core r (is_no_log k e) = let is = status_ap r _ e in inr (inr (inr (inl (omega arith, omega arith))))
program_status core r (is_run course e) = by (ran_bound core course r e)
  where
    by : (r.status ≡ 0) ⊎ ((10 ≤ r.status) × (r.status ≤ 14)) → OfProgramStatus r.status
    by (inl z) = inl z
    by (inr b) = let high = b.1 in inr (inl (b.0, omega arith))
program_status core r (is_trial its) = by its
  where
    by : OfTrialStatus r.status → OfProgramStatus r.status
    by (inl z) = inl z
    by (inr (inl b)) = let low = b.0 in let high = b.1 in inr (inl (omega arith, omega arith))
    by (inr (inr (inl e))) = inr (inl (omega arith, omega arith))
    by (inr (inr (inr e))) = inr (inr (inr (inr e)))

pub source_program : (runs : Runs) (core : Core) (aim : ProgramAim) (r : Report) → IsReportOfProgram runs core aim r → OfProgramStatus r.status
source_program runs core aim r is = program_status core r (program_case runs core aim r is)

-- which a source's refusal has
pub refused_bound : (source : List ℕ) (r : Report) → IsRefused source r → (20 ≤ r.status) × (r.status ≤ 22)
refused_bound source r (unparsed (by_lexer fault has e)) = let is = status_ap r _ e in (omega arith, omega arith)
refused_bound source r (unparsed (by_parser tokens fault has e)) = let is = status_ap r _ e in (omega arith, omega arith)
refused_bound source r (by_checker fault has e) = let is = status_ap r _ e in (omega arith, omega arith)

-- and which a source's report has
abbrev pub OfSourceStatus : ℕ → Type 0
OfSourceStatus n = (n ≡ 0) ⊎ (((10 ≤ n) × (n ≤ 23)) ⊎ (((25 ≤ n) × (n ≤ 26)) ⊎ (n ≡ 28)))

pub source_bound : (runs : Runs) (source : List ℕ) (aim : ProgramAim) (r : Report) → IsReportOfSource runs source aim r → OfSourceStatus r.status
source_bound runs source aim r (refused is) = let b = refused_bound source r is in let low = b.0 in let high = b.1 in inr (inl (omega arith, omega arith))
source_bound runs source aim r (program core comes of) = widened (source_program runs core aim r of)
  where
    widened : OfProgramStatus r.status → OfSourceStatus r.status
    widened (inl z) = inl z
    widened (inr (inl b)) = let high = b.1 in inr (inl (b.0, omega arith))
    widened (inr (inr (inl e))) = inr (inl (omega arith, omega arith))
    widened (inr (inr (inr e))) = inr (inr e)

-- the same where its program is run by a policy
abbrev pub OfSimulatedStatus : ℕ → Type 0
OfSimulatedStatus n = (n ≡ 0) ⊎ (((10 ≤ n) × (n ≤ 14)) ⊎ ((20 ≤ n) × (n ≤ 23)))

pub simulated_bound : (runs : Runs) (source : List ℕ) (w : Wanted) (r : Report) → IsReportOfSource runs source (simulates w) r → OfSimulatedStatus r.status
simulated_bound runs source w r (refused is) = let b = refused_bound source r is in let low = b.0 in let high = b.1 in inr (inr (omega arith, omega arith))
simulated_bound runs source w r (program core comes (unfit wanted fault misfits e)) = let is = status_ap r _ e in inr (inr (omega arith, omega arith))
simulated_bound runs source w r (program core comes (fit values means of)) = by (ran_bound core of.course r of.is)
  where
    by : (r.status ≡ 0) ⊎ ((10 ≤ r.status) × (r.status ≤ 14)) → OfSimulatedStatus r.status
    by (inl z) = inl z
    by (inr b) = inr (inl b)

-- which the report of its layout has
pub layout_bound : (source : List ℕ) (r : Report) → IsReportOfLayout source r → (r.status ≡ 0) ⊎ ((r.status ≡ 20) ⊎ ((r.status ≡ 21) ⊎ (r.status ≡ 27)))
layout_bound source r (faulty (by_lexer fault has e)) = inr (inl (status_ap r _ e))
layout_bound source r (faulty (by_parser tokens fault has e)) = inr (inr (inl (status_ap r _ e)))
layout_bound source r (laid_out text has within e) = inl (status_ap r _ e)
layout_bound source r (too_long text has above e) = inr (inr (inr (status_ap r _ e)))

-- which it has, whatever is done with it
abbrev pub OfAimStatus : ℕ → Type 0
OfAimStatus n = (n ≡ 0) ⊎ (((10 ≤ n) × (n ≤ 23)) ⊎ ((25 ≤ n) × (n ≤ 28)))

pub aim_bound : (runs : Runs) (aim : Aim) (source : List ℕ) (r : Report) → IsReportFor runs aim source r → OfAimStatus r.status
aim_bound runs (of_program aim) source r of = widened (source_bound runs source aim r of)
  where
    widened : OfSourceStatus r.status → OfAimStatus r.status
    widened (inl z) = inl z
    widened (inr (inl b)) = inr (inl b)
    widened (inr (inr (inl b))) = let high = b.1 in inr (inr (b.0, omega arith))
    widened (inr (inr (inr e))) = inr (inr (omega arith, omega arith))
aim_bound runs lays_out source r of = widened (layout_bound source r of)
  where
    widened : (r.status ≡ 0) ⊎ ((r.status ≡ 20) ⊎ ((r.status ≡ 21) ⊎ (r.status ≡ 27))) → OfAimStatus r.status
    widened (inl z) = inl z
    widened (inr (inl e)) = inr (inl (omega arith, omega arith))
    widened (inr (inr (inl e))) = inr (inl (omega arith, omega arith))
    widened (inr (inr (inr e))) = inr (inr (omega arith, omega arith))

-- and which that of a log of old has
pub log_bound : (text : List ℕ) (r : Report) → IsReportOfLog text r → (r.status ≡ 0) ⊎ (r.status ≡ 24)
log_bound text r (up log is e) = inl (status_ap r _ e)
log_bound text r (misfit k is e) = inr (status_ap r _ e)

-- the status of a content's report is none of the refusals around it
pub record IsOfContent (n : ℕ) : Type 0 where
  pub is_request : n ≢ 3
  pub is_read : n ≢ 4
  pub is_written : n ≢ 5

of_content : (n : ℕ) → (n ≡ 0) ⊎ (10 ≤ n) → IsOfContent n
of_content n (inl z) = record { is_request = λ h. omega arith; is_read = λ h. omega arith; is_written = λ h. omega arith }
of_content n (inr low) = record { is_request = λ h. omega arith; is_read = λ h. omega arith; is_written = λ h. omega arith }

pub aim_status : (runs : Runs) (aim : Aim) (source : List ℕ) (r : Report) → IsReportFor runs aim source r → IsOfContent r.status
aim_status runs aim source r of = of_content r.status (low (aim_bound runs aim source r of))
  where
    low : OfAimStatus r.status → (r.status ≡ 0) ⊎ (10 ≤ r.status)
    low (inl z) = inl z
    low (inr (inl b)) = inr b.0
    low (inr (inr b)) = let above = b.0 in inr (omega arith)

-- what words ask of a file is done as its plain report has it, and has the status of that
pub as_plain : (runs : Runs) (name : List ℕ) (purpose : Purpose) (source : List ℕ) (r : Report) → IsReportTo runs name purpose source r
    → (plain : Report) × IsReportFor runs (aim_of purpose) source plain × (r.status ≡ plain.status)
as_plain runs name (OfProgram p) source r of = (r, of, refl)
as_plain runs name (Explain a) source r of = (of.plain, of.is, status_ap r _ of.told)
as_plain runs name LayOut source r of = (r, of, refl)

purpose_status : (runs : Runs) (name : List ℕ) (purpose : Purpose) (source : List ℕ) (r : Report) → IsReportTo runs name purpose source r → IsOfContent r.status
purpose_status runs name purpose source r of =
    let it = as_plain runs name purpose source r of in
    subst IsOfContent (sym it.2) (aim_status runs (aim_of purpose) source it.0 it.1)

pub source_status : (runs : Runs) (source : List ℕ) (aim : ProgramAim) (r : Report) → IsReportOfSource runs source aim r → IsOfContent r.status
source_status runs source aim r of = aim_status runs (of_program aim) source r of

log_status : (text : List ℕ) (r : Report) → IsReportOfLog text r → IsOfContent r.status
log_status text r of = of_content r.status (low (log_bound text r of))
  where
    low : (r.status ≡ 0) ⊎ (r.status ≡ 24) → (r.status ≡ 0) ⊎ (10 ≤ r.status)
    low (inl z) = inl z
    low (inr e) = inr (omega arith)

-- a task is done with the content of the file of this name, within a limit, and P says its report
pub record IsOfFile (runs : Runs) (t : Task) (name : List ℕ) (most : ℕ) (P : List ℕ → Report → Type 0) : Type 0 where
  pub reports : (files : Files) (r : Report) → IsReportOfFile most P (files name) r → IsReportOfTask runs t files r
  pub unread : (shelf : ShelfUse) → IsUnread most name shelf → CannotBeRead shelf (of_task t)
  pub named : NamesNoFile (of_task t) → ⊥
  pub own : (content : List ℕ) (r : Report) → P content r → IsOfContent r.status

pub source_of_file : (runs : Runs) (name : List ℕ) (purpose : Purpose) → IsOfFile runs (OfFile name purpose) name MOST_BYTES (IsReportTo runs name purpose)
source_of_file runs name purpose = record {
  reports = λ files r is. is;
  unread = λ shelf is. is;
  named = λ none. none;
  own = λ source r is. purpose_status runs name purpose source r is;
}

pub log_of_file : (runs : Runs) (name : List ℕ) → IsOfFile runs (OfLog name) name MOST_LOG_BYTES IsReportOfLog
log_of_file runs name = record { reports = λ files r is. is; unread = λ shelf is. is; named = λ none. none; own = log_status }

-- a task whose report is the same with whichever files: P says it
pub record IsUnfiled (runs : Runs) (t : Task) (P : Report → Type 0) : Type 0 where
  pub reports : (files : Files) (r : Report) → P r → IsReportOfTask runs t files r
  pub own : (r : Report) → P r → IsOfContent r.status

-- the reports of a factory, and of help

abbrev pub IsOfFactory : Runs → ℕ → Report → Type 0
IsOfFactory runs size = IsReportOfSource runs (factory_source size) (simulates (wanted_of plain))

abbrev pub IsOfTopic : Topic → Report → Type 0
IsOfTopic topic r = r ≡ refusal.helped topic

pub of_factory : (runs : Runs) (size : ℕ) → IsUnfiled runs (OfFactory size) (IsOfFactory runs size)
of_factory runs size = record { reports = λ files r is. is; own = source_status runs (factory_source size) (simulates (wanted_of plain)) }

pub of_topic : (runs : Runs) (topic : Topic) → IsUnfiled runs (OfTopic topic) (IsOfTopic topic)
of_topic runs topic = record { reports = λ files r is. is; own = λ r e. of_content r.status (inl (status_ap r _ e)) }
