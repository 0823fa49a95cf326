-- What a report is of, and which report is of what.
use Rattle.std.proofs.Common.{◌≡◌, ℕ, ◌≤◌, List, length, Option, Some, sym, subst, refl}
use Rattle.chi_io.specs.Shelf.{Files}
use Rattle.chi_load.specs.Factory.{factory_source}
use Rattle.chi_lex.specs.declared.lexer.TheConstants.{MOST_BYTES}
use Rattle.chi_trace.specs.declared.log.TheConstants.{MOST_LOG_BYTES}
use Rattle.chi_engine.specs.Courses.{Runs}
use Rattle.chi_tool.specs.declared.task.Purpose.{Purpose}
use Rattle.chi_tool.specs.declared.task.Purpose.TheVariants.{OfProgram, Explain, LayOut}
use Rattle.chi_tool.specs.declared.task.Task.{Task}
use Rattle.chi_tool.specs.declared.task.TheConstants.{MOST_BESIDE}
use Rattle.chi_tool.specs.declared.task.Task.TheVariants.{OfFile, OfPair, OfLog, OfFactory, OfTopic}
use Rattle.chi_tool.specs.Call.{Call}
use Rattle.chi_tool.specs.Headline.{AsksForHelp, IsAskedSource, held, beside, made, IsAskedLog}
use Rattle.chi_tool.specs.Refusals.{Report, usage, no_such_file, file_too_long, helped}
use Rattle.chi_tool.specs.Report.{IsReportOfSource, IsReportOfPair, IsReportOfLog, IsReportFor, IsReportTo, IsReportOfFile, missing, long, fetched, IsReportOfTask, IsReportOfWish, IsReport}
use Rattle.chi_tool.specs.Settings.{simulates, Aim, of_program, wanted_of, aim_of, pair_aim, plain}
use Rattle.chi_tool.specs.Words.{Wish, nothing, of_task, wish_of}
use Rattle.chi_tool.proofs.Contents.{as_plain, source_of_file, log_of_file}
use Rattle.chi_tool.proofs.LawClauses.{ReportLaw}
use Rattle.chi_tool.proofs.Promises.{is_report}

-- what a report is of
pub data CaseOf (runs : Runs) (call : Call) (files : Files) (r : Report) : Type 0 where
  asks_nothing : wish_of call.words ≡ nothing → r ≡ usage → CaseOf runs call files r
  is_missing : r ≡ no_such_file → CaseOf runs call files r
  is_long : r ≡ file_too_long → CaseOf runs call files r
  of_log : (text : List ℕ) → IsAskedLog call files text → IsReportOfLog text r → CaseOf runs call files r
  of_help : (asked : AsksForHelp call) → r ≡ helped asked.0 → CaseOf runs call files r
  of_source : (aim : Aim) (source : List ℕ) → IsAskedSource call files aim source → (plain : Report) → IsReportFor runs aim source plain → r.status ≡ plain.status
      → CaseOf runs call files r

module _ (runs : Runs) (call : Call) (files : Files) (r : Report) where
  file_case : (most : ℕ) (P : List ℕ → Report → Type 0) (o : Option (List ℕ))
      → ((content : List ℕ) → o ≡ Some content → length content ≤ most → P content r → CaseOf runs call files r) → IsReportOfFile most P o r → CaseOf runs call files r
  file_case most P o fits (missing there is) = is_missing is
  file_case most P o fits (long content there above is) = is_long is
  file_case most P o fits (fetched content there within is) = fits content there within is

  task_case : (t : Task) → wish_of call.words ≡ of_task t → IsReportOfTask runs t files r → CaseOf runs call files r
  task_case (OfFile name purpose) asked is =
      file_case MOST_BYTES (IsReportTo runs name purpose) (files name)
      (λ source there within of.
      let it = as_plain runs name purpose source r of in of_source (aim_of purpose) source (held name purpose asked there within refl) it.0 it.1 it.2) is
  task_case (OfPair pair) asked is =
      file_case MOST_BYTES (λ source. IsReportOfFile MOST_BESIDE (λ text. IsReportOfSource runs source (pair_aim pair.purpose text)) (files pair.beside)) (files pair.file)
      (λ source there within. file_case MOST_BESIDE (λ text. IsReportOfSource runs source (pair_aim pair.purpose text)) (files pair.beside)
      (λ text also short of. of_source (of_program (pair_aim pair.purpose text)) source (beside pair text asked there within also short refl) r of refl)) is
  task_case (OfLog name) asked is =
      file_case MOST_LOG_BYTES IsReportOfLog (files name)
      (λ text there within of. of_log text (record { name = name; asked = asked; there = there; within = within }) of) is
  task_case (OfFactory size) asked is = of_source (of_program (simulates (wanted_of plain))) (factory_source size) (made size asked refl refl) r is refl
  task_case (OfTopic topic) asked is = of_help (topic, asked) is

  wish_case : (w : Wish) → wish_of call.words ≡ w → IsReportOfWish runs w files r → CaseOf runs call files r
  wish_case nothing asked is = asks_nothing asked is
  wish_case (of_task t) asked is = task_case t asked is

pub case_of : (runs : Runs) (call : Call) (files : Files) (r : Report) → IsReport runs call.words files r → CaseOf runs call files r
case_of runs call files r is = wish_case runs call files r (wish_of call.words) refl is

-- the other way round

-- what words ask of a file is told so
told_so : (runs : Runs) → ReportLaw runs → (words : List (List ℕ)) (name : List ℕ) (purpose : Purpose) → wish_of words ≡ of_task (OfFile name purpose)
    → (source : List ℕ) → length source ≤ MOST_BYTES → (plain : Report) → IsReportFor runs (aim_of purpose) source plain
    → (r : Report) × IsReportTo runs name purpose source r × (r.status ≡ plain.status)
told_so runs law words name (OfProgram p) asked source within plain is = (plain, is, refl)
told_so runs law words name (Explain a) asked source within plain is = law.explained words name a asked source within plain is
told_so runs law words name LayOut asked source within plain is = (plain, is, refl)

pub asked_report : (runs : Runs) → ReportLaw runs → (call : Call) (files : Files) (aim : Aim) (source : List ℕ) (plain : Report) → IsAskedSource call files aim source
    → IsReportFor runs aim source plain → (r : Report) × IsReport runs call.words files r × (r.status ≡ plain.status)
asked_report runs law call files aim source plain (held name purpose asked there within same) is =
    let it = told_so runs law call.words name purpose asked source within plain (subst (λ (a : Aim). IsReportFor runs a source plain) same is) in (
      it.0,
      is_report runs (OfFile name purpose) name MOST_BYTES (IsReportTo runs name purpose) (source_of_file runs name purpose) call asked files (Some source) it.0 there
          (fetched source refl within it.1),
      it.2,
    )
asked_report runs law call files aim source plain (beside pair text asked there within also short same) is =
    let of_text : IsReportOfSource runs source (pair_aim pair.purpose text) plain = subst (λ (a : Aim). IsReportFor runs a source plain) same is in
    let of_pair : IsReportOfPair runs pair files plain = fetched source there within (fetched text also short of_text) in
    let at_wish : Wish → Type 0 = λ w. IsReportOfWish runs w files plain in
    (plain, subst at_wish (sym asked) of_pair, refl)
asked_report runs law call files aim source plain (made size asked same plainly) is =
    let of_size : IsReportFor runs aim (factory_source size) plain = subst (λ (s : List ℕ). IsReportFor runs aim s plain) same is in
    let at_wish : Wish → Type 0 = λ w. IsReportOfWish runs w files plain in
    (plain, subst at_wish (sym asked) (subst (λ (a : Aim). IsReportFor runs a (factory_source size) plain) plainly of_size), refl)

pub asked_log_report : (runs : Runs) (call : Call) (files : Files) (text : List ℕ) (r : Report) → IsAskedLog call files text → IsReportOfLog text r → IsReport runs call.words files r
asked_log_report runs call files text r a is =
    is_report runs (OfLog a.name) a.name MOST_LOG_BYTES IsReportOfLog (log_of_file runs a.name) call a.asked files (Some text) r a.there (fetched text refl a.within is)

pub asked_help_report : (runs : Runs) (call : Call) (files : Files) (asked : AsksForHelp call) → IsReport runs call.words files (helped asked.0)
asked_help_report runs call files asked =
    let at_wish : Wish → Type 0 = λ w. IsReportOfWish runs w files (helped asked.0) in
    subst at_wish (sym asked.1) refl
