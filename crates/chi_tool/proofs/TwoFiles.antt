-- What follows of a call by which two files were served.
use Rattle.std.proofs.Common.{◌≡◌, ◌≢◌, ℕ, ◌<◌, ◌≤◌, Bool, List, Option, Some, None, length, inl, inr, sym, ◌∙◌, ap, subst, refl, arith}
use Rattle.std.specs.Prelude.{IsSomeAnd, bytes_eq, if◌then◌else◌}
use Rattle.std.proofs.lemmas.Bool.{false_from_ne_true}
use Rattle.std.proofs.lemmas.Slice.Eq.{bytes_eq-Decides}
use Rattle.chi_io.specs.Counts.{Rose}
use Rattle.chi_io.specs.Shelf.{Files}
use Rattle.chi_lex.specs.declared.lexer.TheConstants.{MOST_BYTES}
use Rattle.chi_core.specs.declared.program.Core.{Core}
use Rattle.chi_engine.specs.Courses.{Runs, IsRunOf}
use Rattle.chi_tool.specs.declared.task.TheConstants.{MOST_BESIDE}
use Rattle.chi_tool.specs.declared.task.Pair.{Pair}
use Rattle.chi_tool.specs.declared.task.PairPurpose.{PairPurpose}
use Rattle.chi_tool.specs.declared.task.PairPurpose.TheVariants.{Replay, OnLog}
use Rattle.chi_tool.specs.declared.task.Task.TheVariants.{OfPair}
use Rattle.chi_tool.specs.Call.{Call, ShelfUse, SinkUse}
use Rattle.chi_tool.specs.Headline.{CannotBeRead}
use Rattle.chi_tool.specs.Refusals.{Report, no_such_file, file_too_long}
use Rattle.chi_tool.specs.Report as report
use Rattle.chi_tool.specs.Report.{IsReportOfProgram, IsReportOfSource, IsReportOfPair, IsReportOfWish, IsReport}
use Rattle.chi_tool.specs.Serving.{IsContent, Refuses, missing, long, failed, lost, ServesBeside, same, both, no_second, ServesPair, first, no_first}
use Rattle.chi_tool.specs.Settings.{pair_aim}
use Rattle.chi_tool.specs.Words.{Wish, of_task, wish_of, NamesNoFile}
use Rattle.chi_tool.proofs.Contents.{source_status}
use Rattle.chi_tool.proofs.Endings.{Ended, ended_for, tells_ended, refuses_ended}
use Rattle.chi_tool.proofs.LawClauses.{ReportLaw}
use Rattle.chi_tool.proofs.Promises.{MeetsOne, held_or, if_both, if_any, told_one, refused_one}

-- a shelf that failed later failed

rose_later : (early middle late : ℕ) → early ≤ middle → Rose middle late → Rose early late
rose_later early middle late le rose = omega arith

pub refuses_later : (most : ℕ) (name : List ℕ) (early late : ShelfUse) (result : ℕ) (out log : SinkUse) → late.files ≡ early.files → early.faults_before ≤ late.faults_before
    → early.faults_after ≡ late.faults_after → Refuses most name late result out log → Refuses most name early result out log
refuses_later most name early late result out log files before after refuses = by refuses
  where
    rose : Rose late.faults_before late.faults_after → Rose early.faults_before early.faults_after
    rose r = subst (λ (n : ℕ). Rose early.faults_before n) (sym after) (rose_later early.faults_before late.faults_before late.faults_after before r)

    by : Refuses most name late result out log → Refuses most name early result out log
    by (missing (inl lacks) d) = missing (inl (subst (λ (o : Option Files). IsSomeAnd o (λ f. f name ≡ None)) files lacks)) d
    by (missing (inr r) d) = missing (inr (rose r)) d
    by (long (inl exceeds) d) = long (inl (subst (λ (o : Option Files). IsSomeAnd o (λ f. IsSomeAnd (f name) (λ content. most < length content))) files exceeds)) d
    by (long (inr r) d) = long (inr (rose r)) d
    by (failed r status o l) = failed (rose r) status o l
    by (lost status o l) = lost status o l

pub beside_later : (pair : Pair) (source : List ℕ) (early late : ShelfUse) (result : ℕ) (out log : SinkUse) → late.files ≡ early.files → early.faults_before ≤ late.faults_before
    → early.faults_after ≡ late.faults_after → ServesBeside pair source late result out log → ServesBeside pair source early result out log
beside_later pair source early late result out log files before after (same alike tells) = same alike tells
beside_later pair source early late result out log files before after (both text differ is tells) =
    both text differ (subst (λ (o : Option Files). IsContent MOST_BESIDE pair.beside o text) files is) tells
beside_later pair source early late result out log files before after (no_second refuses) =
    no_second (refuses_later MOST_BESIDE pair.beside early late result out log files before after refuses)

-- files with these two contents
abbrev two_files : List ℕ → List ℕ → List ℕ → Files
two_files name source text other = if bytes_eq other name then Some source else Some text

first_there : (name source text : List ℕ) → two_files name source text name ≡ Some source
first_there name source text = ap (λ (b : Bool). if b then Some source else Some text) ((bytes_eq-Decides name name).1 refl)

second_there : (name beside source text : List ℕ) → beside ≢ name → two_files name source text beside ≡ Some text
second_there name beside source text differ =
    ap (λ (b : Bool). if b then Some source else Some text) (false_from_ne_true (bytes_eq beside name) (λ e. differ ((bytes_eq-Decides beside name).0 e)))

-- what is done with a second file asks for no simulation: its report is the same with whatever comes of one

program_by_text : (runs : Runs) (purpose : PairPurpose) (text : List ℕ) (core : Core) (r : Report) → IsReportOfProgram IsRunOf core (pair_aim purpose text) r
    → IsReportOfProgram runs core (pair_aim purpose text) r
program_by_text runs (Replay a) text core r is = is
program_by_text runs (OnLog wanted a) text core r is = is

source_by_text : (runs : Runs) (purpose : PairPurpose) (source text : List ℕ) (r : Report) → IsReportOfSource IsRunOf source (pair_aim purpose text) r
    → IsReportOfSource runs source (pair_aim purpose text) r
source_by_text runs purpose source text r (report.refused is) = report.refused is
source_by_text runs purpose source text r (report.program core comes of) = report.program core comes (program_by_text runs purpose text core r of)

-- words that ask for two files name them
pub names_pair : (pair : Pair) (w : Wish) → w ≡ of_task (OfPair pair) → NamesNoFile w → ⊥
names_pair pair w asked none = subst NamesNoFile asked none

module _ (runs : Runs) (pair : Pair) (call : Call) (asked : wish_of call.words ≡ of_task (OfPair pair)) where
  pair_report : (files : Files) (r : Report) → IsReportOfPair runs pair files r → IsReport runs call.words files r
  pair_report files r is = let at_wish : Wish → Type 0 = λ w. IsReportOfWish runs w files r in subst at_wish (sym asked) is

  module _ (law : ReportLaw runs) where
    beside_one : (source : List ℕ) → IsContent MOST_BYTES pair.file call.shelf.files source → ServesBeside pair source call.shelf call.status call.out call.log → MeetsOne runs call
    beside_one source is (same alike tells) =
        let h = held_or call.shelf.files (λ f. f pair.file ≡ Some source) is.1 (λ other. Some source) refl in
        let within : length source ≤ MOST_BYTES = is.0 in
        let short : length source ≤ MOST_BESIDE = omega arith in
        told_one runs law call (IsReportOfSource IsRunOf source (pair_aim pair.purpose source))
        (h.0, h.1, λ r of. pair_report h.0 r (report.fetched source h.2 within (report.fetched source (ap h.0 alike ∙ h.2) short (source_by_text runs pair.purpose source source r of)))) tells
    beside_one source is (both text differ also tells) =
        let h = held_or call.shelf.files (λ f. (f pair.file ≡ Some source) × (f pair.beside ≡ Some text))
        (if_both call.shelf.files (λ f. f pair.file ≡ Some source) (λ f. f pair.beside ≡ Some text) is.1 also.1)
        (two_files pair.file source text) (first_there pair.file source text, second_there pair.file pair.beside source text differ) in
        told_one runs law call (IsReportOfSource IsRunOf source (pair_aim pair.purpose text))
        (h.0, h.1, λ r of. pair_report h.0 r (report.fetched source h.2.0 is.0 (report.fetched text h.2.1 also.0 (source_by_text runs pair.purpose source text r of)))) tells
    beside_one source is (no_second refuses) =
        refused_one runs law call MOST_BESIDE pair.beside (λ files. files pair.file ≡ Some source)
        (λ files there none. pair_report files no_such_file (report.fetched source there is.0 (report.missing none refl)))
        (λ files there text held above. pair_report files file_too_long (report.fetched source there is.0 (report.long text held above refl))) is.1 refuses

    pub pair_one : ServesPair pair call.shelf call.status call.out call.log → MeetsOne runs call
    pair_one (first source is serves) = beside_one source is serves
    pair_one (no_first refuses) =
        refused_one runs law call MOST_BYTES pair.file (λ files. Unit {0}) (λ files here none. pair_report files no_such_file (report.missing none refl))
        (λ files here source held above. pair_report files file_too_long (report.long source held above refl)) (if_any call.shelf.files) refuses

-- how it ended

module _ (pair : Pair) (shelf : ShelfUse) (result : ℕ) (out log : SinkUse) where
  abbrev pub PairEnded : Type 0
  PairEnded = Ended ⊥ (CannotBeRead shelf (of_task (OfPair pair))) result out log

  beside_ended : (source : List ℕ) → ServesBeside pair source shelf result out log → PairEnded
  beside_ended source (same alike tells) = tells_ended ⊥ _ _ result out log (source_status IsRunOf source (pair_aim pair.purpose source)) tells
  beside_ended source (both text differ also tells) = tells_ended ⊥ _ _ result out log (source_status IsRunOf source (pair_aim pair.purpose text)) tells
  beside_ended source (no_second refuses) = ended_for ⊥ _ _ result out log (λ unread. inr unread) (refuses_ended MOST_BESIDE pair.beside ⊥ shelf result out log refuses)

  pub pair_ended : ServesPair pair shelf result out log → PairEnded
  pair_ended (first source is serves) = beside_ended source serves
  pair_ended (no_first refuses) = ended_for ⊥ _ _ result out log (λ unread. inl unread) (refuses_ended MOST_BYTES pair.file ⊥ shelf result out log refuses)
