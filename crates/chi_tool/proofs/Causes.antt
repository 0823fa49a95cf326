-- When each status comes of a call, by the report that it met: that of a source, or of a log of old.
use Rattle.std.proofs.Common.{◌≡◌, ◌≢◌, ℕ, List, ◌⊎◌, inl, inr, sym, ◌∙◌, refl, arith}
use Rattle.chi_io.specs.Shelf.{Files}
use Rattle.chi_core.specs.declared.program.Core.{Core}
use Rattle.chi_value.specs.declared.value.Value.{Value}
use Rattle.chi_engine.specs.Courses.{Course, Runs}
use Rattle.chi_tool.specs.Arguments.{Means}
use Rattle.chi_tool.specs.Call.{Call}
use Rattle.chi_tool.specs.Headline.{IsReportedOrLost, AsksFor, AsksForDone, AsksForLog, ComesUp, HasMisfit, IsAskedSource, IsRunAsked, IsDone, Headline, IsExactly, IsExactlyIn, IsExactlyOf}
use Rattle.chi_tool.specs.Refusals as refusal
use Rattle.chi_tool.specs.Refusals.{Report}
use Rattle.chi_tool.specs.Report.{IsReportOfLog, IsReport}
use Rattle.chi_tool.specs.Report as report
use Rattle.chi_tool.specs.Running.{runs_for, run_report}
use Rattle.chi_tool.specs.Settings.{Wanted, Aim, settings_with}
use Rattle.chi_tool.specs.Sources.{ComesTo}
use Rattle.chi_tool.specs.Statuses.{status_of}
use Rattle.chi_tool.proofs.Cases.{CaseOf, asks_nothing, is_missing, is_long, of_log, of_help, of_source, case_of, asked_report, asked_log_report, asked_help_report}
use Rattle.chi_tool.proofs.Contents.{status_ap, aim_bound, log_bound}
use Rattle.chi_tool.proofs.LawClauses.{CodeLaw, ReportLaw}
use Rattle.chi_tool.proofs.Promises.{MetOne, met_of, met_status}
use Rattle.chi_tool.proofs.StatusCauses.{StatusOf, asked_tellable, ran_report}
use Rattle.chi_tool.proofs.TrialCauses.{done_status}

-- the statuses of logs of old

up_of : (text : List ℕ) (r : Report) → IsReportOfLog text r → r.status ≡ 0 → ComesUp text
up_of text r (report.up log has e) is = (log, has)
up_of text r (report.misfit k has e) is = let h = status_ap r _ e in absurd (omega arith)

misfit_of : (text : List ℕ) (r : Report) → IsReportOfLog text r → r.status ≡ 24 → HasMisfit text
misfit_of text r (report.up log has e) is = let h = status_ap r _ e in absurd (omega arith)
misfit_of text r (report.misfit k has e) is = (k, has)

-- exactness, where the call met the report or memory is wanting

pub exactly : (r : Report) (call : Call) (n : ℕ) (cause : Type 0) → n ≢ 6 → IsReportedOrLost r call
    → (r.status ≡ n → cause) → (cause → r.status ≡ n) → IsExactly call n cause
exactly r call n cause above (inl wanting) to from = ((λ is. absurd (above (sym is ∙ wanting))), λ h. inr wanting)
exactly r call n cause above (inr met) to from = ((λ is. to (sym met.status ∙ is)), λ h. inl (met.status ∙ from h))

-- what the words ask for, by the status of their report

module _ (runs : Runs) (call : Call) (files : Files) (r : Report) where
  module _ (n : ℕ) (P : Aim → List ℕ → Type 0) (status : StatusOf runs n P) (no_log : (n ≢ 0) × (n ≢ 24)) where
    not_of_log : (text : List ℕ) → IsReportOfLog text r → r.status ≡ n → ⊥
    not_of_log text of is = by (log_bound text r of)
      where
        by : (r.status ≡ 0) ⊎ (r.status ≡ 24) → ⊥
        by (inl z) = no_log.0 (sym is ∙ z)
        by (inr e) = no_log.1 (sym is ∙ e)

    asks : CaseOf runs call files r → r.status ≡ n → AsksFor call files P
    asks (asks_nothing asked e) is = absurd (status.other.0 (sym is ∙ status_ap r _ e))
    asks (is_missing e) is = absurd (status.other.1 (sym is ∙ status_ap r _ e))
    asks (is_long e) is = absurd (status.other.1 (sym is ∙ status_ap r _ e))
    asks (of_log text asked of) is = absurd (not_of_log text of is)
    asks (of_help asked e) is = absurd (no_log.0 (sym is ∙ status_ap r _ e))
    asks (of_source aim source asked plain of same) is = (aim, source, asked, status.to aim source plain of (sym same ∙ is))

  -- what is done: with a source, or with a log
  asks_done : CaseOf runs call files r → r.status ≡ 0 → AsksForDone runs call files
  asks_done (asks_nothing asked e) is = let h = status_ap r _ e in absurd (omega arith)
  asks_done (is_missing e) is = let h = status_ap r _ e in absurd (omega arith)
  asks_done (is_long e) is = let h = status_ap r _ e in absurd (omega arith)
  asks_done (of_log text asked of) is = inr (inl (text, asked, up_of text r of is))
  asks_done (of_help asked e) is = inr (inr asked)
  asks_done (of_source aim source asked plain of same) is = inl (aim, source, asked, (done_status runs).to aim source plain of (sym same ∙ is))

  -- a line of a log doesn't fit
  asks_misfit : CaseOf runs call files r → r.status ≡ 24 → AsksForLog call files HasMisfit
  asks_misfit (asks_nothing asked e) is = let h = status_ap r _ e in absurd (omega arith)
  asks_misfit (is_missing e) is = let h = status_ap r _ e in absurd (omega arith)
  asks_misfit (is_long e) is = let h = status_ap r _ e in absurd (omega arith)
  asks_misfit (of_log text asked of) is = (text, asked, misfit_of text r of is)
  asks_misfit (of_help asked e) is = let h = status_ap r _ e in absurd (omega arith)
  asks_misfit (of_source aim source asked plain of same) is = let its : plain.status ≡ 24 = sym same ∙ is in let b = aim_bound runs aim source plain of in absurd (grind arith)

module _ (runs : Runs) (law : ReportLaw runs) (coded : CodeLaw) (call : Call) (files : Files) (one : MetOne runs call files) where
  met : IsReportedOrLost one.0 call
  met = one.2

  same_status : (s : Report) → IsReport runs call.words files s → one.0.status ≡ s.status
  same_status s is = status_ap one.0 s (law.one call.words files one.0 s one.1 is)

  asked_status : (n : ℕ) (P : Aim → List ℕ → Type 0) → StatusOf runs n P → AsksFor call files P → one.0.status ≡ n
  asked_status n P status h = let p = status.from h.0 h.1 (asked_tellable runs law coded call files h.0 h.1 h.2) h.3 in
      let told = asked_report runs law call files h.0 h.1 p.0 h.2 p.1 in
      same_status told.0 told.1 ∙ told.2 ∙ p.2

  done_is : AsksForDone runs call files → one.0.status ≡ 0
  done_is (inl h) = asked_status 0 (IsDone runs) (done_status runs) h
  done_is (inr (inr h)) = same_status (refusal.helped h.0) (asked_help_report runs call files h)
  done_is (inr (inl h)) =
      same_status (refusal.brought_up h.2.0) (asked_log_report runs call files h.0 (refusal.brought_up h.2.0) h.1 (report.up h.2.0 h.2.1 refl))

  misfit_is : AsksForLog call files HasMisfit → one.0.status ≡ 24
  misfit_is h = same_status (refusal.misfit h.2.0) (asked_log_report runs call files h.0 (refusal.misfit h.2.0) h.1 (report.misfit h.2.0 h.2.1 refl))

  -- a program that is asked to be run is run to its end
  pub ends_complete : (aim : Aim) (source : List ℕ) → IsAskedSource call files aim source → (w : Wanted) → IsRunAsked aim w → (core : Core) → ComesTo source core
      → (arguments : List Value) → Means core w.texts arguments → (course : Course) → runs_for runs aim core (settings_with w arguments) course
      → (call.status ≡ status_of course.ending.verdict) ⊎ (call.status ≡ 6)
  ends_complete aim source asked w is core comes arguments means course run =
      let told = asked_report runs law call files aim source (run_report core course) asked (ran_report runs aim w is source core comes arguments means course run) in
      by_met (same_status told.0 told.1 ∙ told.2) met
    where
      by_met : one.0.status ≡ status_of course.ending.verdict → IsReportedOrLost one.0 call
          → (call.status ≡ status_of course.ending.verdict) ⊎ (call.status ≡ 6)
      by_met same (inl wanting) = inr wanting
      by_met same (inr m) = inl (m.status ∙ same)

-- a status comes of its cause in files that the shelf may have, and exactly of it where all goes well
module _ (runs : Runs) (law : ReportLaw runs) (coded : CodeLaw) (call : Call) (head : Headline runs call) where
  in_files : (n : ℕ) → ((n ≢ 4) × (n ≢ 5) × (n ≢ 6)) → (P : Files → Type 0)
      → ((files : Files) (r : Report) → CaseOf runs call files r → r.status ≡ n → P files)
      → ((files : Files) (one : MetOne runs call files) → P files → one.0.status ≡ n) → IsExactlyIn call n P
  in_files n other P to from = record {
    only = λ is. let m = head.report in (m.0, m.1, to m.0 m.2 (case_of runs call m.0 m.2 m.3) (met_status n other m.2 call m.4 is));
    exactly = λ files well.
        let one = met_of runs call head files well in
        exactly one.0 call n (P files) other.2 one.2 (to files one.0 (case_of runs call files one.0 one.1)) (from files one);
  }

  pub of_source_status : (n : ℕ) (P : Aim → List ℕ → Type 0) → StatusOf runs n P → (n ≢ 5) → (n ≢ 0) × (n ≢ 24) → IsExactlyOf call n P
  of_source_status n P status written no_log =
      in_files n (status.other.1, written, status.other.2) (λ files. AsksFor call files P)
      (λ files r. asks runs call files r n P status no_log) (λ files one. asked_status runs law coded call files one n P status)

  pub of_done_status : IsExactlyIn call 0 (AsksForDone runs call)
  of_done_status =
      in_files 0 (λ e. omega arith, λ e. omega arith, λ e. omega arith) (AsksForDone runs call)
      (λ files r. asks_done runs call files r) (λ files one. done_is runs law coded call files one)

  pub of_misfit_status : IsExactlyIn call 24 (λ files. AsksForLog call files HasMisfit)
  of_misfit_status =
      in_files 24 (λ e. omega arith, λ e. omega arith, λ e. omega arith) (λ files. AsksForLog call files HasMisfit)
      (λ files r. asks_misfit runs call files r) (λ files one. misfit_is runs law coded call files one)
