-- What is told of a text by the judgement on it.
use Rattle.std.proofs.Common.{◌≡◌, ◌∙◌, ℕ, ℤ, List, [], ◌++◌, Option, Result, ap, subst}
use Rattle.std.specs.Prelude.{IfOk}
use Rattle.chi_base.specs.declared.no_memory.NoMemory.{NoMemory}
use Rattle.chi_core.specs.declared.program.Core.{Core}
use Rattle.chi_core.specs.Beginning.{start}
use Rattle.chi_judge.specs.declared.judged.Judged.{Judged}
use Rattle.chi_judge.specs.Judging.{IsJudged}
use Rattle.chi_value.specs.declared.value.Value.{Value}
use Rattle.chi_tool.specs.declared.report.Reported.{Reported}
use Rattle.chi_tool.specs.declared.task.LogPurpose.{LogPurpose}
use Rattle.chi_tool.specs.OnLogs.{IsLogWith, IsNoLogWith}
use Rattle.chi_tool.specs.Refusals as refusal
use Rattle.chi_tool.specs.Report.{IsReportOnLog, yes, no}
use Rattle.chi_tool.specs.Reported.{report_in}
use Rattle.chi_tool.specs.Settings.{Unpicked}
use Rattle.chi_tool.proofs.Runs.{if_ok}

-- the judgement, where nothing was written before
pub judged_from : (core : Core) (values : List Value) (seed bound : ℕ) (text written : List ℕ) (told until : Option ℤ) (before : List ℕ) (result judged : Judged)
    → told ≡ until → before ≡ [] → result ≡ judged
    → IsJudged core (start core values seed told) bound text before written result
    → IsJudged core (start core values seed until) bound text [] written judged
judged_from core values seed bound text written told until before result judged same none is h =
    subst (λ (j : Judged). IsJudged core (start core values seed until) bound text [] written j) is
    (subst (λ (xs : List ℕ). IsJudged core (start core values seed until) bound text xs written result) none
    (subst (λ (t : Option ℤ). IsJudged core (start core values seed t) bound text before written result) same h))

module _ (core : Core) (purpose : LogPurpose) (u : Unpicked) (text : List ℕ) (values : List Value) (result : Result Reported NoMemory) where
  abbrev pub IsTold : Type 0
  IsTold = IfOk result (λ r. IsReportOnLog core purpose u text values (report_in r))

  -- it is a log, and its output was written where nothing was before
  pub yes_told : (output numbers written : List ℕ) → written ≡ [] ++ output → IsLogWith core u values text output numbers
      → IfOk result (λ r. report_in r ≡ refusal.is_log purpose written numbers) → IsTold
  yes_told output numbers written is log told =
      if_ok result (λ r same. yes output numbers log (same ∙ ap (λ (o : List ℕ). refusal.is_log purpose o numbers) is)) told

  -- it is none
  pub no_told : (k : ℕ) → IsNoLogWith core u values text k → IfOk result (λ r. report_in r ≡ refusal.no_log k) → IsTold
  no_told k refuses told = if_ok result (λ r same. no k refuses same) told
