-- When the statuses come that an experiment can have.
use Rattle.std.proofs.Common.{◌≡◌, ◌≢◌, ℕ, ◌≤◌, List, ◌⊎◌, inl, inr, sym, ◌∙◌, ap, subst, refl, arith}
use Rattle.chi_core.specs.declared.program.Core.{Core}
use Rattle.chi_core.specs.declared.verdict.Verdict.{Verdict}
use Rattle.chi_core.specs.declared.verdict.Verdict.TheVariants as verdict
use Rattle.chi_engine.specs.Courses.{Runs}
use Rattle.chi_xper_machines.specs.declared.tale.Ended.{Ended}
use Rattle.chi_xper_machines.specs.declared.tale.Ended.TheVariants.{Missing, Completed, WithoutValue, Deadlocked, Faulted, OutOfSteps}
use Rattle.chi_xper_machines.specs.Trials.{EndsSo}
use Rattle.chi_tool.specs.declared.task.LogPurpose.{LogPurpose}
use Rattle.chi_tool.specs.Headline.{TriesAs, Tries, EndsOrTries, IsDone, GivesLog, IsFault}
use Rattle.chi_tool.specs.Refusals as refusal
use Rattle.chi_tool.specs.Refusals.{Report}
use Rattle.chi_tool.specs.Report.{refused, program, IsReportOfJudging, faulty, laid_out, too_long, IsReportFor}
use Rattle.chi_tool.specs.Report as report
use Rattle.chi_tool.specs.Running.{IsReportOfTrial, trial_report}
use Rattle.chi_tool.specs.Settings.{Unpicked, Trying, simulates, replays, judges, checks, lists, tries, Aim, of_program, lays_out}
use Rattle.chi_tool.specs.Sources.{by_lexer, by_parser, ComesTo}
use Rattle.chi_tool.specs.Statuses.{status_of, status_of_trial}
use Rattle.chi_tool.proofs.Contents.{status_ap, is_log_status, judging_bound, replayed_bound, refused_bound, simulated_bound, layout_bound}
use Rattle.chi_tool.proofs.StatusCauses.{IsTellable, StatusOf, run_ends, replay_ends, ends_run, status_by}
use Rattle.chi_tool.proofs.Verdicts.{same_end, completed_by, deadlock_by, fault_by, out_of_steps_by}

-- an experiment with this status ended so
tried_so : (e : Ended) (t : Trying) (source : List ℕ) (core : Core) (r : Report) → ComesTo source core → IsReportOfTrial core t r → r.status ≡ status_of_trial e → TriesAs e t source
tried_so e t source core r comes of is = record {
  core = core;
  program = comes;
  trial = of.trial;
  is = of.is;
  ends = subst (EndsSo of.trial) (same_end of.ended e (sym (status_ap r _ of.told) ∙ is)) of.ends;
}

-- and an experiment that ends so is told with it
told_so : (runs : Runs) (e : Ended) (aim : Aim) (source : List ℕ) → IsTellable aim source → Tries e aim source
    → (r : Report) × IsReportFor runs aim source r × (r.status ≡ status_of_trial e)
told_so runs e (of_program (simulates w)) source may p = absurd p
told_so runs e (of_program (replays u text)) source may p = absurd p
told_so runs e (of_program (judges purpose u text)) source may p = absurd p
told_so runs e (of_program checks) source may p = absurd p
told_so runs e (of_program lists) source may p = absurd p
told_so runs e (of_program (tries t)) source may p =
    let line = may p.core p.program p.trial p.is in (
      trial_report p.trial e line.0,
      program p.core p.program (record { trial = p.trial; is = p.is; ended = e; ends = p.ends; line = line.0; logged = line.1; told = refl }),
      refl,
    )
told_so runs e lays_out source may p = absurd p

-- a status that a run or an experiment has
module _ (runs : Runs) (e : Ended) (Q : Verdict → Type 0) (low : (status_of_trial e ≡ 0) ⊎ ((10 ≤ status_of_trial e) × (status_of_trial e ≤ 14)))
    (to : (v : Verdict) → status_of v ≡ status_of_trial e → Q v) (from : (v : Verdict) → Q v → status_of v ≡ status_of_trial e) where
  told_either : (aim : Aim) (source : List ℕ) → IsTellable aim source → EndsOrTries runs Q e aim source
      → (r : Report) × IsReportFor runs aim source r × (r.status ≡ status_of_trial e)
  told_either aim source may (inl p) = ends_run runs (status_of_trial e) Q low to from aim source p
  told_either aim source may (inr p) = told_so runs e aim source may p

  either_status : 10 ≤ status_of_trial e → StatusOf runs (status_of_trial e) (EndsOrTries runs Q e)
  either_status positive =
      status_by runs (status_of_trial e) Q low to from positive (EndsOrTries runs Q e) (λ aim source p. inl p)
      (λ t source core r comes of is. inr (tried_so e t source core r comes of is)) told_either

pub deadlock_status : (runs : Runs) → StatusOf runs 11 (EndsOrTries runs (λ v. v ≡ verdict.Deadlock) Deadlocked)
deadlock_status runs = either_status runs Deadlocked (λ v. v ≡ verdict.Deadlock) (inr (omega arith, omega arith)) deadlock_by (λ v e. ap status_of e) (omega arith)

pub fault_status : (runs : Runs) → StatusOf runs 12 (EndsOrTries runs IsFault Faulted)
fault_status runs = either_status runs Faulted IsFault (inr (omega arith, omega arith)) fault_by (λ v e. ap status_of e.3) (omega arith)

pub out_of_steps_status : (runs : Runs) → StatusOf runs 13 (EndsOrTries runs (λ v. v ≡ verdict.OutOfSteps) OutOfSteps)
out_of_steps_status runs = either_status runs OutOfSteps (λ v. v ≡ verdict.OutOfSteps) (inr (omega arith, omega arith)) out_of_steps_by (λ v e. ap status_of e) (omega arith)

-- one that an experiment alone has
module _ (runs : Runs) (n : ℕ) (e : Ended) (own : status_of_trial e ≡ n) (only : (n ≡ 15) ⊎ (n ≡ 28)) where
  tries_alone : (aim : Aim) (source : List ℕ) (r : Report) → IsReportFor runs aim source r → r.status ≡ n → Tries e aim source
  tries_alone (of_program aim) source r (refused refusal_is) is = let b = refused_bound source r refusal_is in let o = only in absurd (grind arith)
  tries_alone (of_program (simulates w)) source r (program core comes of) is =
      let b = simulated_bound runs source w r (program core comes of) in let o = only in absurd (grind arith)
  tries_alone (of_program (replays u text)) source r (program core comes of) is = let b = replayed_bound core u text r of in let o = only in absurd (grind arith)
  tries_alone (of_program (judges purpose u text)) source r (program core comes of) is = let b = judging_bound core purpose u text r of in let o = only in absurd (grind arith)
  tries_alone (of_program checks) source r (program core comes of) is = let b = status_ap r _ of in let o = only in absurd (grind arith)
  tries_alone (of_program lists) source r (program core comes of) is = let b = status_ap r _ of.listed in let o = only in absurd (grind arith)
  tries_alone (of_program (tries t)) source r (program core comes of) is = tried_so e t source core r comes of (is ∙ sym own)
  tries_alone lays_out source r of is = let b = layout_bound source r of in let o = only in absurd (grind arith)

  told_alone : (aim : Aim) (source : List ℕ) → IsTellable aim source → Tries e aim source → (r : Report) × IsReportFor runs aim source r × (r.status ≡ n)
  told_alone aim source may p = let told = told_so runs e aim source may p in (told.0, told.1, told.2 ∙ own)

  not_other : (m : ℕ) → m ≤ 6 → n ≢ m
  not_other m small is = let o = only in grind arith

  alone_status : StatusOf runs n (Tries e)
  alone_status = record { other = (not_other 3 (omega arith), not_other 4 (omega arith), not_other 6 (omega arith)); to = tries_alone; from = told_alone }

pub without_value_status : (runs : Runs) → StatusOf runs 15 (Tries WithoutValue)
without_value_status runs = alone_status runs 15 WithoutValue refl (inl refl)

pub no_experiment_status : (runs : Runs) → StatusOf runs 28 (Tries Missing)
no_experiment_status runs = alone_status runs 28 Missing refl (inr refl)

-- a log that the program can give
given_of : (purpose : LogPurpose) (u : Unpicked) (text source : List ℕ) (core : Core) (r : Report) → ComesTo source core → IsReportOfJudging core purpose u text r → r.status ≡ 0
    → GivesLog u text source
given_of purpose u text source core r comes (report.unfit wanted fault misfits e) is = let h = status_ap r _ e in absurd (omega arith)
given_of purpose u text source core r comes (report.fit values means (report.yes output numbers log e)) is =
    record { core = core; program = comes; arguments = values; fit = means; output = output; numbers = numbers; is = log }
given_of purpose u text source core r comes (report.fit values means (report.no k refuses e)) is = let h = status_ap r _ e in absurd (omega arith)

of_given : (runs : Runs) (purpose : LogPurpose) (u : Unpicked) (text source : List ℕ) → GivesLog u text source
    → (r : Report) × IsReportFor runs (of_program (judges purpose u text)) source r × (r.status ≡ 0)
of_given runs purpose u text source g = (
  refusal.is_log purpose g.output g.numbers,
  program g.core g.program (report.fit g.arguments g.fit (report.yes g.output g.numbers g.is refl)),
  is_log_status purpose g.output g.numbers,
)

-- what is done
done_of : (runs : Runs) (aim : Aim) (source : List ℕ) (r : Report) → IsReportFor runs aim source r → r.status ≡ 0 → IsDone runs aim source
done_of runs (of_program aim) source r (refused refusal_is) is = let b = refused_bound source r refusal_is in let low = b.0 in absurd (omega arith)
done_of runs (of_program (simulates w)) source r (program core comes of) is =
    inl (inl (run_ends runs 0 (λ v. v ≡ verdict.Completed) (inl refl) completed_by (λ v e. ap status_of e) w source core r comes of is))
done_of runs (of_program (replays u text)) source r (program core comes of) is =
    inl (inl (replay_ends runs 0 (λ v. v ≡ verdict.Completed) (inl refl) completed_by (λ v e. ap status_of e) u text source core r comes of is))
done_of runs (of_program (judges purpose u text)) source r (program core comes of) is = inr (given_of purpose u text source core r comes of is)
done_of runs (of_program checks) source r (program core comes of) is = inr (core, comes)
done_of runs (of_program lists) source r (program core comes of) is = inr (core, comes)
done_of runs (of_program (tries t)) source r (program core comes of) is = inl (inr (tried_so Completed t source core r comes of is))
done_of runs lays_out source r (faulty (by_lexer fault has e)) is = let h = status_ap r _ e in absurd (omega arith)
done_of runs lays_out source r (faulty (by_parser tokens fault has e)) is = let h = status_ap r _ e in absurd (omega arith)
done_of runs lays_out source r (laid_out text has within e) is = inr (text, has, within)
done_of runs lays_out source r (too_long text has above e) is = let h = status_ap r _ e in absurd (omega arith)

of_done : (runs : Runs) (aim : Aim) (source : List ℕ) → IsTellable aim source → IsDone runs aim source → (r : Report) × IsReportFor runs aim source r × (r.status ≡ 0)
of_done runs aim source may (inl p) = told_either runs Completed (λ v. v ≡ verdict.Completed) (inl refl) completed_by (λ v e. ap status_of e) aim source may p
of_done runs (of_program (simulates w)) source may (inr p) = absurd p
of_done runs (of_program (replays u text)) source may (inr p) = absurd p
of_done runs (of_program (judges purpose u text)) source may (inr p) = of_given runs purpose u text source p
of_done runs (of_program checks) source may (inr p) = (refusal.accepted, program p.0 p.1 refl, refl)
of_done runs (of_program lists) source may (inr p) =
    let there = may p.0 p.1 in (refusal.listed there.0, program p.0 p.1 (record { code = there.0; is = there.1; listed = refl }), refl)
of_done runs (of_program (tries t)) source may (inr p) = absurd p
of_done runs lays_out source may (inr p) = (refusal.laid_out p.0, laid_out p.0 p.1 p.2 refl, refl)

pub done_status : (runs : Runs) → StatusOf runs 0 (IsDone runs)
done_status runs = record { other = (λ e. omega arith, λ e. omega arith, λ e. omega arith); to = done_of runs; from = of_done runs }
