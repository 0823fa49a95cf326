-- When each status comes of the report of a source.
use Rattle.std.proofs.Common.{◌≡◌, ◌≢◌, ℕ, ◌≤◌, List, length, ◌⊎◌, inl, inr, sym, ◌∙◌, ap, subst, refl, arith}
use Rattle.chi_code.specs.declared.code.Code.{Code}
use Rattle.chi_code.specs.Codes.{Codes}
use Rattle.chi_io.specs.Shelf.{Files}
use Rattle.chi_lex.specs.declared.lexer.TheConstants.{MOST_BYTES}
use Rattle.chi_core.specs.declared.program.Core.{Core}
use Rattle.chi_core.specs.declared.verdict.Verdict.{Verdict}
use Rattle.chi_core.specs.declared.verdict.Verdict.TheVariants as verdict
use Rattle.chi_sched.specs.Policies.{listed}
use Rattle.chi_value.specs.declared.value.Value.{Value}
use Rattle.chi_engine.specs.Courses.{Course, Runs, IsRunOf}
use Rattle.chi_xper_machines.specs.Trials.{Trial, IsTrial, Logs}
use Rattle.chi_tool.specs.Arguments.{Means}
use Rattle.chi_tool.specs.declared.task.LogPurpose.{LogPurpose}
use Rattle.chi_tool.specs.declared.task.PairPurpose.{PairPurpose}
use Rattle.chi_tool.specs.declared.task.PairPurpose.TheVariants.{Replay, OnLog}
use Rattle.chi_tool.specs.declared.task.ProgramPurpose.TheVariants.{Simulate, Check, ListCode, Experiment}
use Rattle.chi_tool.specs.declared.task.Purpose.{Purpose}
use Rattle.chi_tool.specs.declared.task.Purpose.TheVariants.{OfProgram, Explain, LayOut}
use Rattle.chi_tool.specs.declared.task.Task.TheVariants.{OfFile}
use Rattle.chi_tool.specs.Call.{Call}
use Rattle.chi_tool.specs.Headline.{HasLexicalFault, HasSyntaxFault, IsMistyped, IsTooLong, IsAskedSource, held, beside, made, EndsAs, IsRunAsked, Ends, IsExit, HasUnfitArguments, HasMispick, GivesNoLog, HasNoLog}
use Rattle.chi_tool.specs.Refusals as refusal
use Rattle.chi_tool.specs.Refusals.{Report}
use Rattle.chi_tool.specs.Report.{IsReportOfSource, refused, program, IsReportOfJudging, IsReportOfProgram, IsReportOfLayout, faulty, laid_out, too_long, IsReportFor}
use Rattle.chi_tool.specs.Report as report
use Rattle.chi_tool.specs.Running.{runs_for, IsRunReport, IsReportOfTrial, run_report}
use Rattle.chi_tool.specs.Settings.{Wanted, Unpicked, picked_by, Trying, ProgramAim, simulates, replays, judges, checks, lists, tries, Aim, of_program, lays_out, aim_of, pair_aim, settings_with}
use Rattle.chi_tool.specs.Sources.{IsUnparsed, by_lexer, by_parser, unparsed, by_checker, ComesTo}
use Rattle.chi_tool.specs.Statuses.{status_of}
use Rattle.chi_tool.specs.Words.{of_task, wish_of}
use Rattle.chi_tool.proofs.Contents.{status_ap, is_log_status, ran_bound, trial_bound, judging_bound, replayed_bound, source_program, refused_bound, source_bound, simulated_bound, layout_bound}
use Rattle.chi_tool.proofs.LawClauses.{CodeLaw, ReportLaw}
use Rattle.chi_tool.proofs.Verdicts.{status_bound, exit_by, stopped_by}

no_program : (runs : Runs) (n : ℕ) → (20 ≤ n) × (n ≤ 22) → (core : Core) (aim : ProgramAim) (r : Report) → IsReportOfProgram runs core aim r → r.status ≡ n → ⊥
no_program runs n between core aim r is e = let b = source_program runs core aim r is in let low = between.0 in let high = between.1 in grind arith

-- what is to be told is there: the code of the program that a source comes to, or the line of what comes of its experiment
abbrev pub IsTellable : Aim → List ℕ → Type 0
IsTellable (of_program (simulates w)) source = Unit {0}
IsTellable (of_program (replays u text)) source = Unit {0}
IsTellable (of_program (judges purpose u text)) source = Unit {0}
IsTellable (of_program checks) source = Unit {0}
IsTellable lays_out source = Unit {0}
IsTellable (of_program lists) source = (core : Core) → ComesTo source core → (code : Code) × Codes core code
IsTellable (of_program (tries t)) source =
    (core : Core) → ComesTo source core → (trial : Trial) → IsTrial core t.seed t.pick t.bound trial → (line : List ℕ) × Logs core trial line

tellable : (runs : Runs) → ReportLaw runs → CodeLaw → (words : List (List ℕ)) (name : List ℕ) (purpose : Purpose) → wish_of words ≡ of_task (OfFile name purpose)
    → (source : List ℕ) → length source ≤ MOST_BYTES → IsTellable (aim_of purpose) source
tellable runs law coded words name (OfProgram (Simulate a)) asked source within = tt
tellable runs law coded words name (OfProgram Check) asked source within = tt
tellable runs law coded words name (OfProgram ListCode) asked source within = λ core comes. coded.some source core within comes
tellable runs law coded words name (OfProgram (Experiment t)) asked source within = λ core comes trial is. law.tried words name t asked source within core comes trial is
tellable runs law coded words name (Explain a) asked source within = tt
tellable runs law coded words name LayOut asked source within = tt

pair_tellable : (purpose : PairPurpose) (text source : List ℕ) → IsTellable (of_program (pair_aim purpose text)) source
pair_tellable (Replay a) text source = tt
pair_tellable (OnLog purpose a) text source = tt

pub asked_tellable : (runs : Runs) → ReportLaw runs → CodeLaw → (call : Call) (files : Files) (aim : Aim) (source : List ℕ) → IsAskedSource call files aim source → IsTellable aim source
asked_tellable runs law coded call files aim source (held name purpose asked there within same) =
    subst (λ (a : Aim). IsTellable a source) (sym same) (tellable runs law coded call.words name purpose asked source within)
asked_tellable runs law coded call files aim source (beside pair text asked there within also short same) =
    subst (λ (a : Aim). IsTellable a source) (sym same) (pair_tellable pair.purpose text source)
asked_tellable runs law coded call files aim source (made size asked same plainly) = subst (λ (a : Aim). IsTellable a source) (sym plainly) tt

-- a status that a source's report has exactly for one cause, and that no other refusal has
pub record StatusOf (runs : Runs) (n : ℕ) (P : Aim → List ℕ → Type 0) : Type 0 where
  pub other : (n ≢ 3) × (n ≢ 4) × (n ≢ 6)
  pub to : (aim : Aim) (source : List ℕ) (r : Report) → IsReportFor runs aim source r → r.status ≡ n → P aim source
  pub from : (aim : Aim) (source : List ℕ) → IsTellable aim source → P aim source → (r : Report) × IsReportFor runs aim source r × (r.status ≡ n)

-- the statuses of runs

-- a run that is asked for has its report
pub ran_report : (runs : Runs) (aim : Aim) (w : Wanted) → IsRunAsked aim w → (source : List ℕ) (core : Core) → ComesTo source core → (arguments : List Value) → Means core w.texts arguments
    → (course : Course) → runs_for runs aim core (settings_with w arguments) course → IsReportFor runs aim source (run_report core course)
ran_report runs (of_program (simulates v)) w is source core comes arguments means course run =
    subst (λ (x : Wanted). IsReportOfSource runs source (simulates x) (run_report core course)) is
    (program core comes (report.fit arguments means (record { course = course; run = run; is = refl })))
ran_report runs (of_program (replays u text)) w is source core comes arguments means course run =
    let at : Wanted → Type 0 = λ x. Means core x.texts arguments × IsRunOf core (settings_with x arguments) course in
    let both = subst at is.2 (means, run) in
    program core comes (report.fit arguments both.0 (report.replayed is.0 is.1 (record { course = course; run = both.1; is = refl })))
ran_report runs (of_program (judges purpose u text)) w is source core comes arguments means course run = absurd is
ran_report runs (of_program checks) w is source core comes arguments means course run = absurd is
ran_report runs (of_program lists) w is source core comes arguments means course run = absurd is
ran_report runs (of_program (tries t)) w is source core comes arguments means course run = absurd is
ran_report runs lays_out w is source core comes arguments means course run = absurd is

module _ (runs : Runs) (n : ℕ) (Q : Verdict → Type 0) (low : (n ≡ 0) ⊎ ((10 ≤ n) × (n ≤ 14))) (to : (v : Verdict) → status_of v ≡ n → Q v)
    (from : (v : Verdict) → Q v → status_of v ≡ n) where
  no_refusal : (m : ℕ) → (m ≡ 3) ⊎ ((m ≡ 4) ⊎ ((m ≡ 6) ⊎ (20 ≤ m))) → n ≢ m
  no_refusal m (inl a) e = let l = low in grind arith
  no_refusal m (inr (inl a)) e = let l = low in grind arith
  no_refusal m (inr (inr (inl a))) e = let l = low in grind arith
  no_refusal m (inr (inr (inr a))) e = let l = low in grind arith

  ends_as : (its : Runs) (w : Wanted) (source : List ℕ) (core : Core) (r : Report) → ComesTo source core → (values : List Value) → Means core w.texts values
      → IsRunReport its core (settings_with w values) r → r.status ≡ n → EndsAs its Q w source
  ends_as its w source core r comes values means of is = record {
    core = core;
    program = comes;
    arguments = values;
    fit = means;
    course = of.course;
    run = of.run;
    ends = to of.course.ending.verdict (sym (status_ap r _ of.is) ∙ is);
  }

  pub run_ends : (w : Wanted) (source : List ℕ) (core : Core) (r : Report) → ComesTo source core → IsReportOfProgram runs core (simulates w) r → r.status ≡ n
      → Ends runs Q (of_program (simulates w)) source
  run_ends w source core r comes (report.unfit wanted fault misfits e) is = absurd (no_refusal 23 (inr (inr (inr (omega arith)))) (sym is ∙ status_ap r _ e))
  run_ends w source core r comes (report.fit values means of) is = (w, refl, ends_as runs w source core r comes values means of is)

  pub replay_ends : (u : Unpicked) (text source : List ℕ) (core : Core) (r : Report) → ComesTo source core → IsReportOfProgram runs core (replays u text) r → r.status ≡ n
      → Ends runs Q (of_program (replays u text)) source
  replay_ends u text source core r comes (report.unfit wanted fault misfits e) is = absurd (no_refusal 23 (inr (inr (inr (omega arith)))) (sym is ∙ status_ap r _ e))
  replay_ends u text source core r comes (report.fit values means (report.mispicked k misfits e)) is =
      absurd (no_refusal 26 (inr (inr (inr (omega arith)))) (sym is ∙ status_ap r _ e))
  replay_ends u text source core r comes (report.fit values means (report.replayed numbers has of)) is =
      let w = picked_by (listed numbers) u in (w, (numbers, has, refl), ends_as IsRunOf w source core r comes values means of is)

  pub ends_run : (aim : Aim) (source : List ℕ) → Ends runs Q aim source → (r : Report) × IsReportFor runs aim source r × (r.status ≡ n)
  ends_run aim source p =
      let e = p.2 in
      (run_report e.core e.course, ran_report runs aim p.0 p.1 source e.core e.program e.arguments e.fit e.course e.run, from e.course.ending.verdict e.ends)

  -- a source's report with such a status is that of a program
  no_source_refusal : (m : ℕ) (r : Report) → 20 ≤ m → r.status ≡ m → r.status ≡ n → ⊥
  no_source_refusal m r high is e = no_refusal m (inr (inr (inr high))) (sym e ∙ is)

  -- a status of runs, and of experiments where they can have it
  module _ (positive : 10 ≤ n) (P : Aim → List ℕ → Type 0) (so : (aim : Aim) (source : List ℕ) → Ends runs Q aim source → P aim source)
      (tried : (t : Trying) (source : List ℕ) (core : Core) (r : Report) → ComesTo source core → IsReportOfTrial core t r → r.status ≡ n → P (of_program (tries t)) source) where
    ends : (aim : Aim) (source : List ℕ) (r : Report) → IsReportFor runs aim source r → r.status ≡ n → P aim source
    ends (of_program aim) source r (refused (unparsed (by_lexer fault has e))) is = absurd (no_source_refusal 20 r (omega arith) (status_ap r _ e) is)
    ends (of_program aim) source r (refused (unparsed (by_parser tokens fault has e))) is = absurd (no_source_refusal 21 r (omega arith) (status_ap r _ e) is)
    ends (of_program aim) source r (refused (by_checker fault has e)) is = absurd (no_source_refusal 22 r (omega arith) (status_ap r _ e) is)
    ends (of_program (simulates w)) source r (program core comes of) is = so (of_program (simulates w)) source (run_ends w source core r comes of is)
    ends (of_program (replays u text)) source r (program core comes of) is = so (of_program (replays u text)) source (replay_ends u text source core r comes of is)
    ends (of_program (judges purpose u text)) source r (program core comes of) is =
        let b = judging_bound core purpose u text r of in let l = low in let some = positive in absurd (grind arith)
    ends (of_program checks) source r (program core comes of) is = let none = status_ap r _ of in let some = positive in absurd (omega arith)
    ends (of_program lists) source r (program core comes of) is = let none = status_ap r _ of.listed in let some = positive in absurd (omega arith)
    ends (of_program (tries t)) source r (program core comes of) is = tried t source core r comes of is
    ends lays_out source r of is = let b = layout_bound source r of in let l = low in let some = positive in absurd (grind arith)

    pub status_by : ((aim : Aim) (source : List ℕ) → IsTellable aim source → P aim source → (r : Report) × IsReportFor runs aim source r × (r.status ≡ n)) → StatusOf runs n P
    status_by back = record {
      other = (no_refusal 3 (inl refl), no_refusal 4 (inr (inl refl)), no_refusal 6 (inr (inr (inl refl))));
      to = ends;
      from = back;
    }

  -- no experiment has it
  run_status : 10 ≤ n → (n ≡ 10) ⊎ (n ≡ 14) → StatusOf runs n (Ends runs Q)
  run_status positive alone =
      status_by positive (Ends runs Q) (λ aim source e. e)
      (λ t source core r comes of is. let b = trial_bound core t r of in let a = alone in absurd (grind arith)) (λ aim source may p. ends_run aim source p)

pub exit_status : (runs : Runs) → StatusOf runs 10 (Ends runs IsExit)
exit_status runs = run_status runs 10 IsExit (inr (omega arith, omega arith)) exit_by (λ v e. ap status_of e.1) (omega arith) (inl refl)

pub stopped_status : (runs : Runs) → StatusOf runs 14 (Ends runs (λ v. v ≡ verdict.Stopped))
stopped_status runs = run_status runs 14 (λ v. v ≡ verdict.Stopped) (inr (omega arith, omega arith)) stopped_by (λ v e. ap status_of e) (omega arith) (inr refl)

-- the statuses of refusals

of_unparsed : (runs : Runs) (aim : Aim) (source : List ℕ) (r : Report) → IsUnparsed source r → IsReportFor runs aim source r
of_unparsed runs (of_program aim) source r is = refused (unparsed is)
of_unparsed runs lays_out source r is = faulty is

lexical_of : (runs : Runs) (aim : Aim) (source : List ℕ) (r : Report) → IsReportFor runs aim source r → r.status ≡ 20 → HasLexicalFault source
lexical_of runs (of_program aim) source r (refused (unparsed (by_lexer fault has e))) is = (fault, has)
lexical_of runs (of_program aim) source r (refused (unparsed (by_parser tokens fault has e))) is = let h = status_ap r _ e in absurd (omega arith)
lexical_of runs (of_program aim) source r (refused (by_checker fault has e)) is = let h = status_ap r _ e in absurd (omega arith)
lexical_of runs (of_program aim) source r (program core comes of) is = absurd (no_program runs 20 (omega arith, omega arith) core aim r of is)
lexical_of runs lays_out source r (faulty (by_lexer fault has e)) is = (fault, has)
lexical_of runs lays_out source r (faulty (by_parser tokens fault has e)) is = let h = status_ap r _ e in absurd (omega arith)
lexical_of runs lays_out source r (laid_out text has within e) is = let h = status_ap r _ e in absurd (omega arith)
lexical_of runs lays_out source r (too_long text has above e) is = let h = status_ap r _ e in absurd (omega arith)

pub lexical_status : (runs : Runs) → StatusOf runs 20 (λ aim. HasLexicalFault)
lexical_status runs = record {
  other = (λ e. omega arith, λ e. omega arith, λ e. omega arith);
  to = lexical_of runs;
  from = λ aim source may p. (refusal.lexical p.0, of_unparsed runs aim source (refusal.lexical p.0) (by_lexer p.0 p.1 refl), refl);
}

syntax_of : (runs : Runs) (aim : Aim) (source : List ℕ) (r : Report) → IsReportFor runs aim source r → r.status ≡ 21 → HasSyntaxFault source
syntax_of runs (of_program aim) source r (refused (unparsed (by_lexer fault has e))) is = let h = status_ap r _ e in absurd (omega arith)
syntax_of runs (of_program aim) source r (refused (unparsed (by_parser tokens fault has e))) is = (tokens, fault, has)
syntax_of runs (of_program aim) source r (refused (by_checker fault has e)) is = let h = status_ap r _ e in absurd (omega arith)
syntax_of runs (of_program aim) source r (program core comes of) is = absurd (no_program runs 21 (omega arith, omega arith) core aim r of is)
syntax_of runs lays_out source r (faulty (by_lexer fault has e)) is = let h = status_ap r _ e in absurd (omega arith)
syntax_of runs lays_out source r (faulty (by_parser tokens fault has e)) is = (tokens, fault, has)
syntax_of runs lays_out source r (laid_out text has within e) is = let h = status_ap r _ e in absurd (omega arith)
syntax_of runs lays_out source r (too_long text has above e) is = let h = status_ap r _ e in absurd (omega arith)

pub syntax_status : (runs : Runs) → StatusOf runs 21 (λ aim. HasSyntaxFault)
syntax_status runs = record {
  other = (λ e. omega arith, λ e. omega arith, λ e. omega arith);
  to = syntax_of runs;
  from = λ aim source may p. (refusal.syntax source p.0 p.1, of_unparsed runs aim source (refusal.syntax source p.0 p.1) (by_parser p.0 p.1 p.2 refl), refl);
}

mistyped_of : (runs : Runs) (aim : Aim) (source : List ℕ) (r : Report) → IsReportFor runs aim source r → r.status ≡ 22 → IsMistyped aim source
mistyped_of runs (of_program aim) source r (refused (unparsed (by_lexer fault has e))) is = let h = status_ap r _ e in absurd (omega arith)
mistyped_of runs (of_program aim) source r (refused (unparsed (by_parser tokens fault has e))) is = let h = status_ap r _ e in absurd (omega arith)
mistyped_of runs (of_program aim) source r (refused (by_checker fault has e)) is = (fault, has)
mistyped_of runs (of_program aim) source r (program core comes of) is = absurd (no_program runs 22 (omega arith, omega arith) core aim r of is)
mistyped_of runs lays_out source r of is = let b = layout_bound source r of in absurd (grind arith)

of_mistyped : (runs : Runs) (aim : Aim) (source : List ℕ) → IsTellable aim source → IsMistyped aim source → (r : Report) × IsReportFor runs aim source r × (r.status ≡ 22)
of_mistyped runs (of_program aim) source may p = (refusal.typing p.0, refused (by_checker p.0 p.1 refl), refl)
of_mistyped runs lays_out source may p = absurd p

pub mistyped_status : (runs : Runs) → StatusOf runs 22 IsMistyped
mistyped_status runs = record {
  other = (λ e. omega arith, λ e. omega arith, λ e. omega arith);
  to = mistyped_of runs;
  from = of_mistyped runs;
}

unfit_run : (runs : Runs) (w : Wanted) (source : List ℕ) (core : Core) (r : Report) → ComesTo source core → IsReportOfProgram runs core (simulates w) r → r.status ≡ 23 → HasUnfitArguments (of_program (simulates w)) source
unfit_run runs w source core r comes (report.unfit wanted fault misfits e) is =
    record { core = core; program = comes; wanted = wanted; fault = fault; misfits = misfits }
unfit_run runs w source core r comes (report.fit values means of) is =
    let h : r.status ≡ status_of of.course.ending.verdict = status_ap r _ of.is in let b = status_bound of.course.ending.verdict in absurd (grind arith)

unfit_replay : (runs : Runs) (u : Unpicked) (text source : List ℕ) (core : Core) (r : Report) → ComesTo source core → IsReportOfProgram runs core (replays u text) r → r.status ≡ 23
    → HasUnfitArguments (of_program (replays u text)) source
unfit_replay runs u text source core r comes (report.unfit wanted fault misfits e) is =
    record { core = core; program = comes; wanted = wanted; fault = fault; misfits = misfits }
unfit_replay runs u text source core r comes (report.fit values means (report.mispicked k misfits e)) is = let h = status_ap r _ e in absurd (omega arith)
unfit_replay runs u text source core r comes (report.fit values means (report.replayed numbers has of)) is = let b = ran_bound core of.course r of.is in absurd (grind arith)

unfit_judging : (purpose : LogPurpose) (u : Unpicked) (text source : List ℕ) (core : Core) (r : Report) → ComesTo source core → IsReportOfJudging core purpose u text r → r.status ≡ 23
    → HasUnfitArguments (of_program (judges purpose u text)) source
unfit_judging purpose u text source core r comes (report.unfit wanted fault misfits e) is =
    record { core = core; program = comes; wanted = wanted; fault = fault; misfits = misfits }
unfit_judging purpose u text source core r comes (report.fit values means (report.yes output numbers log e)) is =
    let h : r.status ≡ 0 = status_ap r _ e ∙ is_log_status purpose output numbers in absurd (omega arith)
unfit_judging purpose u text source core r comes (report.fit values means (report.no k refuses e)) is = let h = status_ap r _ e in absurd (omega arith)

unfit_of : (runs : Runs) (aim : Aim) (source : List ℕ) (r : Report) → IsReportFor runs aim source r → r.status ≡ 23 → HasUnfitArguments aim source
unfit_of runs (of_program aim) source r (refused (unparsed (by_lexer fault has e))) is = let h = status_ap r _ e in absurd (omega arith)
unfit_of runs (of_program aim) source r (refused (unparsed (by_parser tokens fault has e))) is = let h = status_ap r _ e in absurd (omega arith)
unfit_of runs (of_program aim) source r (refused (by_checker fault has e)) is = let h = status_ap r _ e in absurd (omega arith)
unfit_of runs (of_program (simulates w)) source r (program core comes of) is = unfit_run runs w source core r comes of is
unfit_of runs (of_program (replays u text)) source r (program core comes of) is = unfit_replay runs u text source core r comes of is
unfit_of runs (of_program (judges purpose u text)) source r (program core comes of) is = unfit_judging purpose u text source core r comes of is
unfit_of runs (of_program checks) source r (program core comes of) is = let h = status_ap r _ of in absurd (omega arith)
unfit_of runs (of_program lists) source r (program core comes of) is = let h = status_ap r _ of.listed in absurd (omega arith)
unfit_of runs (of_program (tries t)) source r (program core comes of) is = let b = trial_bound core t r of in absurd (grind arith)
unfit_of runs lays_out source r of is = let b = layout_bound source r of in absurd (grind arith)

of_unfit : (runs : Runs) (aim : Aim) (source : List ℕ) → IsTellable aim source → HasUnfitArguments aim source → (r : Report) × IsReportFor runs aim source r × (r.status ≡ 23)
of_unfit runs (of_program (simulates w)) source may p =
    (refusal.unfit_arguments p.wanted _ p.fault, program p.core p.program (report.unfit p.wanted p.fault p.misfits refl), refl)
of_unfit runs (of_program (replays u text)) source may p =
    (refusal.unfit_arguments p.wanted _ p.fault, program p.core p.program (report.unfit p.wanted p.fault p.misfits refl), refl)
of_unfit runs (of_program (judges purpose u text)) source may p =
    (refusal.unfit_arguments p.wanted _ p.fault, program p.core p.program (report.unfit p.wanted p.fault p.misfits refl), refl)
of_unfit runs (of_program checks) source may p = absurd p
of_unfit runs (of_program lists) source may p = absurd p
of_unfit runs (of_program (tries t)) source may p = absurd p
of_unfit runs lays_out source may p = absurd p

pub unfit_status : (runs : Runs) → StatusOf runs 23 HasUnfitArguments
unfit_status runs = record { other = (λ e. omega arith, λ e. omega arith, λ e. omega arith); to = unfit_of runs; from = of_unfit runs }

mispicked_run : (runs : Runs) (u : Unpicked) (text source : List ℕ) (core : Core) (r : Report) → ComesTo source core → IsReportOfProgram runs core (replays u text) r → r.status ≡ 26
    → HasMispick (of_program (replays u text)) source
mispicked_run runs u text source core r comes (report.unfit wanted fault misfits e) is = let h = status_ap r _ e in absurd (omega arith)
mispicked_run runs u text source core r comes (report.fit values means (report.mispicked k misfits e)) is =
    record { core = core; program = comes; arguments = values; fit = means; k = k; misfits = misfits }
mispicked_run runs u text source core r comes (report.fit values means (report.replayed numbers has of)) is = let b = ran_bound core of.course r of.is in absurd (grind arith)

mispicked_of : (runs : Runs) (aim : Aim) (source : List ℕ) (r : Report) → IsReportFor runs aim source r → r.status ≡ 26 → HasMispick aim source
mispicked_of runs (of_program aim) source r (refused refusal_is) is = let b = refused_bound source r refusal_is in let high = b.1 in absurd (omega arith)
mispicked_of runs (of_program (simulates w)) source r (program core comes of) is = let b = simulated_bound runs source w r (program core comes of) in absurd (grind arith)
mispicked_of runs (of_program (replays u text)) source r (program core comes of) is = mispicked_run runs u text source core r comes of is
mispicked_of runs (of_program (judges purpose u text)) source r (program core comes of) is = let b = judging_bound core purpose u text r of in absurd (grind arith)
mispicked_of runs (of_program checks) source r (program core comes of) is = let h = status_ap r _ of in absurd (omega arith)
mispicked_of runs (of_program lists) source r (program core comes of) is = let h = status_ap r _ of.listed in absurd (omega arith)
mispicked_of runs (of_program (tries t)) source r (program core comes of) is = let b = trial_bound core t r of in absurd (grind arith)
mispicked_of runs lays_out source r of is = let b = layout_bound source r of in absurd (grind arith)

of_mispicked : (runs : Runs) (aim : Aim) (source : List ℕ) → IsTellable aim source → HasMispick aim source → (r : Report) × IsReportFor runs aim source r × (r.status ≡ 26)
of_mispicked runs (of_program (simulates w)) source may p = absurd p
of_mispicked runs (of_program (replays u text)) source may p =
    (refusal.mispicked p.k, program p.core p.program (report.fit p.arguments p.fit (report.mispicked p.k p.misfits refl)), refl)
of_mispicked runs (of_program (judges purpose u text)) source may p = absurd p
of_mispicked runs (of_program checks) source may p = absurd p
of_mispicked runs (of_program lists) source may p = absurd p
of_mispicked runs (of_program (tries t)) source may p = absurd p
of_mispicked runs lays_out source may p = absurd p

pub mispicked_status : (runs : Runs) → StatusOf runs 26 HasMispick
mispicked_status runs = record { other = (λ e. omega arith, λ e. omega arith, λ e. omega arith); to = mispicked_of runs; from = of_mispicked runs }

-- a log that the program can't give
no_log_judging : (purpose : LogPurpose) (u : Unpicked) (text source : List ℕ) (core : Core) (r : Report) → ComesTo source core → IsReportOfJudging core purpose u text r → r.status ≡ 25
    → GivesNoLog u text source
no_log_judging purpose u text source core r comes (report.unfit wanted fault misfits e) is = let h = status_ap r _ e in absurd (omega arith)
no_log_judging purpose u text source core r comes (report.fit values means (report.yes output numbers log e)) is =
    let h : r.status ≡ 0 = status_ap r _ e ∙ is_log_status purpose output numbers in absurd (omega arith)
no_log_judging purpose u text source core r comes (report.fit values means (report.no k refuses e)) is =
    record { core = core; program = comes; arguments = values; fit = means; k = k; refuses = refuses }

no_log_of : (runs : Runs) (aim : Aim) (source : List ℕ) (r : Report) → IsReportFor runs aim source r → r.status ≡ 25 → HasNoLog aim source
no_log_of runs (of_program aim) source r (refused refusal_is) is = let b = refused_bound source r refusal_is in let high = b.1 in absurd (omega arith)
no_log_of runs (of_program (simulates w)) source r (program core comes of) is = let b = simulated_bound runs source w r (program core comes of) in absurd (grind arith)
no_log_of runs (of_program (replays u text)) source r (program core comes of) is = let b = replayed_bound core u text r of in absurd (grind arith)
no_log_of runs (of_program (judges purpose u text)) source r (program core comes of) is = no_log_judging purpose u text source core r comes of is
no_log_of runs (of_program checks) source r (program core comes of) is = let h = status_ap r _ of in absurd (omega arith)
no_log_of runs (of_program lists) source r (program core comes of) is = let h = status_ap r _ of.listed in absurd (omega arith)
no_log_of runs (of_program (tries t)) source r (program core comes of) is = let b = trial_bound core t r of in absurd (grind arith)
no_log_of runs lays_out source r of is = let b = layout_bound source r of in absurd (grind arith)

of_no_log : (runs : Runs) (aim : Aim) (source : List ℕ) → IsTellable aim source → HasNoLog aim source → (r : Report) × IsReportFor runs aim source r × (r.status ≡ 25)
of_no_log runs (of_program (simulates w)) source may p = absurd p
of_no_log runs (of_program (replays u text)) source may p = absurd p
of_no_log runs (of_program (judges purpose u text)) source may p =
    (refusal.no_log p.k, program p.core p.program (report.fit p.arguments p.fit (report.no p.k p.refuses refl)), refl)
of_no_log runs (of_program checks) source may p = absurd p
of_no_log runs (of_program lists) source may p = absurd p
of_no_log runs (of_program (tries t)) source may p = absurd p
of_no_log runs lays_out source may p = absurd p

pub no_log_status : (runs : Runs) → StatusOf runs 25 HasNoLog
no_log_status runs = record { other = (λ e. omega arith, λ e. omega arith, λ e. omega arith); to = no_log_of runs; from = of_no_log runs }

too_long_of : (runs : Runs) (aim : Aim) (source : List ℕ) (r : Report) → IsReportFor runs aim source r → r.status ≡ 27 → IsTooLong aim source
too_long_of runs (of_program aim) source r of is = let b = source_bound runs source aim r of in absurd (grind arith)
too_long_of runs lays_out source r (faulty (by_lexer fault has e)) is = let h = status_ap r _ e in absurd (omega arith)
too_long_of runs lays_out source r (faulty (by_parser tokens fault has e)) is = let h = status_ap r _ e in absurd (omega arith)
too_long_of runs lays_out source r (laid_out text has within e) is = let h = status_ap r _ e in absurd (omega arith)
too_long_of runs lays_out source r (too_long text has above e) is = (text, has, above)

of_too_long : (runs : Runs) (aim : Aim) (source : List ℕ) → IsTellable aim source → IsTooLong aim source → (r : Report) × IsReportFor runs aim source r × (r.status ≡ 27)
of_too_long runs (of_program aim) source may p = absurd p
of_too_long runs lays_out source may p = (refusal.layout_too_long, too_long p.0 p.1 p.2 refl, refl)

pub too_long_status : (runs : Runs) → StatusOf runs 27 IsTooLong
too_long_status runs = record { other = (λ e. omega arith, λ e. omega arith, λ e. omega arith); to = too_long_of runs; from = of_too_long runs }
