-- Words and files have exactly one report.
use Rattle.std.proofs.Common.{◌≡◌, ℕ, ◌<◌, ◌≤◌, List, Option, Some, None, length, ◌⊎◌, inl, inr, sym, ◌∙◌, ap, subst, refl, arith}
use Rattle.std.specs.Prelude.{Result, Ok, Err, slice_get}
use Rattle.chi_cli.specs.declared.args.ArgFault.{ArgFault}
use Rattle.chi_cli.specs.Arguments.{values_of}
use Rattle.chi_io.specs.Shelf.{Files}
use Rattle.chi_load.specs.Factory.{factory_source}
use Rattle.chi_lex.specs.declared.lexer.TheConstants.{MOST_BYTES}
use Rattle.chi_core.specs.declared.program.Core.{Core}
use Rattle.chi_core.specs.declared.program.ProcDef.{ProcDef}
use Rattle.chi_core.specs.Beginning.{start}
use Rattle.chi_core.specs.Picks.{picks_of}
use Rattle.chi_core.specs.Runs.{Told}
use Rattle.chi_core.specs.Sound.{Sound}
use Rattle.chi_core_runs.specs.Picked.{IsBeginning}
use Rattle.chi_log.specs.Allowed.{IsAllowed}
use Rattle.chi_trace.specs.declared.log.TheConstants.{MOST_LOG_BYTES}
use Rattle.chi_trace.specs.Logs as logs
use Rattle.chi_trace.specs.Logs.{IsUp}
use Rattle.chi_value.specs.declared.value.Value.{Value}
use Rattle.chi_engine.specs.Courses.{Runs, IsRunOf}
use Rattle.chi_engine.specs.Settings.{Settings}
use Rattle.chi_xper_machines.specs.Trials.{Trial, IsTrial, EndsSo, Logs}
use Rattle.chi_tool.specs.declared.task.Purpose.{Purpose}
use Rattle.chi_tool.specs.declared.task.Purpose.TheVariants.{OfProgram, Explain, LayOut}
use Rattle.chi_tool.specs.declared.task.ProgramPurpose.TheVariants.{Simulate}
use Rattle.chi_picks.specs.Lists as picks
use Rattle.chi_sched.specs.Policies.{listed}
use Rattle.chi_tool.specs.declared.task.LogPurpose.{LogPurpose}
use Rattle.chi_tool.specs.declared.task.TheConstants.{MOST_BESIDE}
use Rattle.chi_tool.specs.declared.task.Task.TheVariants.{OfFile, OfPair, OfLog, OfFactory, OfTopic}
use Rattle.chi_tool.specs.Arguments.{Means, Misfits}
use Rattle.chi_tool.specs.Refusals as refusal
use Rattle.chi_tool.specs.Refusals.{Report, usage, no_such_file, file_too_long, unfit_arguments, brought_up, accepted}
use Rattle.chi_tool.specs.Report.{IsReportWith, unfit, fit, IsReportByPicks, mispicked, replayed, IsReportOnLog, yes, no, IsReportOfProgram, IsReportOfSource, refused, program, IsReportOfLog, up, misfit, IsReportFor, IsReportTo, IsReportOfFile, missing, long, fetched, IsReportOfWish, IsReport}
use Rattle.chi_tool.specs.OnLogs.{IsNoLogWith}
use Rattle.chi_tool.specs.Running.{runs_for, IsRunReport, IsReportOfTrial, run_report, trial_report}
use Rattle.chi_tool.specs.Settings.{Wanted, Unpicked, picked_by, Trying, ProgramAim, simulates, replays, judges, checks, lists, tries, Aim, of_program, program_aim, lays_out, wanted_of, pair_aim, IsBounded, IsShortFor, MayBeAimedAt, MayBeAimed, plain, settings_with}
use Rattle.chi_tool.specs.Sources.{ComesTo}
use Rattle.chi_tool.specs.Words.{Wish, nothing, of_task, wish_of}
use Rattle.chi_tool.proofs.Layouts.{layout_some, layout_one}
use Rattle.chi_tool.proofs.Explained.{explained_some, explained_one}
use Rattle.chi_tool.proofs.LawClauses.{AnswerLaw, RunLaw, CodeLaw, TrialLaw, CheckLaw, ExplainLaw, JudgeLaw, comes_sound, ValuesLaw, RangeLaw, LogLaw, PicksLaw}
use Rattle.chi_tool.proofs.Runs.{may_be_aimed, pair_may_be_aimed, listed_lawful, asked_settings}
use Rattle.chi_tool.proofs.Sources.{Comes, source_comes, one_refusal, refused_or_comes, one_core}
use Rattle.chi_tool.proofs.Wishes.{IsBoundedWish, bounded_wish, factory_within}

-- a file has one report where its content has

module _ (most : ℕ) (P : List ℕ → Report → Type 0) where
  file_some : ((content : List ℕ) → length content ≤ most → (r : Report) × P content r) → (o : Option (List ℕ)) → (r : Report) × IsReportOfFile most P o r
  file_some some None = (no_such_file, missing refl refl)
  file_some some (Some content) = by_length (let c : (most < length content) ⊎ (length content ≤ most) = grind arith in c)
    where
      by_length : (most < length content) ⊎ (length content ≤ most) → (r : Report) × IsReportOfFile most P (Some content) r
      by_length (inl above) = (file_too_long, long content refl above refl)
      by_length (inr within) = let p = some content within in (p.0, fetched content refl within p.1)

  file_one : ((content : List ℕ) → length content ≤ most → (r s : Report) → P content r → P content s → r ≡ s) → (o : Option (List ℕ)) (r s : Report)
      → IsReportOfFile most P o r → IsReportOfFile most P o s → r ≡ s
  file_one one o r s (missing p a) (missing q b) = a ∙ sym b
  file_one one o r s (missing p a) (long y q m b) = absurd (cc)
  file_one one o r s (missing p a) (fetched y q m b) = absurd (cc)
  file_one one o r s (long x p l a) (missing q b) = absurd (cc)
  file_one one o r s (long x p l a) (long y q m b) = a ∙ sym b
  file_one one o r s (long x p l a) (fetched y q m b) = let same : x ≡ y = cc in let far : most < length y = subst (λ z. most < length z) same l in absurd (omega arith)
  file_one one o r s (fetched x p l a) (missing q b) = absurd (cc)
  file_one one o r s (fetched x p l a) (long y q m b) = let same : y ≡ x = cc in let far : most < length x = subst (λ z. most < length z) same m in absurd (omega arith)
  file_one one o r s (fetched x p l a) (fetched y q m b) = let same : y ≡ x = cc in one x l r s a (subst (λ z. P z s) same b)

-- a log has one report

module _ (law : LogLaw) where
  log_some : (text : List ℕ) → (r : Report) × IsReportOfLog text r
  log_some text = by (law.some text)
    where
      by : ((log : List ℕ) × IsUp text log) ⊎ ((k : ℕ) × logs.Misfits text k) → (r : Report) × IsReportOfLog text r
      by (inl (log, is)) = (brought_up log, up log is refl)
      by (inr (k, is)) = (refusal.misfit k, misfit k is refl)

  log_one : (text : List ℕ) (r s : Report) → IsReportOfLog text r → IsReportOfLog text s → r ≡ s
  log_one text r s (up log p a) (up other q b) = a ∙ ap brought_up (law.one_log text log other p q) ∙ sym b
  log_one text r s (up log p a) (misfit k q b) = absurd (law.apart text log k p q)
  log_one text r s (misfit k p a) (up log q b) = absurd (law.apart text log k q p)
  log_one text r s (misfit j p a) (misfit k q b) = a ∙ ap refusal.misfit (law.one_line text j k p q) ∙ sym b

-- what comes of an experiment that may be run can be told
pub trial_told : TrialLaw → (source : List ℕ) (core : Core) → length source ≤ MOST_BYTES → ComesTo source core → (t : Trying) → MayBeAimedAt (tries t)
    → (trial : Trial) → IsTrial core t.seed t.pick t.bound trial → (line : List ℕ) × Logs core trial line
trial_told law source core within comes t may trial is =
    let it = law.some source core within comes t may in
    let same : it.0 ≡ trial = law.one source core within comes t it.0 trial it.1 is in
    subst (λ (x : Trial). (line : List ℕ) × Logs core x line) same it.3

-- and has one report
trial_one : TrialLaw → (source : List ℕ) (core : Core) → length source ≤ MOST_BYTES → ComesTo source core → (t : Trying) (r s : Report)
    → IsReportOfTrial core t r → IsReportOfTrial core t s → r ≡ s
trial_one law source core within comes t r s p q =
    let same : p.trial ≡ q.trial = law.one source core within comes t p.trial q.trial p.is q.is in
    let ends : EndsSo q.trial p.ended = subst (λ (x : Trial). EndsSo x p.ended) same p.ends in
    let logged : Logs core q.trial p.line = subst (λ (x : Trial). Logs core x p.line) same p.logged in
    let ended : p.ended ≡ q.ended = law.one_ended q.trial p.ended q.ended ends q.ends in
    let line : p.line ≡ q.line = law.one_line core q.trial p.line q.line logged q.logged in
    p.told ∙ (λ i. trial_report (same i) (ended i) (line i)) ∙ sym q.told

module _ (runs : Runs) (answers : AnswerLaw) (ran : RunLaw runs) (coded : CodeLaw) (tried : TrialLaw) (check : CheckLaw) (values_law : ValuesLaw)
    (picks_law : PicksLaw) (judging : JudgeLaw) where
  -- a run of the program that is asked for with these arguments begins so
  begins_so : (core : Core) (u : Unpicked) (values : List Value) (d : ProcDef) → slice_get core.procs core.model ≡ Some d → values_of d.params u.texts ≡ Ok values
      → IsBeginning core (start core values u.seed u.until)
  begins_so core u values d is read = record {
    model = d;
    is = is;
    arguments = values;
    fit = values_law core.names.kinds d.params u.texts values read;
    seed = u.seed;
    until = u.until;
    begins = refl;
  }

  -- there is one

  module _ (core : Core) (texts : List (List ℕ)) (P : List Value → Report → Type 0) (d : ProcDef) (is : slice_get core.procs core.model ≡ Some d) where
    arguments_some : ((values : List Value) → values_of d.params texts ≡ Ok values → (r : Report) × P values r)
        → (o : Result (List Value) ArgFault) → values_of d.params texts ≡ o → (r : Report) × IsReportWith core texts P r
    arguments_some some (Ok values) read = let p = some values read in (p.0, fit values (record { model = d; is = is; read = read }) p.1)
    arguments_some some (Err fault) read =
        (unfit_arguments (length d.params) (length texts) fault, unfit (length d.params) fault (record { model = d; is = is; read = read; count = refl }) refl)

    with_some : ((values : List Value) → values_of d.params texts ≡ Ok values → (r : Report) × P values r) → (r : Report) × IsReportWith core texts P r
    with_some some = arguments_some some (values_of d.params texts) refl

  module _ (source : List ℕ) (core : Core) (within : length source ≤ MOST_BYTES) (comes : ComesTo source core) (d : ProcDef) (is : slice_get core.procs core.model ≡ Some d) where
    run_some : (aim : Aim) (w : Wanted) → MayBeAimedAt (simulates w) → (values : List Value) → values_of d.params w.texts ≡ Ok values
        → (r : Report) × IsRunReport (runs_for runs aim) core (settings_with w values) r
    run_some aim w bounded values read =
        let its = ran.some aim source core within comes (settings_with w values) (asked_settings values_law core w values d is read bounded) in
        (run_report core its.0, record { course = its.0; run = its.1; is = refl })

    by_picks_some : (u : Unpicked) (text : List ℕ) → MayBeAimedAt (replays u text) → (values : List Value) → values_of d.params u.texts ≡ Ok values
        → (r : Report) × IsReportByPicks core u text values r
    by_picks_some u text bounded values read = by (picks_law.some text)
      where
        by : ((numbers : List ℕ) × picks.Has text numbers) ⊎ ((k : ℕ) × picks.Misfits text k) → (r : Report) × IsReportByPicks core u text values r
        by (inl (numbers, has)) = let p = run_some (of_program (replays u text)) (picked_by (listed numbers) u) (bounded, listed_lawful numbers) values read in (p.0, replayed numbers has p.1)
        by (inr (k, misfits)) = (refusal.mispicked k, mispicked k misfits refl)

    on_log_some : (purpose : LogPurpose) (u : Unpicked) (text : List ℕ) → (values : List Value) → values_of d.params u.texts ≡ Ok values
        → (r : Report) × IsReportOnLog core purpose u text values r
    on_log_some purpose u text values read =
        by (judging.some core (comes_sound check source core within comes) (start core values u.seed u.until) (begins_so core u values d is read) u.bound text)
      where
        by : IsAllowed core (start core values u.seed u.until) u.bound text ⊎ ((k : ℕ) × IsNoLogWith core u values text k)
            → (r : Report) × IsReportOnLog core purpose u text values r
        by (inl (told, log)) =
            let numbers = picks_of core (start core values u.seed u.until) u.bound told in (
              refusal.is_log purpose told.output numbers,
              yes told.output numbers (record { told = told; log_of = log; output_is = refl; picks_are = refl }) refl,
            )
        by (inr (k, refuses)) = (refusal.no_log k, no k refuses refl)

  program_some : (aim : ProgramAim) → MayBeAimedAt aim → (source : List ℕ) (core : Core) → length source ≤ MOST_BYTES → ComesTo source core → (r : Report) × IsReportOfProgram runs core aim r
  program_some (simulates w) bounded source core within comes =
      let m = (comes_sound check source core within comes).model in
      with_some core w.texts (λ values. IsRunReport runs core (settings_with w values)) m.0 m.1 (run_some source core within comes m.0 m.1 (of_program (simulates w)) w bounded)
  program_some (replays u text) bounded source core within comes =
      let m = (comes_sound check source core within comes).model in
      with_some core u.texts (IsReportByPicks core u text) m.0 m.1 (by_picks_some source core within comes m.0 m.1 u text bounded)
  program_some (judges purpose u text) bounded source core within comes =
      let m = (comes_sound check source core within comes).model in
      with_some core u.texts (IsReportOnLog core purpose u text) m.0 m.1 (on_log_some source core within comes m.0 m.1 purpose u text)
  program_some checks bounded source core within comes = (accepted, refl)
  program_some lists bounded source core within comes =
      let there = coded.some source core within comes in (refusal.listed there.0, record { code = there.0; is = there.1; listed = refl })
  program_some (tries t) bounded source core within comes =
      let it = tried.some source core within comes t bounded in (
        trial_report it.0 it.2.0 it.3.0,
        record { trial = it.0; is = it.1; ended = it.2.0; ends = it.2.1; line = it.3.0; logged = it.3.1; told = refl },
      )

  come_to_some : (aim : ProgramAim) → MayBeAimedAt aim → (source : List ℕ) → length source ≤ MOST_BYTES → Comes source → (r : Report) × IsReportOfSource runs source aim r
  come_to_some aim bounded source within (inl (r, is)) = (r, refused is)
  come_to_some aim bounded source within (inr (core, is)) = let p = program_some aim bounded source core within is in (p.0, program core is p.1)

  pub source_some : (aim : Aim) → MayBeAimed aim → (source : List ℕ) → length source ≤ MOST_BYTES → (r : Report) × IsReportFor runs aim source r
  source_some (of_program aim) bounded source within = come_to_some aim bounded source within (source_comes answers check source)
  source_some lays_out bounded source within = layout_some answers source

  -- what words ask of a file that holds a source
  purpose_some : ExplainLaw → (name : List ℕ) (purpose : Purpose) → IsBounded purpose → (source : List ℕ) → length source ≤ MOST_BYTES → (r : Report) × IsReportTo runs name purpose source r
  purpose_some explain name (OfProgram p) bounded source within = source_some (of_program (program_aim p)) (may_be_aimed (OfProgram p) bounded) source within
  purpose_some explain name (Explain a) bounded source within =
      let p = source_some (of_program (simulates (wanted_of a))) (may_be_aimed (Explain a) bounded) source within in
      let told = explained_some answers explain runs check values_law name source within (wanted_of a) (may_be_aimed (Explain a) bounded) p.0 p.1 in
      (told.0, told.1)
  purpose_some explain name LayOut bounded source within = source_some lays_out tt source within

  wish_some : ExplainLaw → LogLaw → (w : Wish) → IsBoundedWish w → (files : Files) → (r : Report) × IsReportOfWish runs w files r
  wish_some explain log_law nothing bounded files = (usage, refl)
  wish_some explain log_law (of_task (OfFile name purpose)) bounded files =
      file_some MOST_BYTES (IsReportTo runs name purpose) (purpose_some explain name purpose bounded) (files name)
  wish_some explain log_law (of_task (OfPair pair)) bounded files =
      file_some MOST_BYTES (λ source. IsReportOfFile MOST_BESIDE (λ text. IsReportOfSource runs source (pair_aim pair.purpose text)) (files pair.beside))
      (λ source within. file_some MOST_BESIDE (λ text. IsReportOfSource runs source (pair_aim pair.purpose text))
      (λ text short. source_some (of_program (pair_aim pair.purpose text)) (pair_may_be_aimed pair.purpose text bounded) source within) (files pair.beside)) (files pair.file)
  wish_some explain log_law (of_task (OfLog name)) bounded files = file_some MOST_LOG_BYTES IsReportOfLog (λ text within. log_some log_law text) (files name)
  wish_some explain log_law (of_task (OfFactory size)) bounded files = source_some (of_program (simulates (wanted_of plain))) (may_be_aimed (OfProgram (Simulate plain)) (omega arith)) (factory_source size) (factory_within size bounded)
  wish_some explain log_law (of_task (OfTopic topic)) bounded files = (refusal.helped topic, refl)

  pub report_some : ExplainLaw → LogLaw → RangeLaw → (words : List (List ℕ)) (files : Files) → (r : Report) × IsReport runs words files r
  report_some explain log_law bounds words files = wish_some explain log_law (wish_of words) (bounded_wish bounds words) files

  -- and no other

  one_reading : (core : Core) (texts : List (List ℕ)) (values : List Value) (wanted : ℕ) (fault : ArgFault) → Means core texts values → Misfits core texts wanted fault → ⊥
  one_reading core texts values wanted fault p q =
      let same : p.model ≡ q.model = cc (p.is, q.is) in
      let there : values_of q.model.params texts ≡ Ok values = subst (λ (d : ProcDef). values_of d.params texts ≡ Ok values) same p.read in
      let both : ◌≡◌ {A = Result (List Value) ArgFault} (Ok values) (Err fault) = sym there ∙ q.read in
      cc

  with_one : (core : Core) (texts : List (List ℕ)) (P : List Value → Report → Type 0) → ((values : List Value) → Means core texts values → (r s : Report) → P values r → P values s → r ≡ s)
      → (r s : Report) → IsReportWith core texts P r → IsReportWith core texts P s → r ≡ s
  with_one core texts P one r s (unfit wanted fault p e) (unfit counted other q f) =
      let same : p.model ≡ q.model = cc (p.is, q.is) in
      let there : values_of q.model.params texts ≡ Err fault = subst (λ (d : ProcDef). values_of d.params texts ≡ Err fault) same p.read in
      let both : ◌≡◌ {A = Result (List Value) ArgFault} (Err fault) (Err other) = sym there ∙ q.read in
      let counts : wanted ≡ counted = p.count ∙ ap (λ (d : ProcDef). length d.params) same ∙ sym q.count in
      let faults : fault ≡ other = cc in
      e ∙ (λ i. unfit_arguments (counts i) (length texts) (faults i)) ∙ sym f
  with_one core texts P one r s (unfit wanted fault p e) (fit values q of) = absurd (one_reading core texts values wanted fault q p)
  with_one core texts P one r s (fit values p of) (unfit wanted fault q f) = absurd (one_reading core texts values wanted fault p q)
  with_one core texts P one r s (fit values p of) (fit given q also) =
      let same : p.model ≡ q.model = cc (p.is, q.is) in
      let there : values_of q.model.params texts ≡ Ok values = subst (λ (d : ProcDef). values_of d.params texts ≡ Ok values) same p.read in
      let both : ◌≡◌ {A = Result (List Value) ArgFault} (Ok values) (Ok given) = sym there ∙ q.read in
      let same_values : given ≡ values = cc in
      one values p r s of (subst (λ (xs : List Value). P xs s) same_values also)

  run_one : (aim : Aim) (core : Core) (s : Settings) (r t : Report) → IsRunReport (runs_for runs aim) core s r → IsRunReport (runs_for runs aim) core s t → r ≡ t
  run_one aim core s r t of also = of.is ∙ ap (run_report core) (ran.one aim core s of.course also.course of.run also.run) ∙ sym also.is

  by_picks_one : (core : Core) (u : Unpicked) (text : List ℕ) (values : List Value) (r s : Report) → IsReportByPicks core u text values r → IsReportByPicks core u text values s → r ≡ s
  by_picks_one core u text values r s (mispicked j p e) (mispicked k q f) = e ∙ ap refusal.mispicked (picks_law.one_line text j k p q) ∙ sym f
  by_picks_one core u text values r s (mispicked k p e) (replayed numbers has of) = absurd (picks_law.apart text numbers k has p)
  by_picks_one core u text values r s (replayed numbers has of) (mispicked k p e) = absurd (picks_law.apart text numbers k has p)
  by_picks_one core u text values r s (replayed numbers has of) (replayed others had also) =
      let same : others ≡ numbers = picks_law.one_list text others numbers had has in
      run_one (of_program (replays u text)) core (settings_with (picked_by (listed numbers) u) values) r s of
      (subst (λ (ns : List ℕ). IsRunReport IsRunOf core (settings_with (picked_by (listed ns) u) values) s) same also)

  -- a text is the log of one run of a sound program, or has one first wrong line
  on_log_one : (core : Core) → Sound core → (purpose : LogPurpose) (u : Unpicked) (text : List ℕ) (values : List Value) → Means core u.texts values
      → (r s : Report) → IsReportOnLog core purpose u text values r → IsReportOnLog core purpose u text values s → r ≡ s
  on_log_one core sound purpose u text values means r s (yes output numbers p e) (yes others nots q f) =
      let told : p.told ≡ q.told =
      judging.one_log core sound (start core values u.seed u.until) (begins_so core u values means.model means.is means.read) u.bound p.told q.told text p.log_of q.log_of in
      let outputs : output ≡ others = p.output_is ∙ ap (λ (t : Told). t.output) told ∙ sym q.output_is in
      let picked : numbers ≡ nots = p.picks_are ∙ ap (picks_of core (start core values u.seed u.until) u.bound) told ∙ sym q.picks_are in
      e ∙ (λ i. refusal.is_log purpose (outputs i) (picked i)) ∙ sym f
  on_log_one core sound purpose u text values means r s (yes output numbers p e) (no k q f) = absurd (q.not_allowed (p.told, p.log_of))
  on_log_one core sound purpose u text values means r s (no k p e) (yes output numbers q f) = absurd (p.not_allowed (q.told, q.log_of))
  on_log_one core sound purpose u text values means r s (no j p e) (no k q f) =
      e ∙ ap refusal.no_log (judging.one_line core (start core values u.seed u.until) u.bound text j k p.first_wrong q.first_wrong) ∙ sym f

  program_one : (source : List ℕ) (core : Core) (aim : ProgramAim) → ComesTo source core → IsShortFor (of_program aim) source
      → (r s : Report) → IsReportOfProgram runs core aim r → IsReportOfProgram runs core aim s → r ≡ s
  program_one source core (simulates w) comes short r s p q =
      with_one core w.texts (λ values. IsRunReport runs core (settings_with w values)) (λ values means. run_one (of_program (simulates w)) core (settings_with w values)) r s p q
  program_one source core (replays u text) comes short r s p q =
      with_one core u.texts (IsReportByPicks core u text) (λ values means. by_picks_one core u text values) r s p q
  program_one source core (judges purpose u text) comes short r s p q =
      with_one core u.texts (IsReportOnLog core purpose u text) (on_log_one core (comes_sound check source core short comes) purpose u text) r s p q
  program_one source core checks comes short r s p q = p ∙ sym q
  program_one source core lists comes short r s p q = p.listed ∙ ap refusal.listed (coded.one core p.code q.code p.is q.is) ∙ sym q.listed
  program_one source core (tries t) comes short r s p q = trial_one tried source core short comes t r s p q

  checked_one : (source : List ℕ) (aim : ProgramAim) → IsShortFor (of_program aim) source → (r s : Report) → IsReportOfSource runs source aim r → IsReportOfSource runs source aim s → r ≡ s
  checked_one source aim short r s (refused p) (refused q) = one_refusal answers source r s p q
  checked_one source aim short r s (refused p) (program core q b) = absurd (refused_or_comes answers source r core p q)
  checked_one source aim short r s (program core p a) (refused q) = absurd (refused_or_comes answers source s core q p)
  checked_one source aim short r s (program core p a) (program other q b) =
      program_one source core aim p short r s a (subst (λ c. IsReportOfProgram runs c aim s) (one_core answers source other core q p) b)

  pub source_one : (source : List ℕ) (aim : Aim) → IsShortFor aim source → (r s : Report) → IsReportFor runs aim source r → IsReportFor runs aim source s → r ≡ s
  source_one source (of_program aim) short r s p q = checked_one source aim short r s p q
  source_one source lays_out short r s p q = layout_one answers source r s p q

  -- a source within the limit is short for all that may be done with it
  short_for : (aim : Aim) (source : List ℕ) → length source ≤ MOST_BYTES → IsShortFor aim source
  short_for (of_program (simulates w)) source within = tt
  short_for (of_program (replays u text)) source within = tt
  short_for (of_program (judges purpose u text)) source within = within
  short_for (of_program checks) source within = tt
  short_for (of_program lists) source within = tt
  short_for (of_program (tries t)) source within = within
  short_for lays_out source within = tt

  purpose_one : ExplainLaw → (name : List ℕ) (purpose : Purpose) (source : List ℕ) → length source ≤ MOST_BYTES
      → (r s : Report) → IsReportTo runs name purpose source r → IsReportTo runs name purpose source s → r ≡ s
  purpose_one explain name (OfProgram p) source within r s a b = source_one source (of_program (program_aim p)) (short_for (of_program (program_aim p)) source within) r s a b
  purpose_one explain name (Explain a) source within r s p q =
      explained_one answers explain runs ran name source (wanted_of a) (λ t u. source_one source (of_program (simulates (wanted_of a))) tt t u) r s p q
  purpose_one explain name LayOut source within r s a b = source_one source lays_out tt r s a b

  wish_one : ExplainLaw → LogLaw → (w : Wish) (files : Files) (r s : Report) → IsReportOfWish runs w files r → IsReportOfWish runs w files s → r ≡ s
  wish_one explain log_law nothing files r s p q = p ∙ sym q
  wish_one explain log_law (of_task (OfFile name purpose)) files r s p q = file_one MOST_BYTES (IsReportTo runs name purpose)
      (λ source within. purpose_one explain name purpose source within) (files name) r s p q
  wish_one explain log_law (of_task (OfPair pair)) files r s p q =
      file_one MOST_BYTES (λ source. IsReportOfFile MOST_BESIDE (λ text. IsReportOfSource runs source (pair_aim pair.purpose text)) (files pair.beside))
      (λ source within. file_one MOST_BESIDE (λ text. IsReportOfSource runs source (pair_aim pair.purpose text))
      (λ text also. checked_one source (pair_aim pair.purpose text) (short_for (of_program (pair_aim pair.purpose text)) source within)) (files pair.beside))
      (files pair.file) r s p q
  wish_one explain log_law (of_task (OfLog name)) files r s p q = file_one MOST_LOG_BYTES IsReportOfLog (λ text within. log_one log_law text) (files name) r s p q
  wish_one explain log_law (of_task (OfFactory size)) files r s p q = source_one (factory_source size) (of_program (simulates (wanted_of plain))) tt r s p q
  wish_one explain log_law (of_task (OfTopic topic)) files r s p q = p ∙ sym q

  pub report_one : ExplainLaw → LogLaw → (words : List (List ℕ)) (files : Files) (r s : Report) → IsReport runs words files r → IsReport runs words files s → r ≡ s
  report_one explain log_law words files r s p q = wish_one explain log_law (wish_of words) files r s p q
