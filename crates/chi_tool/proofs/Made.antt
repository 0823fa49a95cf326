-- Reports that are made while their output is passed on.
use Rattle.std.proofs.Common.{◌≡◌, ℕ, ◌≤◌, ℤ, Bool, false, List, [], ◌++◌, Option, inl, inr, refl, sym, ◌∙◌, ap, subst, arith, append-nil}
use Rattle.std.specs.Prelude.{option_map, Result, Ok, Err, IfOk, IsErrAnd}
use Rattle.chi_base.specs.declared.no_memory.NoMemory.{NoMemory}
use Rattle.chi_io.specs.Counts.{Rose}
use Rattle.chi_io.specs.Sink.{Grew}
use Rattle.chi_value.specs.declared.value.Value.{Value}
use Rattle.chi_core.specs.declared.program.Core.{Core}
use Rattle.chi_core.specs.Options.{Ending}
use Rattle.chi_core.specs.Picks.{Pick}
use Rattle.chi_engine.proofs.Policies.{formula_given, itself}
use Rattle.chi_core.specs.VerdictLine.{verdict_line_of}
use Rattle.chi_engine.specs.Courses.{Course, Runs, IsRunOf}
use Rattle.chi_engine.specs.Running.{RunsTo}
use Rattle.chi_engine.specs.Settings.{Settings}
use Rattle.chi_engine.specs.Below.chi_machine_traces.specs.declared.passing.PassFault.{PassFault}
use Rattle.chi_engine.specs.Below.chi_machine_traces.specs.declared.passing.PassFault.TheVariants as fault
use Rattle.chi_picks.specs.Lists as picks
use Rattle.chi_sched.specs.Policies.{Answers, listed}
use Rattle.chi_trace.specs.declared.filter.Filter.{Filter}
use Rattle.chi_tool.specs.declared.by_engine.Ran.{Ran}
use Rattle.chi_tool.specs.declared.report.Reported.{Reported}
use Rattle.chi_tool.specs.Arguments.{Means}
use Rattle.chi_tool.specs.Call.{SinkUse, sink_use}
use Rattle.chi_tool.specs.Delivery.{TookWhole, Delivers, out_broke}
use Rattle.chi_tool.specs.Explaining.{told_with}
use Rattle.chi_tool.specs.Refusals.{Report}
use Rattle.chi_tool.specs.Refusals as refusal
use Rattle.chi_tool.specs.Report.{IsReportOfRun, fit, IsReportByPicks, mispicked, replayed, IsReportOfProgram, IsReportOfSource, program}
use Rattle.chi_tool.specs.Reported.{report_in, report_after, unpassed}
use Rattle.chi_tool.specs.Running.{IsRunReport, run_report}
use Rattle.chi_tool.specs.Serving.{Makes, RunsAs, status_without, Tells, told, cut_short, untold}
use Rattle.chi_tool.specs.Settings.{Wanted, Unpicked, settings_with, ProgramAim, simulates}
use Rattle.chi_tool.specs.Sources.{ComesTo}
use Rattle.chi_tool.proofs.Runs.{if_ok, listed_lawful}
use Rattle.chi_tool.proofs.Sinks.{still, delivers_then, whole_front}

-- what holds of the report that is made
pub makes_on : (P Q : Report → Type 0) (out : SinkUse) (result : Result Reported PassFault) → ((r : Report) → P r → Q r) → Makes P out result → Makes Q out result
makes_on P Q out (Ok r) follows (passed, took, count, is) = (passed, took, count, follows (report_after passed r) is)
makes_on P Q out (Err fault.Stopped) follows (r, is, broke) = (r, follows r is, broke)
makes_on P Q out (Err fault.NoMemory) follows (inl none) = inl none
makes_on P Q out (Err fault.NoMemory) follows (inr (r, is, part)) = inr (r, follows r is, part)

-- what a `?` hands on
pub makes_fault : (P : Report → Type 0) (out : SinkUse) (result : Result Reported PassFault) (lost : PassFault) → IsErrAnd result (λ e. e ≡ lost) → Makes P out (Err lost) → Makes P out result
makes_fault P out (Ok r) lost none made = absurd none
makes_fault P out (Err e) lost same made = subst (λ (x : PassFault). Makes P out (Err x)) (sym same) made

-- where nothing is passed on

module _ {S : Type 0} (taken : S → Option (List ℕ)) (faults : S → ℕ) (stopped : S → Bool) (sink : S) (goes : stopped sink ≡ false) where
  took_none : TookWhole (sink_use taken faults stopped sink sink) []
  took_none = record { took = still (taken sink); goes = goes }

  pub makes_here : (P : Report → Type 0) (r : Reported) → P (report_in r) → Makes P (sink_use taken faults stopped sink sink) (Ok r)
  makes_here P r is = ([], took_none, omega arith, is)

  pub makes_none : (P : Report → Type 0) (lost : PassFault) → lost ≡ fault.NoMemory → Makes P (sink_use taken faults stopped sink sink) (Err lost)
  makes_none P lost none = subst (λ e. Makes P (sink_use taken faults stopped sink sink) (Err e)) (sym none) (inl took_none)

  pub makes_lost : (P : Report → Type 0) (result : Result Reported PassFault) → IsErrAnd result (λ e. e ≡ fault.NoMemory) → Makes P (sink_use taken faults stopped sink sink) result
  makes_lost P (Ok r) none = absurd none
  makes_lost P (Err lost) none = makes_none P lost none

  pub runs_none : (runs : Runs) (core : Core) (s : Settings) (result : Result Ran PassFault) → IsErrAnd result (λ e. e ≡ fault.NoMemory)
      → RunsAs runs core s (sink_use taken faults stopped sink sink) result
  runs_none runs core s (Ok ran) none = absurd none
  runs_none runs core s (Err lost) none = inl (none, took_none)

  by_made : (P : Report → Type 0) (made : Result Reported NoMemory) → IfOk made (λ r. P (report_in r)) → Makes P (sink_use taken faults stopped sink sink) (unpassed made)
  by_made P (Ok r) is = makes_here P r is
  by_made P (Err lost) is = inl took_none

  pub makes_apart : (P : Report → Type 0) (made : Result Reported NoMemory) (result : Result Reported PassFault) → result ≡ unpassed made → IfOk made (λ r. P (report_in r))
      → Makes P (sink_use taken faults stopped sink sink) result
  makes_apart P made result same is = subst (Makes P (sink_use taken faults stopped sink sink)) (sym same) (by_made P made is)

-- what is left of a report is delivered

pub tells_rest : {S : Type 0} (taken : S → Option (List ℕ)) (faults : S → ℕ) (stopped : S → Bool) (old mid new : S) (P : Report → Type 0) (r : Reported) (result : ℕ) (log : SinkUse)
    → Makes P (sink_use taken faults stopped old mid) (Ok r) → Delivers r.status r.out.items r.log.items result (sink_use taken faults stopped mid new) log
    → Tells P result (sink_use taken faults stopped old new) log
tells_rest taken faults stopped old mid new P r result log (passed, took, count, is) d =
    told (report_after passed r) is (delivers_then taken faults stopped old mid new count passed r.out.items took r.status r.log.items result log d)

-- or none is made
pub tells_none : (P : Report → Type 0) (lost : PassFault) (result : ℕ) (out log : SinkUse) → result ≡ status_without lost → Makes P out (Err lost) → TookWhole log [] → Tells P result out log
tells_none P fault.Stopped result out log same (r, is, broke) none = told r is (out_broke same broke none)
tells_none P fault.NoMemory result out log same (inl silent) none = untold same silent none
tells_none P fault.NoMemory result out log same (inr (r, is, part)) none = cut_short r is same part none

-- the report of a run

after_passed : (passed : List ℕ) (r : Reported) (other : Report) → report_in r ≡ other → report_after passed r ≡ record { status = other.status; out = passed ++ other.out; log = other.log }
after_passed passed r other is = ap (λ (x : Report). record { status = x.status; out = passed ++ x.out; log = x.log }) is

module _ (runs : Runs) (core : Core) (s : Settings) (out : SinkUse) (logged : List ℕ → Type 0) where
  -- so it came out
  abbrev pub RanSo : Result Ending PassFault → Type 0
  RanSo result = RunsTo (runs core s) core (Grew out.before out.after) logged (Rose out.faults_before out.faults_after) out.stopped result

  -- it ran to its end, and this text is told of that
  module _ (text : Ending → List ℕ) (P : Report → Type 0) (end : Ending) (lines : List ℕ) (all : (log : List ℕ) → logged log → lines ≡ log)
      (count : out.faults_before ≤ out.faults_after) (ran : RanSo (Ok end)) (its : P (told_with text ran.1.course)) where
    whole : (r : Reported) → report_in r ≡ told_with text (record { output = []; log = lines; ending = end })
        → report_after ran.1.course.output r ≡ told_with text ran.1.course
    whole r is =
        let at : List ℕ → Ending → Report = λ log ending. told_with text (record { output = ran.1.course.output; log = log; ending = ending }) in
        let writing : List ℕ → Report = λ bytes. told_with text (record { output = bytes; log = lines; ending = end }) in
        after_passed ran.1.course.output r (told_with text (record { output = []; log = lines; ending = end })) is
        ∙ ap writing (append-nil ran.1.course.output)
        ∙ (λ i. at (all ran.1.course.log ran.1.logged_all i) (sym ran.1.ended i))

    pub told_makes : (made : Result Reported NoMemory) (result : Result Reported PassFault) → result ≡ unpassed made
        → IfOk made (λ r. report_in r ≡ told_with text (record { output = []; log = lines; ending = end })) → Makes P out result
    told_makes made result same is = subst (Makes P out) (sym same) (by made is)
      where
        by : (made' : Result Reported NoMemory) → IfOk made' (λ r. report_in r ≡ told_with text (record { output = []; log = lines; ending = end })) → Makes P out (unpassed made')
        by (Ok r) e = (ran.1.course.output, record { took = ran.1.took_all; goes = ran.0 }, count, subst P (sym (whole r e)) its)
        by (Err lost) e = inr (told_with text ran.1.course, its, record { took = whole_front out ran.1.course.output ran.1.took_all; goes = ran.0 })

  -- it didn't
  module _ (text : Ending → List ℕ) (P : Report → Type 0) (its : (course : Course) → runs core s course → P (told_with text course)) where
    pub told_fault : (lost : PassFault) → RanSo (Err lost) → Makes P out (Err lost)
    told_fault fault.Stopped (halted, rose, so) =
        (told_with text so.course, its so.course so.run, record { took = (so.front, so.part, so.took_part); rose = rose; stopped = halted })
    told_fault fault.NoMemory (goes, so) =
        inr (told_with text so.course, its so.course so.run, record { took = (so.front, so.part, so.took_part); goes = goes })

  -- what is logged of it is at hand

  pub runs_logged : (its : Ran) → ((log : List ℕ) → logged log → its.log.items ≡ log) → out.faults_before ≤ out.faults_after → RanSo (Ok its.ending)
      → RunsAs runs core s out (Ok its)
  runs_logged its all count ran = (
    count,
    (
      ran.0,
      record {
        course = ran.1.course;
        run = ran.1.run;
        ended = ran.1.ended;
        took_all = ran.1.took_all;
        logged_all = all ran.1.course.log ran.1.logged_all;
        may = ran.1.may;
      },
    ),
  )

  unlogged : (lost : PassFault) → RanSo (Err lost) → RunsAs runs core s out (Err lost)
  unlogged fault.Stopped ran = inr ran
  unlogged fault.NoMemory ran = inr ran

  pub runs_lost : (result : Result Ran PassFault) (lost : PassFault) → IsErrAnd result (λ e. e ≡ lost) → RanSo (Err lost) → RunsAs runs core s out result
  runs_lost (Ok ran) lost none is = absurd none
  runs_lost (Err e) lost same is = subst (λ (x : PassFault). RunsAs runs core s out (Err x)) (sym same) (unlogged lost is)

  -- the line of its verdict is

  abbrev line_of : Ending → List ℕ
  line_of ending = verdict_line_of core.names.kinds ending.verdict ending.clock

  pub ran_makes : (end : Ending) (lines : List ℕ) (all : (log : List ℕ) → logged log → lines ≡ log) (count : out.faults_before ≤ out.faults_after) (ran : RanSo (Ok end))
      → (made : Result Reported NoMemory) (result : Result Reported PassFault) → result ≡ unpassed made
      → IfOk made (λ r. report_in r ≡ run_report core (record { output = []; log = lines; ending = end })) → Makes (IsRunReport runs core s) out result
  ran_makes end lines all count ran made result same is =
      told_makes line_of (IsRunReport runs core s) end lines all count ran (record { course = ran.1.course; run = ran.1.run; is = refl }) made result same is

  pub fault_makes : (lost : PassFault) → RanSo (Err lost) → Makes (IsRunReport runs core s) out (Err lost)
  fault_makes lost ran = told_fault line_of (IsRunReport runs core s) (λ course run. record { course = course; run = run; is = refl }) lost ran

-- the same of a run that may not have begun

pub runs_fault : (runs : Runs) (core : Core) (s : Settings) (out : SinkUse) (text : Ending → List ℕ) (P : Report → Type 0) → ((course : Course) → runs core s course → P (told_with text course))
    → (lost : PassFault) → RunsAs runs core s out (Err lost) → Makes P out (Err lost)
runs_fault runs core s out text P its lost (inl (none, took)) = subst (λ (e : PassFault). Makes P out (Err e)) (sym none) (inl took)
runs_fault runs core s out text P its lost (inr ran) = told_fault runs core s out (λ lines. ⊥) text P its lost ran

pub report_fault : (runs : Runs) (core : Core) (s : Settings) (out : SinkUse) (lost : PassFault) → RunsAs runs core s out (Err lost) → Makes (IsRunReport runs core s) out (Err lost)
report_fault runs core s out =
    runs_fault runs core s out (λ ending. verdict_line_of core.names.kinds ending.verdict ending.clock) (IsRunReport runs core s)
    (λ course run. record { course = course; run = run; is = refl })

-- the report of a run by a list of numbers
pub listed_ran : (core : Core) (u : Unpicked) (values : List Value) (text numbers : List ℕ) (out : SinkUse) (result : Result Reported PassFault) → picks.Has text numbers
    → ((pick : Pick) → Answers (λ question count answer. answer ≡ listed numbers question count) pick
    → Makes (IsRunReport IsRunOf core (record { seed = u.seed; bound = u.bound; pick = pick; arguments = values; until = u.until; trace = option_map (λ (filter : Filter). filter) u.trace })) out result)
    → Makes (IsReportByPicks core u text values) out result
listed_ran core u values text numbers out result has is =
    let at : Option Filter → Type 0 = λ trace.
    Makes (IsRunReport IsRunOf core (record { seed = u.seed; bound = u.bound; pick = listed numbers; arguments = values; until = u.until; trace = trace })) out result in
    let w : Settings = record { seed = u.seed; bound = u.bound; pick = listed numbers; arguments = values; until = u.until; trace = u.trace } in
    makes_on (IsRunReport IsRunOf core w) (IsReportByPicks core u text values) out result (λ r of. replayed numbers has of) (subst at (itself u.trace) (is (listed numbers) (formula_given (listed numbers) (listed_lawful numbers))))

-- the refusal of picks
pub mispicked_told : (core : Core) (u : Unpicked) (values : List Value) (text : List ℕ) (k : ℕ) (made : Result Reported NoMemory) → picks.Misfits text k
    → IfOk made (λ r. report_in r ≡ refusal.mispicked k) → IfOk made (λ r. IsReportByPicks core u text values (report_in r))
mispicked_told core u values text k made misfits line = if_ok made (λ r is. mispicked k misfits is) line

-- the report of a run with arguments that are read
pub fit_ran : (runs : Runs) (core : Core) (w : Wanted) (out : SinkUse) (result : Result Reported PassFault) (values : List Value) → Means core w.texts values
    → Makes (IsRunReport runs core (settings_with w values)) out result → Makes (IsReportOfRun runs core w) out result
fit_ran runs core w out result values means ran = makes_on (IsRunReport runs core (settings_with w values)) (IsReportOfRun runs core w) out result (λ r of. fit values means of) ran

-- the same, whatever the policy picks
pub model_ran : (gives : ℕ → ℕ → ℕ → Type 0) (core : Core) (seed bound : ℕ) (texts : List (List ℕ)) (until : Option ℤ) (trace : Option Filter) (out : SinkUse) (result : Result Reported PassFault)
    (values : List Value) → Means core texts values
    → ((pick : Pick) → Answers gives pick → Makes (IsRunReport IsRunOf core (record { seed = seed; bound = bound; pick = pick; arguments = values; until = until; trace = trace })) out result)
    → (pick : Pick) → Answers gives pick → Makes (IsReportOfRun IsRunOf core (record { seed = seed; bound = bound; pick = pick; texts = texts; until = until; trace = trace })) out result
model_ran gives core seed bound texts until trace out result values means ran pick answers =
    let w : Wanted = record { seed = seed; bound = bound; pick = pick; texts = texts; until = until; trace = trace } in
    fit_ran IsRunOf core w out result values means (ran pick answers)

-- the report of a source that comes to a program
pub program_reported : (runs : Runs) (source : List ℕ) (core : Core) (aim : ProgramAim) (out : SinkUse) (result : Result Reported PassFault) → ComesTo source core
    → Makes (IsReportOfProgram runs core aim) out result → Makes (IsReportOfSource runs source aim) out result
program_reported runs source core aim out result comes is = makes_on (IsReportOfProgram runs core aim) (IsReportOfSource runs source aim) out result (λ r of. program core comes of) is

-- the same of a run, whatever the policy picks
pub terms_reported : (gives : ℕ → ℕ → ℕ → Type 0) (source : List ℕ) (core : Core) (seed bound : ℕ) (texts : List (List ℕ)) (until : Option ℤ) (trace : Option Filter) (out : SinkUse)
    (result : Result Reported PassFault) → ComesTo source core
    → ((pick : Pick) → Answers gives pick → Makes (IsReportOfRun IsRunOf core (record { seed = seed; bound = bound; pick = pick; texts = texts; until = until; trace = trace })) out result)
    → (pick : Pick) → Answers gives pick → Makes (IsReportOfSource IsRunOf source (simulates (record { seed = seed; bound = bound; pick = pick; texts = texts; until = until; trace = trace }))) out result
terms_reported gives source core seed bound texts until trace out result comes is pick answers =
    let w : Wanted = record { seed = seed; bound = bound; pick = pick; texts = texts; until = until; trace = trace } in
    makes_on (IsReportOfRun IsRunOf core w) (IsReportOfSource IsRunOf source (simulates w)) out result (λ r of. program core comes of) (is pick answers)
