-- What follows of a simulation, by the report that is delivered of it.
use Rattle.std.proofs.Common.{◌≡◌, ◌≢◌, ℕ, ◌≤◌, Bool, true, false, List, length, Option, option_map, ◌⊎◌, inl, inr, ◌∙◌, ap, subst, refl, arith}
use Rattle.chi_cli.specs.declared.words.TheConstants.{MOST_STEPS}
use Rattle.chi_lex.specs.declared.lexer.TheConstants.{MOST_BYTES}
use Rattle.chi_core.specs.declared.program.Core.{Core}
use Rattle.chi_core.specs.declared.verdict.Verdict.{Verdict}
use Rattle.chi_core.specs.declared.verdict.Verdict.TheVariants as verdict
use Rattle.chi_sched.specs.Policies.{Answers, listed}
use Rattle.chi_trace.specs.declared.filter.Filter.{Filter}
use Rattle.chi_value.specs.declared.value.Value.{Value}
use Rattle.chi_engine.specs.Courses.{Course, IsRunOf}
use Rattle.chi_xper_machines.specs.declared.tale.Ended.{Ended}
use Rattle.chi_xper_machines.specs.declared.tale.Ended.TheVariants.{Completed, Deadlocked, Faulted, OutOfSteps}
use Rattle.chi_tool.specs.Arguments.{Means}
use Rattle.chi_tool.specs.Call.{SinkUse, SinkStood}
use Rattle.chi_tool.specs.Headline.{IsReportedOrLost, MeetsAlone, delivered, wanting, HasLexicalFault, HasSyntaxFault, IsMistyped, EndsAs, Ends, EndsOrTries, IsDone, IsExit, IsFault, HasUnfitArguments}
use Rattle.chi_tool.specs.Refusals.{Report}
use Rattle.chi_tool.specs.Report as report
use Rattle.chi_tool.specs.Report.{IsReportOfSource, program}
use Rattle.chi_tool.specs.Running.{run_report}
use Rattle.chi_tool.specs.Serving.{Tells, told, cut_short, untold}
use Rattle.chi_tool.specs.Settings.{Wanted, simulates, Aim, of_program, MayBeAimed, settings_with, trace_by}
use Rattle.chi_tool.specs.Simulations.{course_of, Simulation, as_call, SimulationHeadline, ComesOf, IsExactlyFor, SimulationCauses, IsReplayed, IsSimulatedToItsEnd}
use Rattle.chi_tool.specs.Sources.{ComesTo}
use Rattle.chi_tool.specs.Statuses.{status_of}
use Rattle.chi_tool.proofs.Causes.{exactly}
use Rattle.chi_tool.proofs.Contents.{status_ap, simulated_bound, IsOfContent, source_status}
use Rattle.chi_tool.proofs.Endings as endings
use Rattle.chi_tool.proofs.Endings.{tells_ended, delivered_status}
use Rattle.chi_tool.proofs.LawClauses.{HasRun, ValuesLaw, SourceLaw, OwnLaw}
use Rattle.chi_tool.proofs.Promises.{alone-whole}
use Rattle.chi_tool.proofs.StatusCauses.{StatusOf, exit_status, stopped_status, lexical_status, syntax_status, mistyped_status, unfit_status}
use Rattle.chi_tool.proofs.TrialCauses.{done_status, deadlock_status, fault_status, out_of_steps_status}
use Rattle.chi_tool.proofs.Runs.{asked_settings}
use Rattle.chi_tool.proofs.Sinks.{none_part}

-- a policy that picks among the choices, within the bound
pub may_be_simulated : (gives : ℕ → ℕ → ℕ → Type 0) (w : Wanted) → w.bound ≤ MOST_STEPS → Answers gives w.pick → MayBeAimed (of_program (simulates w))
may_be_simulated gives w within answers =
    (omega arith, λ question count early some few. (answers question count (record { numbered = early; some = some; counted = few })).0)

-- the filter that a probe keeps to is wanted where the probe is
kept : {S : Type 0} (keeps_to : S → Filter) (trace : Bool) (probe : S) → option_map keeps_to (trace_by trace probe) ≡ trace_by trace (keeps_to probe)
kept keeps_to false probe = refl
kept keeps_to true probe = refl

pub tells_kept : {S : Type 0} (keeps_to : S → Filter) (trace : Bool) (probe : S) (shown : Option S) → shown ≡ trace_by trace probe
    → (source : List ℕ) (wanted : Option Filter → Wanted) (status : ℕ) (out log : SinkUse)
    → Tells (IsReportOfSource IsRunOf source (simulates (wanted (option_map keeps_to shown)))) status out log
    → Tells (IsReportOfSource IsRunOf source (simulates (wanted (trace_by trace (keeps_to probe))))) status out log
tells_kept keeps_to trace probe shown is source wanted status out log tells =
    let same : option_map keeps_to shown ≡ trace_by trace (keeps_to probe) = ap (option_map keeps_to) is ∙ kept keeps_to trace probe in
    subst (λ (t : Option Filter). Tells (IsReportOfSource IsRunOf source (simulates (wanted t))) status out log) same tells

-- a report that is met
abbrev Met : Simulation → Type 0
Met s = (r : Report) × IsReportOfSource IsRunOf s.source (simulates s.wanted) r × MeetsAlone r (as_call s)

module _ (law : SourceLaw) (s : Simulation) where
  -- is that of a run of the program
  run_met : Met s → (core : Core) → ComesTo s.source core → (arguments : List Value) → Means core s.wanted.texts arguments
      → (course : Course) → IsRunOf core (settings_with s.wanted arguments) course → SinkStood s.out → SinkStood s.log
      → IsReportedOrLost (run_report core course) (as_call s)
  run_met (r, is, met) core its_core arguments means course run out log =
      let its : IsReportOfSource IsRunOf s.source (simulates s.wanted) (run_report core course) =
      program core its_core (report.fit arguments means (record { course = course; run = run; is = refl })) in
      let one : r ≡ run_report core course = law.one s.source (of_program (simulates s.wanted)) tt r (run_report core course) is its in
      subst (λ (x : Report). IsReportedOrLost x (as_call s)) one (alone-whole r (as_call s) met out log)

  -- and so that of a derivation whose own numbers the policy has
  pub simulation-own : OwnLaw → SimulationHeadline s → (numbers : List ℕ) → s.wanted.pick ≡ listed numbers → IsReplayed s numbers
  simulation-own own head numbers by_list =
      λ out log core its_core arguments means told logged derived picks.
      run_met head.report core its_core arguments means (course_of told logged) (own core (settings_with s.wanted arguments) told logged numbers derived picks by_list) out log

-- a simulation that was told of
module _ (law : SourceLaw) (s : Simulation) (within : length s.source ≤ MOST_BYTES) (may : MayBeAimed (of_program (simulates s.wanted)))
    (tells : Tells (IsReportOfSource IsRunOf s.source (simulates s.wanted)) s.status s.out s.log) where
  abbrev Telling : Type 0
  Telling = Tells (IsReportOfSource IsRunOf s.source (simulates s.wanted)) s.status s.out s.log

  content : (r : Report) → IsReportOfSource IsRunOf s.source (simulates s.wanted) r → IsOfContent r.status
  content r is = source_status IsRunOf s.source (simulates s.wanted) r is

  ended : endings.Ended ⊥ ⊥ s.status s.out s.log
  ended = tells_ended ⊥ ⊥ (IsReportOfSource IsRunOf s.source (simulates s.wanted)) s.status s.out s.log content tells

  -- no log is brought up, nothing is laid out, there are no picks that don't fit, and no experiment is run
  above : (n : ℕ) → (n ≡ 15) ⊎ (24 ≤ n) → (r : Report) → IsReportOfSource IsRunOf s.source (simulates s.wanted) r → r.status ≢ n
  above n high r is h = let b = simulated_bound IsRunOf s.source s.wanted r is in let far = high in grind arith

  met_by : Telling → Met s
  met_by (told r is d) = (r, is, delivered d)
  met_by (cut_short r is status part log) = (r, is, wanting status part log)
  met_by (untold status out log) =
      let p = law.some s.source (of_program (simulates s.wanted)) within may in
      (p.0, p.1, wanting status (none_part s.out p.0.out out) log)

  pub simulation-headline : SimulationHeadline s
  simulation-headline = record { report = met_by tells; out_stopped = ended.stopped }

  above_by : (n : ℕ) → (n ≡ 15) ⊎ (24 ≤ n) → Telling → s.status ≢ n
  above_by n high (told r is d) e = delivered_status _ n _ _ _ s.out s.log (above n high r is) (λ h. let far = high in grind arith) d e
  above_by n high (cut_short r is status part log) e = let far = high in grind arith
  above_by n high (untold status out log) e = let far = high in grind arith

  -- a status comes exactly of its cause
  module _ (n : ℕ) (P : Aim → List ℕ → Type 0) (status : StatusOf IsRunOf n P) where
    causing : (r : Report) → IsReportOfSource IsRunOf s.source (simulates s.wanted) r → P (of_program (simulates s.wanted)) s.source → r.status ≡ n
    causing r is h =
        let p = status.from (of_program (simulates s.wanted)) s.source tt h in
        status_ap r p.0 (law.one s.source (of_program (simulates s.wanted)) tt r p.0 is p.1) ∙ p.2

    exactly_by : (cause : Type 0) → (P (of_program (simulates s.wanted)) s.source → cause) → (cause → P (of_program (simulates s.wanted)) s.source) → Met s → IsExactlyFor s n cause
    exactly_by cause to from (r, is, met) out log =
        exactly r (as_call s) n cause status.other.2 (alone-whole r (as_call s) met out log)
        (λ e. to (status.to (of_program (simulates s.wanted)) s.source r is e)) (λ h. causing r is (from h))

  comes : (n : ℕ) (P : Aim → List ℕ → Type 0) → StatusOf IsRunOf n P → ComesOf s n (P (of_program (simulates s.wanted)))
  comes n P status = exactly_by n P status (P (of_program (simulates s.wanted)) s.source) (λ h. h) (λ h. h) (met_by tells)

  -- a run ends so, as it is asked for here
  ends_here : (Q : Verdict → Type 0) → Ends IsRunOf Q (of_program (simulates s.wanted)) s.source → EndsAs IsRunOf Q s.wanted s.source
  ends_here Q e = subst (λ (w : Wanted). EndsAs IsRunOf Q w s.source) e.1 e.2

  ends : (n : ℕ) (Q : Verdict → Type 0) → StatusOf IsRunOf n (Ends IsRunOf Q) → ComesOf s n (EndsAs IsRunOf Q s.wanted)
  ends n Q status = exactly_by n (Ends IsRunOf Q) status (EndsAs IsRunOf Q s.wanted s.source) (ends_here Q) (λ e. (s.wanted, refl, e)) (met_by tells)

  -- and no experiment does
  ends_alone : (Q : Verdict → Type 0) (e : Ended) → EndsOrTries IsRunOf Q e (of_program (simulates s.wanted)) s.source → EndsAs IsRunOf Q s.wanted s.source
  ends_alone Q e (inl h) = ends_here Q h
  ends_alone Q e (inr none) = absurd none

  ends_or : (n : ℕ) (Q : Verdict → Type 0) (e : Ended) → StatusOf IsRunOf n (EndsOrTries IsRunOf Q e) → ComesOf s n (EndsAs IsRunOf Q s.wanted)
  ends_or n Q e status =
      exactly_by n (EndsOrTries IsRunOf Q e) status (EndsAs IsRunOf Q s.wanted s.source) (ends_alone Q e) (λ h. inl (s.wanted, refl, h)) (met_by tells)

  completed : IsDone IsRunOf (of_program (simulates s.wanted)) s.source → EndsAs IsRunOf (λ v. v ≡ verdict.Completed) s.wanted s.source
  completed (inl e) = ends_alone (λ v. v ≡ verdict.Completed) Completed e
  completed (inr none) = absurd none

  pub simulation-causes : SimulationCauses s
  simulation-causes = record {
    done = exactly_by 0 (IsDone IsRunOf) (done_status IsRunOf) (EndsAs IsRunOf (λ v. v ≡ verdict.Completed) s.wanted s.source) completed (λ e. inl (inl (s.wanted, refl, e))) (met_by tells);
    exit = ends 10 IsExit (exit_status IsRunOf);
    deadlock = ends_or 11 (λ v. v ≡ verdict.Deadlock) Deadlocked (deadlock_status IsRunOf);
    fault = ends_or 12 IsFault Faulted (fault_status IsRunOf);
    out_of_steps = ends_or 13 (λ v. v ≡ verdict.OutOfSteps) OutOfSteps (out_of_steps_status IsRunOf);
    stopped = ends 14 (λ v. v ≡ verdict.Stopped) (stopped_status IsRunOf);
    lexical = comes 20 (λ aim. HasLexicalFault) (lexical_status IsRunOf);
    syntax = comes 21 (λ aim. HasSyntaxFault) (syntax_status IsRunOf);
    typing = comes 22 IsMistyped (mistyped_status IsRunOf);
    arguments = comes 23 HasUnfitArguments (unfit_status IsRunOf);
    no_request = ended.request;
    not_read = ended.unread;
    misfit = above_by 24 (inr (omega arith)) tells;
    mispicked = above_by 26 (inr (omega arith)) tells;
    no_log = above_by 25 (inr (omega arith)) tells;
    layout_too_long = above_by 27 (inr (omega arith)) tells;
    without_value = above_by 15 (inl refl) tells;
    no_experiment = above_by 28 (inr (omega arith)) tells;
    not_written = (ended.breaks.stops, ended.breaks.tells);
    out_failed = ended.breaks.out_failed;
    log_failed = ended.breaks.log_failed;
  }

  pub simulation-complete : HasRun → ValuesLaw → IsSimulatedToItsEnd s
  simulation-complete has fit =
      λ out log core its_core arguments means.
      let its = has s.source core within its_core (settings_with s.wanted arguments) (asked_settings fit core s.wanted arguments means.model means.is means.read may) in
      (its.0, its.1, ends_by core its.0 (run_met law s (met_by tells) core its_core arguments means its.0 its.1 out log))
    where
      ends_by : (core : Core) (course : Course) → IsReportedOrLost (run_report core course) (as_call s) → (s.status ≡ status_of course.ending.verdict) ⊎ (s.status ≡ 6)
      ends_by core course (inl lost) = inr lost
      ends_by core course (inr m) = inl m.status
