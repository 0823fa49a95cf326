-- What a call that runs code comes to, by what was told of the run and what was passed on of its output.
use Rattle.std.proofs.Common.{◌≡◌, ℕ, ◌<◌, ◌≤◌, ◌^◌, Bool, false, List, [], ◌++◌, Option, sym, ◌∙◌, ap, subst, arith, append-nil, append_assoc}
use Rattle.std.specs.Prelude.{Result, Ok, Err, IsErrAnd}
use Rattle.chi_io.specs.Counts.{Rose}
use Rattle.chi_io.specs.Sink.{Grew}
use Rattle.chi_io.proofs.Passed.{Grew-append}
use Rattle.chi_code.specs.declared.code.Code.{Code}
use Rattle.chi_core.specs.declared.program.Core.{Core}
use Rattle.chi_core.specs.Beginning.{start}
use Rattle.chi_core.specs.Options.{Ending}
use Rattle.chi_core.specs.Picks.{Pick}
use Rattle.chi_core.specs.Sound.{Sound}
use Rattle.chi_core.specs.VerdictLine.{MayTell}
use Rattle.chi_core_runs.specs.Endings.{EachEndingIsTold}
use Rattle.chi_core_runs.specs.Picked.{PickedIsDerived}
use Rattle.chi_trace.specs.declared.filter.Filter.{Filter}
use Rattle.chi_machine_traces.specs.declared.passing.PassFault.{PassFault}
use Rattle.chi_machine_traces.specs.declared.passing.PassFault.TheVariants as fault
use Rattle.chi_machine_traces.specs.declared.run.Ran.{Ran}
use Rattle.chi_machine_traces.specs.Passing.{OfRun, OfEach, BeginsWith, GoesPast, Fails}
use Rattle.chi_machine_traces.specs.Told.{IsTold, RunsCode}
use Rattle.chi_machine_traces.specs.Told as told
use Rattle.chi_sched.specs.Policies.{Answers}
use Rattle.chi_terms.specs.declared.terms.Terms.{Terms}
use Rattle.chi_value.specs.declared.value.Value.{Value}
use Rattle.chi_engine.proofs.Picked.{begins}
use Rattle.chi_engine.proofs.Policies.{answers_lawful}
use Rattle.chi_engine.specs.Courses.{MayHave, Course, ComesToSome, told_with, IsRunOf}
use Rattle.chi_engine.specs.Running.{RunsTo, LosesRest}
use Rattle.chi_engine.specs.Settings.{Settings, settings_by}

-- the settings of a run of a sound program's code may be had
pub terms_may_be_had : {C S : Type 0} (gives : ℕ → ℕ → ℕ → Type 0) (core : Core) (code : Code) (arguments : List Value) (terms : Terms C S) (pick : Pick) (trace : Option Filter)
    → RunsCode core code arguments → terms.bound < 2 ^ 63 → Answers gives pick → MayHave core (settings_by pick trace arguments terms)
terms_may_be_had gives core code arguments terms pick trace runs bounded answers = record {
  model = runs.sound.model.0;
  is = runs.sound.model.1;
  arguments = runs.model_takes runs.sound.model.0 runs.sound.model.1;
  lawful = answers_lawful gives pick answers;
  bound = bounded;
}

-- what was told of a run that has ended, after this was passed on of its output

abbrev pub course_told : List ℕ → Ran → Course
course_told passed ran = record { output = passed ++ ran.told.out.items; log = ran.told.log.items; ending = ran.ending }

pub told_run : (core : Core) (s : Settings) (passed : List ℕ) (ran : Ran) → IsTold s.trace core (start core s.arguments s.seed s.until) s.pick s.bound passed ran
    → IsRunOf core s (course_told passed ran)
told_run core s passed ran t = record { labels = t.labels; picked = t.picked; logged = t.logged }

-- a count that rose later rose
rose_then : (first between last : ℕ) → first ≤ between → Rose between last → Rose first last
rose_then first between last least rose = omega arith

-- its verdict can be told
pub verdict_may : PickedIsDerived → EachEndingIsTold → (core : Core) → Sound core → (s : Settings) → MayHave core s → (passed : List ℕ) (ran : Ran)
    → IsTold s.trace core (start core s.arguments s.seed s.until) s.pick s.bound passed ran → MayTell core ran.ending.verdict
verdict_may derived tells core sound s may passed ran t =
    let begun = start core s.arguments s.seed s.until in
    tells core sound begun (begins core s may) s.bound (told.told_with t.labels passed ran) (derived core begun s.pick s.bound (told.told_with t.labels passed ran) t.picked)

-- Of a run's output a part was passed on, and then the rest of it was to be.
module _ (comes : Course → Type 0) (core : Core) (logged : List ℕ → Type 0) (before now after' : Option (List ℕ)) (faults_before faults_now faults_after : ℕ) (stopped : Bool)
    (count : faults_before ≤ faults_now) (course : Course) (run : comes course) (passed rest : List ℕ) (whole : passed ++ rest ≡ course.output) (grew : Grew before now passed) where
  abbrev pub RanSo : Result Ending PassFault → Type 0
  RanSo result = RunsTo comes core (Grew before after') logged (Rose faults_before faults_after) stopped result

  pub passed_all : (end : Ending) → course.ending ≡ end → MayTell core end.verdict → logged course.log → stopped ≡ false → Grew now after' rest → RanSo (Ok end)
  passed_all end ended may log goes took = (
    goes,
    record { course = course; run = run; ended = ended; took_all = subst (Grew before after') whole (Grew-append before now after' passed rest grew took); logged_all = log; may = may },
  )

  pub passed_part : (lost : PassFault) → LosesRest rest (Grew now after') (Rose faults_now faults_after) stopped lost → RanSo (Err lost)
  passed_part fault.Stopped (halted, rose, front, part, took) = (
    halted,
    rose_then faults_before faults_now faults_after count rose,
    record {
      course = course;
      run = run;
      front = passed ++ front;
      part = (part.0, append_assoc passed front part.0 ∙ ap (λ bytes. passed ++ bytes) part.1 ∙ whole, part.2);
      took_part = Grew-append before now after' passed front grew took;
    },
  )
  passed_part fault.NoMemory (goes, took) = (
    goes,
    record {
      course = course;
      run = run;
      front = passed;
      part = (rest, whole);
      took_part = subst (Grew before after') (append-nil passed) (Grew-append before now after' passed [] grew took);
    },
  )

-- A run wasn't told to its end: of the one that there is, a part of the output was passed on.
module _ {C S : Type 0} (some : ComesToSome IsRunOf) (gives : ℕ → ℕ → ℕ → Type 0) (core : Core) (code : Code) (arguments : List Value) (terms : Terms C S) (pick : Pick) (trace : Option Filter)
    (runs : RunsCode core code arguments) (bounded : terms.bound < 2 ^ 63) (answers : Answers gives pick) (took logged : List ℕ → Type 0) (rose : Type 0) (stopped : Bool) where
  abbrev pub LostSo : Result Ending PassFault → Type 0
  LostSo result = RunsTo (IsRunOf core (settings_by pick trace arguments terms)) core took logged rose stopped result

  there : (course : Course) × IsRunOf core (settings_by pick trace arguments terms) course
  there = some core runs.sound (settings_by pick trace arguments terms) (terms_may_be_had gives core code arguments terms pick trace runs bounded answers)

  of_there : (P : OfRun) → OfEach gives code arguments terms P → P core (start core arguments terms.seed terms.until) pick terms.bound
  of_there P of = of core runs pick answers

  pub run_lost : (lost : PassFault) → Fails (OfEach gives code arguments terms) took rose stopped lost → LostSo (Err lost)
  run_lost fault.Stopped (halted, rises, passed, part, past) = (
    halted,
    rises,
    record { course = there.0; run = there.1; front = passed; part = of_there (GoesPast passed) past (told_with there.1.labels there.0) there.1.picked; took_part = part },
  )
  run_lost fault.NoMemory (goes, passed, part, begin) = (
    goes,
    record { course = there.0; run = there.1; front = passed; part = of_there (BeginsWith passed) begin (told_with there.1.labels there.0) there.1.picked; took_part = part },
  )

-- what a `?` hands on
pub runs_fault : (P : Result Ending PassFault → Type 0) (result : Result Ending PassFault) (lost : PassFault) → IsErrAnd result (λ e. e ≡ lost) → P (Err lost) → P result
runs_fault P (Ok end) lost none made = absurd none
runs_fault P (Err e) lost same made = subst (λ (x : PassFault). P (Err x)) (sym same) made
