-- Turns of a run, one after another, whose output is passed on.
use Rattle.std.proofs.Common.{◌≡◌, ℕ, ◌≤◌, Bool, true, false, if◌then◌else◌, nat_lt, List, [], ◌++◌, append-nil, append_assoc, length, Option, Some, None, refl, sym, ap, subst, ◌∙◌, arith}
use Rattle.std.specs.Prelude.{Result, Ok, Err, IsErrAnd}
use Rattle.chi_io.specs.Counts.{Rose}
use Rattle.chi_io.specs.Sink.{Grew, IsProperFrontOf}
use Rattle.chi_io.proofs.Passed.{Grew-nothing, Grew-append}
use Rattle.chi_sched.specs.Policies.{Answers}
use Rattle.chi_core.specs.declared.program.Core.{Core}
use Rattle.chi_core.specs.Beginning.{Beginning}
use Rattle.chi_core.specs.Options.{Ending}
use Rattle.chi_core.specs.Picks.{Pick}
use Rattle.chi_core_runs.specs.Turns.{UnderWay}
use Rattle.chi_code.specs.declared.code.Code.{Code}
use Rattle.chi_machine_told.specs.Below.chi_machine.specs.declared.course.Course.{Course}
use Rattle.chi_machine_told.specs.Below.chi_machine.specs.Courses.{IsCourse}
use Rattle.chi_machine_told.specs.Below.chi_machine.proofs.Turning.{is_lawful}
use Rattle.chi_trace.specs.declared.filter.Filter.{Filter}
use Rattle.chi_machine_traces.specs.declared.passing.PassFault.{PassFault}
use Rattle.chi_machine_traces.specs.declared.passing.PassFault.TheVariants as fault
use Rattle.chi_machine_traces.specs.declared.passing.TheConstants.{PASSED_FROM}
use Rattle.chi_machine_traces.specs.declared.run.Telling.{Telling}
use Rattle.chi_machine_traces.specs.Passing.{OfRun, BeginsWith, GoesPast, Fails, Passes, passed_of, kept_of, PassesKept}
use Rattle.chi_machine_traces.specs.Told.{IsTold}
use Rattle.chi_machine_traces.specs.Turns.{LoggedSoFar, IsUnderWay, ComesTo, OfWay}
use Rattle.chi_machine_traces.proofs.Fronts.{PickLaw, passed_before, passed_past}

-- whatever run was under way at first is under way now, and so much of its output was passed on in between
pub record Running (gives : ℕ → ℕ → ℕ → Type 0) (trace : Option Filter) (code : Code) (first : Course) (before : Telling) (old new : Option (List ℕ)) (now : Course) (told : Telling) : Type 0 where
  pub course : IsCourse code now
  pub passed : List ℕ
  pub took : Grew old new passed
  pub leads : OfWay gives trace code first before (λ core beginning pick bound. IsUnderWay trace core code beginning pick bound passed now told)

-- a count that rose later rose
pub rose_later : (first before after : ℕ) → first ≤ before → Rose before after → Rose first after
rose_later first before after least rose = omega (arith, least, rose)

-- what is passed on and what is kept are what was kept
rejoined : (kept : List ℕ) → passed_of kept ++ kept_of kept ≡ kept
rejoined kept = by_test (nat_lt (length kept) PASSED_FROM)
  where
    by_test : (b : Bool) → (if b then [] else kept) ++ (if b then kept else []) ≡ kept
    by_test true = refl
    by_test false = append-nil kept

module _ (gives : ℕ → ℕ → ℕ → Type 0) (trace : Option Filter) (code : Code) where
  pub running_first : (c : Course) (told : Telling) (taken : Option (List ℕ)) → IsCourse code c → Running gives trace code c told taken taken c told
  running_first c told taken is = record { course = is; passed = []; took = Grew-nothing taken; leads = λ core beginning pick bound answers u. u }

  module _ (first : Course) (before : Telling) (old new : Option (List ℕ)) (now : Course) (told : Telling) (k : Running gives trace code first before old new now told) where
    -- memory was wanting in a turn
    pub running_short : PickLaw → (passed : List ℕ) × Grew old new passed × OfWay gives trace code first before (BeginsWith passed)
    running_short law = (
      k.passed,
      k.took,
      λ core beginning pick bound answers u.
          passed_before law trace core code beginning pick (is_lawful gives pick answers) bound k.passed now told (k.leads core beginning pick bound answers u),
    )

    module _ (next : Course) (after : Telling) where
      -- what is passed on and what is kept may be divided otherwise
      kept_way : (core : Core) (beginning : Beginning) (pick : Pick) (bound : ℕ) {passed : List ℕ} → IsUnderWay trace core code beginning pick bound passed next after
          → (more : List ℕ) (kept : Telling) → more ++ kept.out.items ≡ passed ++ after.out.items → kept.log.items ≡ after.log.items → IsUnderWay trace core code beginning pick bound more next kept
      kept_way core beginning pick bound w more kept all log = record {
        codes = w.codes;
        sound = w.sound;
        config = w.config;
        stands = w.stands;
        within = w.within;
        labels = w.labels;
        counted = w.counted;
        way = subst (λ out. UnderWay core beginning pick bound w.labels out w.config next.left) (sym all) w.way;
        logged = subst (λ lines. LoggedSoFar trace core beginning bound w.labels lines w.config next.left) (sym log) w.logged;
      }

      abbrev pub Turned : Option Ending → Type 0
      Turned end =
          (core : Core) (beginning : Beginning) (pick : Pick) (bound : ℕ) (passed : List ℕ) → Answers gives pick → IsUnderWay trace core code beginning pick bound passed now told
          → ComesTo trace core code beginning pick bound passed end next after

      -- it has ended
      pub running_ends : (end : Ending) → Turned (Some end)
          → (passed : List ℕ) × Grew old new passed × OfWay gives trace code first before (λ core beginning pick bound. IsTold trace core beginning pick bound passed (record { ending = end; told = after }))
      running_ends end turned = (k.passed, k.took, λ core beginning pick bound answers u. turned core beginning pick bound k.passed answers (k.leads core beginning pick bound answers u))

      -- it goes on, with what is passed on of the output
      pub running_on : IsCourse code next → Turned None → (later : Option (List ℕ)) (kept : Telling) → Grew new later (passed_of after.out.items) → kept.out.items ≡ kept_of after.out.items
          → kept.log.items ≡ after.log.items → Running gives trace code first before old later next kept
      running_on is turned later kept took rest log =
          let all : (k.passed ++ passed_of after.out.items) ++ kept.out.items ≡ k.passed ++ after.out.items =
          append_assoc k.passed (passed_of after.out.items) kept.out.items ∙ ap (λ x. k.passed ++ x) (ap (λ x. passed_of after.out.items ++ x) rest ∙ rejoined after.out.items) in
          record {
            course = is;
            passed = k.passed ++ passed_of after.out.items;
            took = Grew-append old new later k.passed (passed_of after.out.items) k.took took;
            leads = λ core beginning pick bound answers u.
                kept_way core beginning pick bound (turned core beginning pick bound k.passed answers (k.leads core beginning pick bound answers u)) (k.passed ++ passed_of after.out.items) kept all log;
          }

      -- the sink failed
      pub running_past : PickLaw → Turned None → (later : Option (List ℕ)) (part : List ℕ) → Grew new later part → IsProperFrontOf part after.out.items
          → (passed : List ℕ) × Grew old later passed × OfWay gives trace code first before (GoesPast passed)
      running_past law turned later part took short = (
        k.passed ++ part,
        Grew-append old new later k.passed part k.took took,
        λ core beginning pick bound answers u.
            passed_past law trace core code beginning pick (is_lawful gives pick answers) bound k.passed next after (turned core beginning pick bound k.passed answers (k.leads core beginning pick bound answers u)) part short,
      )

      -- the same, by what passing it on came to
      pub running_fault : PickLaw → Turned None → (later : Option (List ℕ)) (rest : List ℕ) (counted between faults : ℕ) (stopped : Bool) → counted ≤ between → (lost : PassFault)
          → PassesKept {T = Unit {0}} after.out.items rest (Grew new later) (Rose between faults) stopped (Err lost) → Fails (OfWay gives trace code first before) (Grew old later) (Rose counted faults) stopped lost
      running_fault law turned later rest counted between faults stopped least fault.Stopped (halted, rose, part, took, short) =
          let p = running_past law turned later part took short in (halted, rose_later counted between faults least rose, p.0, p.1, p.2)
      running_fault law turned later rest counted between faults stopped least fault.NoMemory none = absurd none

-- what a `?` hands on

pub passes_fault : {T : Type 0} (each : OfRun → Type 0) (P : List ℕ → T → OfRun) (took : List ℕ → Type 0) (rose : Type 0) (stopped : Bool) (r : Result T PassFault) (lost : PassFault)
    → IsErrAnd r (λ e. e ≡ lost) → Fails each took rose stopped lost → Passes each P took rose stopped r
passes_fault each P took rose stopped (Ok x) lost none p = absurd none
passes_fault each P took rose stopped (Err e) lost same p = subst (λ (y : PassFault). Fails each took rose stopped y) (sym same) p

-- the same of other runs
pub passes_of : {T : Type 0} (each other : OfRun → Type 0) (P : List ℕ → T → OfRun) (took : List ℕ → Type 0) (rose : Type 0) (stopped : Bool) (r : Result T PassFault) → ((Q : OfRun) → each Q → other Q)
    → Passes each P took rose stopped r → Passes other P took rose stopped r
passes_of each other P took rose stopped (Ok x) of (goes, passed, grew, ends) = (goes, passed, grew, of (P passed x) ends)
passes_of each other P took rose stopped (Err fault.Stopped) of (halted, failed, passed, grew, past) = (halted, failed, passed, grew, of (GoesPast passed) past)
passes_of each other P took rose stopped (Err fault.NoMemory) of (goes, passed, grew, begins) = (goes, passed, grew, of (BeginsWith passed) begins)
