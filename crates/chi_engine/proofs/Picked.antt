-- A sound program has one run with settings that it may have.
use Rattle.std.proofs.Common.{◌≡◌, ℕ, List, [], Option, Some, None, refl, sym, ◌∙◌, subst}
use Rattle.chi_core.specs.declared.program.Core.{Core}
use Rattle.chi_core.specs.Beginning.{Beginning, start}
use Rattle.chi_core.specs.Runs.{Told, Derivation}
use Rattle.chi_core.specs.Sound.{Sound}
use Rattle.chi_core_runs.specs.Picked.{IsBeginning, PickedIsDerived, PickedOnce, PickedAlways}
use Rattle.chi_trace.specs.declared.filter.Filter.{Filter}
use Rattle.chi_trace_events.specs.Laws.{EachHasATrace, OneTrace}
use Rattle.chi_trace_events.specs.Traces.{IsLogged}
use Rattle.chi_engine.specs.Courses.{MayHave, ComesToOne, ComesToSome, told_with, IsRunOf}
use Rattle.chi_engine.specs.Settings.{Settings}

-- a run that is picked has a log, and one alone

some_log : EachHasATrace → (trace : Option Filter) (core : Core) → Sound core → (beginning : Beginning) → IsBeginning core beginning → (bound : ℕ) (told : Told)
    → Derivation core beginning bound told → (log : List ℕ) × IsLogged trace core beginning bound told log
some_log traces None core sound beginning is bound told derived = ([], refl)
some_log traces (Some probe) core sound beginning is bound told derived = traces probe core sound beginning is bound told derived

one_log : OneTrace → (trace : Option Filter) (core : Core) (beginning : Beginning) (bound : ℕ) (told : Told) (log other : List ℕ)
    → IsLogged trace core beginning bound told log → IsLogged trace core beginning bound told other → log ≡ other
one_log one None core beginning bound told log other l m = l ∙ sym m
one_log one (Some probe) core beginning bound told log other l m = one probe core beginning bound told log other l m

-- it begins with the settings
pub begins : (core : Core) (s : Settings) → MayHave core s → IsBeginning core (start core s.arguments s.seed s.until)
begins core s may = record {
  model = may.model;
  is = may.is;
  arguments = s.arguments;
  fit = may.arguments;
  seed = s.seed;
  until = s.until;
  begins = refl;
}

pub some_course : PickedAlways → PickedIsDerived → EachHasATrace → ComesToSome IsRunOf
some_course always derived traces core sound s may =
    let begun = start core s.arguments s.seed s.until in
    let is = begins core s may in
    let p = always core sound begun is s.pick may.lawful s.bound may.bound in
    let log = some_log traces s.trace core sound begun is s.bound p.0 (derived core begun s.pick s.bound p.0 p.1.0) in
    (record { output = p.0.output; log = log.0; ending = p.0.ending }, record { labels = p.0.labels; picked = p.1.0; logged = log.1 })

pub one_course : PickedOnce → OneTrace → ComesToOne IsRunOf
one_course once one core s course other p q =
    let begun = start core s.arguments s.seed s.until in
    let told : told_with p.labels course ≡ told_with q.labels other =
    once core begun s.pick s.bound (told_with p.labels course) (told_with q.labels other) p.picked q.picked in
    let here : IsLogged s.trace core begun s.bound (told_with q.labels other) course.log =
    subst (λ (t : Told). IsLogged s.trace core begun s.bound t course.log) told p.logged in
    let log : course.log ≡ other.log = one_log one s.trace core begun s.bound (told_with q.labels other) course.log other.log here q.logged in
    λ i. record { output = (told i).output; log = log i; ending = (told i).ending }
