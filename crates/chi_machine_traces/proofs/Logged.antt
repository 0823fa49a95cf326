-- What is logged of a run under way, with its trace and without.
use Rattle.std.proofs.Common.{◌≡◌, ℕ, List, [], ◌∷◌, ◌++◌, length, Option, Some, None, sym, ◌∙◌, ap, subst, refl}
use Rattle.chi_core.specs.declared.program.Core.{Core}
use Rattle.chi_core.specs.declared.label.Label.{Label}
use Rattle.chi_core.specs.declared.verdict.Verdict.{Verdict}
use Rattle.chi_core.specs.Beginning.{Beginning, Begins, Breaks}
use Rattle.chi_core.specs.Config.{Config}
use Rattle.chi_core.specs.Options.{Ending}
use Rattle.chi_core.specs.Step as outcome
use Rattle.chi_core.specs.Step.{step}
use Rattle.chi_trace.specs.declared.filter.Filter.{Filter}
use Rattle.chi_trace_events.specs.Traces.{event_at, IsLogged, IsTrace}
use Rattle.chi_trace_events.specs.Tracing.{TracedSoFar, TraceBegins, TraceGoesOn, TraceIsOver, TraceIsWhole, TraceOfNone}
use Rattle.chi_machine_traces.specs.Turns.{first_log, IsLine, LoggedSoFar}

-- the laws of a trace turn by turn
pub record TraceLaw : Type 0 where
  pub begins : TraceBegins
  pub on : TraceGoesOn
  pub over : TraceIsOver
  pub whole : TraceIsWhole
  pub of_none : TraceOfNone

module _ (law : TraceLaw) (core : Core) where
  pub log_begins : (trace : Option Filter) (config : Config) (bound : ℕ) → LoggedSoFar trace core (Begins config) bound [] (first_log trace) config bound
  log_begins None config bound = refl
  log_begins (Some probe) config bound = law.begins probe core config bound

  pub log_of_none : (trace : Option Filter) (broken end : Ending) (bound : ℕ) (output : List ℕ)
      → IsLogged trace core (Breaks broken) bound (record { labels = []; ending = end; output = output }) (first_log trace)
  log_of_none None broken end bound output = refl
  log_of_none (Some probe) broken end bound output = law.of_none probe core broken end bound output

  module _ (start : Beginning) (bound : ℕ) (labels : List Label) (log : List ℕ) (config : Config) (left : ℕ) where
    -- where a label is taken at its turn, its line is logged

    pub log_on : (trace : Option Filter) → LoggedSoFar trace core start bound labels log config left
        → (turn : ℕ) → length labels ≡ turn → (label : Label) (line : List ℕ) → IsLine trace core turn config label line
        → (new : Config) (text : List ℕ) (rest : ℕ) → step core config label left ≡ outcome.Next new text rest
        → LoggedSoFar trace core start bound (labels ++ label ∷ []) (log ++ line) new rest
    log_on None l turn same label line its new text rest goes = ap (λ x. x ++ line) l ∙ its
    log_on (Some probe) l turn same label line its new text rest goes =
        subst (λ x. TracedSoFar probe core start bound (labels ++ label ∷ []) (log ++ x) new rest) (sym its.2)
        (law.on probe core start bound labels log config left l label its.0 (ap (λ n. event_at core n config label) same ∙ its.1) new text rest goes)

    pub log_over : (trace : Option Filter) → LoggedSoFar trace core start bound labels log config left
        → (turn : ℕ) → length labels ≡ turn → (label : Label) (line : List ℕ) → IsLine trace core turn config label line
        → (verdict : Verdict) → step core config label left ≡ outcome.Over verdict → (end : Ending) (output : List ℕ)
        → IsLogged trace core start bound (record { labels = labels ++ label ∷ []; ending = end; output = output }) (log ++ line)
    log_over None l turn same label line its verdict goes end output = ap (λ x. x ++ line) l ∙ its
    log_over (Some probe) l turn same label line its verdict goes end output =
        subst (λ x. IsTrace probe core start bound (record { labels = labels ++ label ∷ []; ending = end; output = output }) (log ++ x)) (sym its.2)
        (law.over probe core start bound labels log config left l label its.0 (ap (λ n. event_at core n config label) same ∙ its.1) verdict goes end output)

    pub log_whole : (trace : Option Filter) → LoggedSoFar trace core start bound labels log config left → (end : Ending) (output : List ℕ)
        → IsLogged trace core start bound (record { labels = labels; ending = end; output = output }) log
    log_whole None l end output = l
    log_whole (Some probe) l end output = law.whole probe core start bound labels log config left l end output
