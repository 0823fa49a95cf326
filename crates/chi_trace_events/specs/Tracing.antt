-- Private to proofs: the trace of a run that is under way, and how each turn goes on with it.
use Rattle.std.specs.Prelude.{◌≡◌, ℕ, List, [], ◌∷◌, ◌++◌, filter, map, length, Some, if◌then◌else◌}
use Rattle.chi_core.specs.declared.label.Label.{Label}
use Rattle.chi_core.specs.declared.program.Core.{Core}
use Rattle.chi_core.specs.declared.verdict.Verdict.{Verdict}
use Rattle.chi_core.specs.Beginning.{Beginning, Begins, Breaks}
use Rattle.chi_core.specs.Beginning as beginning
use Rattle.chi_core.specs.Config.{Config}
use Rattle.chi_core.specs.Options.{Ending}
use Rattle.chi_core.specs.Runs.{nothing}
use Rattle.chi_core.specs.Step.{Next, Over, step}
use Rattle.chi_core_runs.specs.Tellings.{ToldSoFar}
use Rattle.chi_trace.specs.declared.event.Event.{Event}
use Rattle.chi_trace.specs.declared.filter.Filter.{Filter}
use Rattle.chi_trace.specs.Filters.{shows}
use Rattle.chi_trace.specs.Lines.{event_line}
use Rattle.chi_trace_events.specs.Traces.{event_at, event_told, lines_of, IsTrace}

-- these events were told along the labels that led from the beginning to a configuration
abbrev pub ToldFrom : Core → Beginning → ℕ → List Label → List Event → Config → ℕ → Type 0
ToldFrom core (Begins first) bound labels events config left =
    ToldSoFar (event_told core) nothing core first bound labels (map Some events) config left
ToldFrom core (Breaks end) bound labels events config left = ⊥
ToldFrom core beginning.Amiss bound labels events config left = ⊥

-- the line of an event that the probe shows
abbrev pub shown_line : Filter → Event → List ℕ
shown_line probe e = if shows probe e then event_line e else []

-- the text has the lines that are shown so far
pub record TracedSoFar (probe : Filter) (core : Core) (beginning : Beginning) (bound : ℕ) (labels : List Label) (text : List ℕ) (config : Config) (left : ℕ) : Type 0 where
  pub events : List Event
  pub told : ToldFrom core beginning bound labels events config left
  pub is : text ≡ lines_of (filter (shows probe) events)

abbrev pub TraceBegins : Type 0
TraceBegins = (probe : Filter) (core : Core) (config : Config) (bound : ℕ) → TracedSoFar probe core (Begins config) bound [] (lines_of []) config bound

abbrev pub TraceGoesOn : Type 0
TraceGoesOn =
    (probe : Filter) (core : Core) (start : Beginning) (bound : ℕ) (labels : List Label) (text : List ℕ) (config : Config) (left : ℕ)
    → TracedSoFar probe core start bound labels text config left
    → (label : Label) (e : Event) → event_at core (length labels) config label ≡ Some e
    → (new : Config) (written : List ℕ) (rest : ℕ) → step core config label left ≡ Next new written rest
    → TracedSoFar probe core start bound (labels ++ label ∷ []) (text ++ shown_line probe e) new rest

-- the last label ends the run
abbrev pub TraceIsOver : Type 0
TraceIsOver =
    (probe : Filter) (core : Core) (start : Beginning) (bound : ℕ) (labels : List Label) (text : List ℕ) (config : Config) (left : ℕ)
    → TracedSoFar probe core start bound labels text config left
    → (label : Label) (e : Event) → event_at core (length labels) config label ≡ Some e
    → (verdict : Verdict) → step core config label left ≡ Over verdict → (end : Ending) (output : List ℕ)
    → IsTrace probe core start bound (record { labels = labels ++ label ∷ []; ending = end; output = output }) (text ++ shown_line probe e)

-- the run ends without a label more
abbrev pub TraceIsWhole : Type 0
TraceIsWhole =
    (probe : Filter) (core : Core) (start : Beginning) (bound : ℕ) (labels : List Label) (text : List ℕ) (config : Config) (left : ℕ)
    → TracedSoFar probe core start bound labels text config left → (end : Ending) (output : List ℕ)
    → IsTrace probe core start bound (record { labels = labels; ending = end; output = output }) text

-- a constant ended it
abbrev pub TraceOfNone : Type 0
TraceOfNone =
    (probe : Filter) (core : Core) (broken end : Ending) (bound : ℕ) (output : List ℕ)
    → IsTrace probe core (Breaks broken) bound (record { labels = []; ending = end; output = output }) (lines_of [])
