-- What holds of events and traces.
use Rattle.std.specs.Prelude.{◌≡◌, ℕ, List, Some, Contains}
use Rattle.chi_core.specs.declared.label.Label.{Label}
use Rattle.chi_core.specs.declared.program.Core.{Core}
use Rattle.chi_core.specs.Beginning.{Beginning}
use Rattle.chi_core.specs.Config.{Config}
use Rattle.chi_core.specs.Kinded.{Kinded}
use Rattle.chi_core.specs.Options.{enabled}
use Rattle.chi_core.specs.Runs.{Told, Derivation}
use Rattle.chi_core.specs.Sound.{Sound}
use Rattle.chi_core_runs.specs.Picked.{IsBeginning}
use Rattle.chi_trace.specs.declared.event.Event.{Event}
use Rattle.chi_trace.specs.declared.filter.Filter.{Filter}
use Rattle.chi_trace_events.specs.There.{IsThere}
use Rattle.chi_trace_events.specs.Traces.{event_at, IsTrace}

-- what the event of an enabled label tells is there, in each kinded configuration of a sound program
abbrev pub EachIsThere : Type 0
EachIsThere =
    (core : Core) → Sound core → (config : Config) → Kinded core config → (label : Label) → Contains (enabled config) label
    → IsThere core config label

-- so that it has an event
abbrev pub EachHasAnEvent : Type 0
EachHasAnEvent =
    (core : Core) → Sound core → (config : Config) → Kinded core config → (label : Label) → Contains (enabled config) label
    → (turn : ℕ) → (e : Event) × (event_at core turn config label ≡ Some e)

-- and of each derivation of a sound program a probe shows something
abbrev pub EachHasATrace : Type 0
EachHasATrace =
    (probe : Filter) (core : Core) → Sound core → (start : Beginning) → IsBeginning core start → (bound : ℕ) (told : Told) → Derivation core start bound told
    → (text : List ℕ) × IsTrace probe core start bound told text

-- and nothing else
abbrev pub OneTrace : Type 0
OneTrace =
    (probe : Filter) (core : Core) (start : Beginning) (bound : ℕ) (told : Told) (text other : List ℕ)
    → IsTrace probe core start bound told text → IsTrace probe core start bound told other → text ≡ other
