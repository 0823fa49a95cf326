-- What a runner stands for: a configuration, or the end of a run.
use Rattle.std.specs.Prelude.{◌≡◌, ◌↔◌, ℕ, ◌+◌, ℤ, Bool, List, [], Option, Some, None, option_map, Contains, IsTrue}
use Rattle.chi_core.specs.declared.program.Core.{Core}
use Rattle.chi_core.specs.declared.label.Label.{Label}
use Rattle.chi_core.specs.declared.verdict.Verdict.{Verdict}
use Rattle.chi_core.specs.Config.{Config}
use Rattle.chi_core.specs.Step as outcome
use Rattle.chi_core.specs.Step.{step}
use Rattle.chi_core.specs.Options.{Ending, options, actors, enabled, ending, ending_at as over_at}
use Rattle.chi_core.specs.Beginning.{Beginning, Begins, Breaks}
use Rattle.chi_core.specs.Beginning as beginning
use Rattle.chi_trace_events.specs.Traces.{event_at}
use Rattle.chi_trace.specs.declared.event.Event.{Event}
pub use Rattle.chi_plain_steps.specs.Takings.{Appends}
use Rattle.chi_plain.specs.declared.stepped.Stepped.{Stepped}
use Rattle.chi_plain.specs.declared.stepped.Stepped.TheVariants.{Next, Over, Spent, NoMemory}

-- A runner is in a configuration; or the run is over, by a constant or a step; or memory was wanting.
pub data Stage : Type 0 where
  At : Config → Stage
  Ended : Ending → Stage
  Lost : Stage

-- a runner of a program
pub record Runner : Type 0 where
  pub core : Core
  pub stage : Stage

-- a runner stands at the beginning of a run
abbrev pub Begun : Beginning → Stage → Type 0
Begun (Begins config) stage = stage ≡ At config
Begun (Breaks end) stage = stage ≡ Ended end
Begun beginning.Amiss stage = ⊥

abbrev pub actors_at : Stage → List ℕ
actors_at (At config) = actors config
actors_at (Ended end) = []
actors_at Lost = []

abbrev pub options_at : Stage → ℕ → List Label
options_at (At config) p = options config p
options_at (Ended end) p = []
options_at Lost p = []

abbrev pub enabled_at : Stage → List Label
enabled_at (At config) = enabled config
enabled_at (Ended end) = []
enabled_at Lost = []

-- the configuration in which it is
abbrev pub configuration_at : Stage → Option Config
configuration_at (At config) = Some config
configuration_at (Ended end) = None
configuration_at Lost = None

-- how the run has ended, or ends there where nothing can happen
abbrev pub ending_at : Stage → Option Ending
ending_at (At config) = ending config
ending_at (Ended end) = Some end
ending_at Lost = None

abbrev pub verdict_at : Stage → Option Verdict
verdict_at stage = option_map (λ end. end.verdict) (ending_at stage)

abbrev pub time_of : Option Ending → Config → ℤ
time_of (Some end) config = end.clock
time_of None config = config.clock

-- the time: that of the ending, where there is one
abbrev pub clock_at : Stage → Option ℤ
clock_at (At config) = Some (time_of (ending config) config)
clock_at (Ended end) = Some end.clock
clock_at Lost = None

-- it is the event of a label at a turn there
abbrev pub IsEventAt : Core → Stage → ℕ → Label → Event → Type 0
IsEventAt core (At config) turn label e = event_at core turn config label ≡ Some e
IsEventAt core (Ended end) turn label e = ⊥
IsEventAt core Lost turn label e = ⊥

-- a label that the runner may be given: an enabled one, or any once memory was wanting
abbrev pub MayStep : Stage → Label → Type 0
MayStep (At config) label = Contains (enabled config) label
MayStep (Ended end) label = ⊥
MayStep Lost label = Unit {0}

-- a label costs more there than is left of the bound
abbrev pub TellsSpent : Core → Stage → Label → ℕ → Bool → Type 0
TellsSpent core (At config) label left spent = IsTrue spent ↔ (step core config label left ≡ outcome.Spent)
TellsSpent core (Ended end) label left spent = ⊥
TellsSpent core Lost label left spent = ⊥

-- What a call that takes a label does, where so much is left of the bound: the step of the semantics, from the
-- old stage to the new one, with the text that it appends to the output.
abbrev pub Steps : Core → Stage → Stage → Label → ℕ → List ℕ → Stepped → Type 0
Steps core (At config) (At new) label left text (Next cost) =
    (rest : ℕ) × (step core config label left ≡ outcome.Next new text rest) × (left ≡ rest + cost)
Steps core (At config) (Ended end) label left text Over =
    (step core config label left ≡ outcome.Over end.verdict) × (end ≡ over_at end.verdict config) × (text ≡ [])
Steps core (At config) new label left text Spent =
    (step core config label left ≡ outcome.Spent) × (new ≡ At config) × (text ≡ [])
Steps core old new label left text NoMemory = (new ≡ Lost) × (text ≡ [])
Steps core old new label left text answer = ⊥
