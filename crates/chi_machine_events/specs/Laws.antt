-- What is said of the machine's events: they are those of the configuration for which its state stands.
use Rattle.std.specs.Prelude.{◌≡◌, ◌≢◌, ℕ}
use Rattle.chi_core.specs.declared.label.Label.{Label}
use Rattle.chi_core.specs.declared.program.Core.{Core}
use Rattle.chi_core.specs.Config.{Config}
use Rattle.chi_core.specs.Step as step
use Rattle.chi_code.specs.declared.code.Code.{Code}
use Rattle.chi_code.specs.Codes.{Codes}
use Rattle.chi_machine_laws.specs.Instances.{Whole}
use Rattle.chi_machine_laws.specs.Stands.{Stands}
use Rattle.chi_machine_events.specs.Events.{channel_at, event_by}
use Rattle.chi_trace_events.specs.Channels.{channel_of}
use Rattle.chi_trace_events.specs.Traces.{event_at}

-- the channel on which a label sends
abbrev pub ChannelsAlike : Type 0
ChannelsAlike = (core : Core) (code : Code) (config : Config) (m : Whole) → Stands core code config m → (label : Label) → channel_at m label ≡ channel_of config label

-- and the event of each label whose step isn't amiss, as that of a picked label never is
abbrev pub EventsAlike : Type 0
EventsAlike =
    (core : Core) (code : Code) → Codes core code → (config : Config) (m : Whole) → Stands core code config m → (turn : ℕ) (label : Label)
    → step.step core config label 1 ≢ step.Amiss → event_by code turn m label ≡ event_at core turn config label
