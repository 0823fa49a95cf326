-- What a trace tells of a label, read off the machine's own state: the names stand in the code, and the line of what an
-- instance does next is that of the turn that begins where it stands.
use Rattle.std.specs.Prelude.{ℕ, List, [], Option, Some, None, option_map, option_and_then, slice_get}
use Rattle.chi_core.specs.declared.act.Act.{Act}
use Rattle.chi_core.specs.declared.label.Label.{Label}
use Rattle.chi_core.specs.declared.label.Label.TheVariants.{Local, Pair, Wake, Join, Advance}
use Rattle.chi_code.specs.declared.code.Code.{Code}
use Rattle.chi_code.specs.declared.instr.Instr.{Instr}
use Rattle.chi_code.specs.declared.instr.Instr.TheVariants as i
use Rattle.chi_machine_laws.specs.Instances.{Kept, Standing, Running, Waiting, Joining, Finished, Held, Whole}
use Rattle.chi_machine_laws.specs.Choosing.{config_of}
use Rattle.chi_machine_laws.specs.Labels.{name_at}
use Rattle.chi_trace.specs.declared.event.Detail.{Detail}
use Rattle.chi_trace.specs.declared.event.Detail.TheVariants.{Bare, Of}
use Rattle.chi_trace.specs.declared.event.Event.{Event}
use Rattle.chi_trace_events.specs.Channels.{channel_sent}
use Rattle.chi_trace_events.specs.Traces.{event_with, place_told, sending_told, time_after}

-- the line of the turn that begins with an instruction
abbrev pub turn_line : Option Instr → Option ℕ
turn_line (Some (i.Mark line)) = Some line
turn_line _ = None

-- the name of the definition of an instance, if it is there
abbrev pub name_held : Code → Option Held → Option (List ℕ)
name_held code place = option_and_then (λ h. name_at code h.definition) place

abbrev pub line_held : Code → Option Held → Option ℕ
line_held code place = option_and_then (λ h. turn_line (slice_get code.instrs h.at)) place

abbrev pub kept_in : Standing → List Kept
kept_in Running = []
kept_in (Waiting kept) = kept
kept_in (Joining numbers) = []
kept_in Finished = []

-- what an instance offers as its alternative a
abbrev pub act_held : Option Held → ℕ → Option Act
act_held place a = option_map (λ k. k.act) (option_and_then (λ h. slice_get (kept_in h.standing) a) place)

abbrev pub channel_at : Whole → Label → Option ℕ
channel_at m (Pair p a q b) = option_and_then channel_sent (act_held (slice_get m.instances p) a)
channel_at m (Local p) = None
channel_at m (Wake p a) = None
channel_at m (Join p) = None
channel_at m Advance = None

abbrev pub detail_at : Code → Whole → Label → Option Detail
detail_at code m (Local p) = let h = slice_get m.instances p in place_told (name_held code h) (line_held code h)
detail_at code m (Pair p a q b) = option_and_then (sending_told code.names.kinds) (act_held (slice_get m.instances p) a)
detail_at code m (Wake p a) = option_map Of (name_held code (slice_get m.instances p))
detail_at code m (Join p) = option_map Of (name_held code (slice_get m.instances p))
detail_at code m Advance = Some Bare

-- the event of a label at a turn, in the state before it
abbrev pub event_by : Code → ℕ → Whole → Label → Option Event
event_by code turn m label = event_with turn label (time_after (config_of m) label) (detail_at code m label)
