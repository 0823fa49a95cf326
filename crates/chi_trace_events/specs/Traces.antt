-- The trace of a run: the event of each label that it took.
use Rattle.std.specs.Prelude.{◌≡◌, ℕ, nat_le, ℤ, Bool, true, false, List, [], ◌∷◌, ◌++◌, length, codes, filter, map, Option, Some, None, option_map, option_and_then, slice_get, if◌then◌else◌}
use Rattle.std.specs.List.{flat_map}
use Rattle.chi_value.specs.declared.value.Value.{Value}
use Rattle.chi_value.specs.Plain.{is_plain}
use Rattle.chi_value.specs.Text.{quoted_text}
use Rattle.chi_core.specs.declared.act.Act.{Act}
use Rattle.chi_core.specs.declared.act.Act.TheVariants.{Send, Receive, Delay}
use Rattle.chi_core.specs.declared.label.Label.{Label}
use Rattle.chi_core.specs.declared.label.Label.TheVariants.{Local, Pair, Wake, Join, Advance}
use Rattle.chi_core.specs.declared.program.Core.{Core}
use Rattle.chi_core.specs.Beginning.{Beginning, Begins, Breaks}
use Rattle.chi_core.specs.Beginning as beginning
use Rattle.chi_core.specs.Config.{Config, Instance}
use Rattle.chi_core.specs.Meeting.{offer_at, next_due}
use Rattle.chi_core.specs.Runs.{Tells, nothing, along, Told}
use Rattle.chi_core.specs.Step.{line_of, name_of}
use Rattle.chi_core.specs.Terms.{Term}
use Rattle.chi_trace.specs.declared.event.Detail.{Detail}
use Rattle.chi_trace.specs.declared.event.Detail.TheVariants.{Bare, At, Of, Sent}
use Rattle.chi_trace.specs.declared.event.Event.{Event}
use Rattle.chi_trace.specs.declared.filter.Filter.{Filter}
use Rattle.chi_trace.specs.Filters.{shows}
use Rattle.chi_trace.specs.Lines.{first_line, event_line}
use Rattle.chi_trace_events.specs.declared.value.TheConstants.{MOST_SHOWN}

-- what stands for a value that isn't shown
abbrev pub hidden : List ℕ
hidden = codes "*"

-- the text of a plain value is shown, unless it is too long
abbrev pub shown : Bool → List ℕ → List ℕ
shown false text = hidden
shown true text = if nat_le (length text) MOST_SHOWN then text else hidden

-- what is told of what is sent: the value as it is written in another, or that there is none
abbrev pub sent_text : List (List (List ℕ)) → Option Value → List ℕ
sent_text names None = codes "void"
sent_text names (Some v) = shown (is_plain v) (quoted_text names v)

-- the name of the definition of an instance, if it is there
abbrev pub name_in : Core → Option Instance → Option (List ℕ)
name_in core place = option_and_then (λ i. name_of core i.definition) place

-- the line of the first item that is left to do
abbrev pub line_in : Term → Option ℕ
line_in [] = None
line_in (item ∷ rest) = Some (line_of item)

abbrev pub place_told : Option (List ℕ) → Option ℕ → Option Detail
place_told (Some name) (Some line) = Some (At name line)
place_told _ _ = None

abbrev pub sending_told : List (List (List ℕ)) → Act → Option Detail
sending_told names (Send channel x) = Some (Sent channel (sent_text names x))
sending_told names (Receive channel slot) = None
sending_told names (Delay due) = None

-- What is told of a label beside it: where an instance is in its definition, what is sent on which channel, or
-- whose instance goes on.
abbrev pub detail_of : Core → Config → Label → Option Detail
detail_of core config (Local p) =
    let i = slice_get config.instances p in
    place_told (name_in core i) (option_and_then (λ i. line_in i.term) i)
detail_of core config (Pair p a q b) =
    option_and_then (λ offer. sending_told core.names.kinds offer.act) (offer_at (slice_get config.instances p) a)
detail_of core config (Wake p a) = option_map Of (name_in core (slice_get config.instances p))
detail_of core config (Join p) = option_map Of (name_in core (slice_get config.instances p))
detail_of core config Advance = Some Bare

-- the time after a label
abbrev pub time_after : Config → Label → Option ℤ
time_after config Advance = next_due config
time_after config label = Some config.clock

abbrev pub event_with : ℕ → Label → Option ℤ → Option Detail → Option Event
event_with turn label (Some clock) (Some detail) = Some (record { turn = turn; label = label; clock = clock; detail = detail })
event_with turn label _ _ = None

-- The event of a label at a turn, in the configuration before it. There is none where something isn't there that the
-- label names, which never happens for an enabled label of a sound program.
abbrev pub event_at : Core → ℕ → Config → Label → Option Event
event_at core turn config label = event_with turn label (time_after config label) (detail_of core config label)

abbrev pub event_told : Core → Tells (Option Event)
event_told core turn config label outcome = event_at core turn config label ∷ []

-- the event of each label of a run in turn; a run that a constant ended has none
abbrev pub events_of : Core → Beginning → ℕ → Told → List (Option Event)
events_of core (Begins config) bound told = along (event_told core) nothing core 0 config bound told.labels
events_of core (Breaks end) bound told = []
events_of core beginning.Amiss bound told = []

-- the lines of a trace
abbrev pub lines_of : List Event → List ℕ
lines_of events = first_line ++ 10 ∷ flat_map event_line events

-- the text is what a probe shows of the trace of a run: its first line, and the line of each label's event that it shows
pub record IsTrace (probe : Filter) (core : Core) (beginning : Beginning) (bound : ℕ) (told : Told) (text : List ℕ) : Type 0 where
  pub events : List Event
  pub are : events_of core beginning bound told ≡ map Some events
  pub is : text ≡ lines_of (filter (shows probe) events)

-- what is logged of a run before the line of its verdict: what is shown of its trace, where that is wanted
abbrev pub IsLogged : Option Filter → Core → Beginning → ℕ → Told → List ℕ → Type 0
IsLogged None core beginning bound told log = log ≡ []
IsLogged (Some probe) core beginning bound told log = IsTrace probe core beginning bound told log
