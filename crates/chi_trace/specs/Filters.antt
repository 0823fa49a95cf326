-- Which events a filter shows.
use Rattle.std.specs.Prelude.{ℕ, ◌==◌, ◌||◌, Bool, true, false, Option, Some, None, if◌then◌else◌}
use Rattle.chi_core.specs.declared.label.Label.{Label}
use Rattle.chi_core.specs.declared.label.Label.TheVariants.{Local, Pair, Wake, Join, Advance}
use Rattle.chi_trace.specs.declared.event.Detail.{Detail}
use Rattle.chi_trace.specs.declared.event.Detail.TheVariants.{Sent}
use Rattle.chi_trace.specs.declared.event.Event.{Event}
use Rattle.chi_trace.specs.declared.filter.EventKind.{EventKind}
use Rattle.chi_trace.specs.declared.filter.EventKind.TheVariants as kind
use Rattle.chi_trace.specs.declared.filter.Filter.{Filter}
use Rattle.chi_trace.specs.declared.filter.Filter.TheVariants.{All, Instance, Channel, Kind}

-- an instance takes part in what happened: it acts alone, or on either side of a pair
abbrev pub takes_part : ℕ → Label → Bool
takes_part n (Local p) = p == n
takes_part n (Pair p a q b) = (p == n) || (q == n)
takes_part n (Wake p a) = p == n
takes_part n (Join p) = p == n
takes_part n Advance = false

-- the channel on which something was sent, as a detail tells it
abbrev pub channel_in : Detail → Option ℕ
channel_in (Sent channel value) = Some channel
channel_in detail = None

-- a pair that sends on this channel
abbrev pub is_sent_on : ℕ → Label → Option ℕ → Bool
is_sent_on n (Pair p a q b) (Some channel) = channel == n
is_sent_on n label channel = false

abbrev pub is_of_kind : EventKind → Label → Bool
is_of_kind kind.Local (Local p) = true
is_of_kind kind.Pair (Pair p a q b) = true
is_of_kind kind.Wake (Wake p a) = true
is_of_kind kind.Join (Join p) = true
is_of_kind kind.Advance Advance = true
is_of_kind kind label = false

-- all that happens, what an instance takes part in, what is sent on a channel, or what is of a kind
abbrev pub admits : Filter → Label → Option ℕ → Bool
admits All label channel = true
admits (Instance n) label channel = takes_part n label
admits (Channel n) label channel = is_sent_on n label channel
admits (Kind k) label channel = is_of_kind k label

-- an event is shown by its label and the channel that it tells
abbrev pub shows : Filter → Event → Bool
shows filter e = admits filter e.label (channel_in e.detail)

-- the event, where it is shown
abbrev pub where_shown : Filter → Event → Option Event
where_shown filter e = if shows filter e then Some e else None
