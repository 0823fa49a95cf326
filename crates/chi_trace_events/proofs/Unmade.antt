-- Whether an event is shown is told without it.
use Rattle.std.proofs.Common.{◌≡◌, ℕ, ℤ, Bool, false, if◌then◌else◌, List, [], ◌∷◌, Option, Some, None, refl, ap, sym, ◌∙◌}
use Rattle.std.specs.Prelude.{option_map, option_and_then, slice_get}
use Rattle.chi_core.specs.declared.act.Act.{Act}
use Rattle.chi_core.specs.declared.act.Act.TheVariants.{Send, Receive, Delay}
use Rattle.chi_core.specs.declared.label.Label.{Label}
use Rattle.chi_core.specs.declared.label.Label.TheVariants.{Local, Pair, Wake, Join, Advance}
use Rattle.chi_core.specs.declared.program.Core.{Core}
use Rattle.chi_core.specs.Config.{Config, Offer}
use Rattle.chi_core.specs.Meeting.{offer_at}
use Rattle.chi_trace.specs.declared.event.Detail.{Detail}
use Rattle.chi_trace.specs.declared.event.Detail.TheVariants.{Of}
use Rattle.chi_trace.specs.declared.event.Event.{Event}
use Rattle.chi_trace.specs.declared.filter.Filter.{Filter}
use Rattle.chi_trace.specs.Filters.{admits, channel_in, shows, where_shown}
use Rattle.chi_trace_events.specs.Channels.{channel_of, channel_sent}
use Rattle.chi_trace_events.specs.Traces.{name_in, line_in, place_told, sending_told, detail_of, time_after, event_with, event_at}

-- what is told of a label tells its channel

place_channel : (name : Option (List ℕ)) (line : Option ℕ) → None ≡ option_and_then channel_in (place_told name line)
place_channel None line = refl
place_channel (Some name) None = refl
place_channel (Some name) (Some line) = refl

name_channel : (name : Option (List ℕ)) → None ≡ option_and_then channel_in (option_map Of name)
name_channel None = refl
name_channel (Some name) = refl

act_channel : (names : List (List (List ℕ))) (act : Act) → channel_sent act ≡ option_and_then channel_in (sending_told names act)
act_channel names (Send channel x) = refl
act_channel names (Receive channel slot) = refl
act_channel names (Delay due) = refl

offer_channel : (names : List (List (List ℕ))) (offer : Option Offer)
    → option_and_then (λ o. channel_sent o.act) offer ≡ option_and_then channel_in (option_and_then (λ o. sending_told names o.act) offer)
offer_channel names None = refl
offer_channel names (Some offer) = act_channel names offer.act

label_channel : (core : Core) (config : Config) (label : Label) → channel_of config label ≡ option_and_then channel_in (detail_of core config label)
label_channel core config (Local p) =
    place_channel (name_in core (slice_get config.instances p)) (option_and_then (λ i. line_in i.term) (slice_get config.instances p))
label_channel core config (Pair p a q b) = offer_channel core.names.kinds (offer_at (slice_get config.instances p) a)
label_channel core config (Wake p a) = name_channel (name_in core (slice_get config.instances p))
label_channel core config (Join p) = name_channel (name_in core (slice_get config.instances p))
label_channel core config Advance = refl

-- and so whether its event is shown

abbrev shown_if : Filter → Option Event → Bool
shown_if filter None = false
shown_if filter (Some e) = shows filter e

pub shown_told : (core : Core) (turn : ℕ) (config : Config) (label : Label) (e : Event) (filter : Filter) → event_at core turn config label ≡ Some e
    → admits filter label (channel_of config label) ≡ shows filter e
shown_told core turn config label e filter is = by (time_after config label) (detail_of core config label) refl is
  where
    by : (clock : Option ℤ) (detail : Option Detail) → detail_of core config label ≡ detail → event_with turn label clock detail ≡ Some e
        → admits filter label (channel_of config label) ≡ shows filter e
    by None detail told is' = absurd (cc)
    by (Some clock) None told is' = absurd (cc)
    by (Some clock) (Some detail) told is' =
        ap (admits filter label) (label_channel core config label ∙ ap (option_and_then channel_in) told) ∙ ap (shown_if filter) is'

pub hidden : (filter : Filter) (e : Event) → shows filter e ≡ false → None ≡ where_shown filter e
hidden filter e is = ap (λ (b : Bool). if b then Some e else None) (sym is)
