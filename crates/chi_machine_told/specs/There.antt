-- What the event of a label tells is there in the machine. Private to proofs.
use Rattle.std.specs.Prelude.{◌≡◌, ◌≢◌, ℕ, List, [], Option, Some, None, option_map, slice_get}
use Rattle.chi_value.specs.declared.value.Value.{Value}
use Rattle.chi_chan.specs.declared.offers.Offer.{Offer}
use Rattle.chi_chan.specs.declared.offers.Offer.TheVariants as offer
use Rattle.chi_core.specs.declared.act.Act.{Act}
use Rattle.chi_core.specs.declared.act.Act.TheVariants as act
use Rattle.chi_core.specs.declared.label.Label.{Label}
use Rattle.chi_core.specs.declared.label.Label.TheVariants.{Local, Pair, Wake, Join, Advance}
use Rattle.chi_core.specs.Meeting.{next_due}
use Rattle.chi_core.specs.Options.{actors}
use Rattle.chi_core.specs.Sound.{IsName}
use Rattle.chi_code.specs.declared.code.Code.{Code}
use Rattle.chi_machine_laws.specs.Instances.{Kept, Held, Whole}
use Rattle.chi_machine_laws.specs.Choosing.{config_of}
use Rattle.chi_machine_events.specs.Events.{act_held, line_held, name_held}
use Rattle.chi_trace_events.specs.There.{IsSent}

-- an instance is there, and its process has a name
abbrev pub IsNamed : Code → Option Held → Type 0
IsNamed code place = (name : List ℕ) × (name_held code place ≡ Some name) × IsName name

-- it is a send of something that can be told
abbrev pub Sends : Code → Option Act → Type 0
Sends code sends = (channel : ℕ) × (x : Option Value) × (sends ≡ Some (act.Send channel x)) × IsSent code.names.kinds x

-- what an instance offers as its alternative a, by its offers
abbrev pub act_in : List Kept → ℕ → Option Act
act_in offers a = option_map (λ k. k.act) (slice_get offers a)

-- all that the event of a label tells
abbrev pub IsThere : Code → Whole → Label → Type 0
IsThere code m (Local p) = IsNamed code (slice_get m.instances p) × (line_held code (slice_get m.instances p) ≢ None)
IsThere code m (Pair p a q b) = Sends code (act_held (slice_get m.instances p) a)
IsThere code m (Wake p a) = IsNamed code (slice_get m.instances p)
IsThere code m (Join p) = IsNamed code (slice_get m.instances p)
IsThere code m Advance = (actors (config_of m) ≡ []) × (next_due (config_of m) ≢ None)

-- the channel on which an offer sends
abbrev pub channel_by : Offer → Option ℕ
channel_by (offer.Send channel) = Some channel
channel_by (offer.Receive channel) = None
channel_by (offer.Delay due) = None
