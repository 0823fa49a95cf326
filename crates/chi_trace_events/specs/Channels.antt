-- The channel on which a label sends, which is told without its event.
use Rattle.std.specs.Prelude.{ℕ, Option, Some, None, option_and_then, slice_get}
use Rattle.chi_core.specs.declared.act.Act.{Act}
use Rattle.chi_core.specs.declared.act.Act.TheVariants.{Send, Receive, Delay}
use Rattle.chi_core.specs.declared.label.Label.{Label}
use Rattle.chi_core.specs.declared.label.Label.TheVariants.{Local, Pair, Wake, Join, Advance}
use Rattle.chi_core.specs.Config.{Config}
use Rattle.chi_core.specs.Meeting.{offer_at}

abbrev pub channel_sent : Act → Option ℕ
channel_sent (Send channel x) = Some channel
channel_sent (Receive channel slot) = None
channel_sent (Delay due) = None

-- that of the sender's alternative
abbrev pub channel_of : Config → Label → Option ℕ
channel_of config (Pair p a q b) = option_and_then (λ offer. channel_sent offer.act) (offer_at (slice_get config.instances p) a)
channel_of config (Local p) = None
channel_of config (Wake p a) = None
channel_of config (Join p) = None
channel_of config Advance = None
