-- Whether somebody else offers the other side of what an instance offers.
use Rattle.std.specs.Prelude.{ℕ, nat_eq, Bool, false, not, ◌&&◌, List, [], length, Option, Some, None, slice_get}
use Rattle.std.specs.List.{list_any}
use Rattle.chi_core.specs.declared.act.Act.{Act}
use Rattle.chi_core.specs.declared.act.Act.TheVariants.{Send, Receive, Delay}
use Rattle.chi_core.specs.Config.{Config, Instance, Offer, offers_in}
use Rattle.chi_core.specs.Options.{numbers, receives_on}

abbrev pub sends_on : ℕ → Act → Bool
sends_on channel (Send number x) = nat_eq number channel
sends_on channel (Receive number slot) = false
sends_on channel (Delay due) = false

-- one sends on the channel from which the other receives
abbrev pub answers : Act → Act → Bool
answers (Send channel x) other = receives_on channel other
answers (Receive channel slot) other = sends_on channel other
answers (Delay due) other = false

abbrev pub offers_of : Option Instance → List Offer
offers_of None = []
offers_of (Some i) = offers_in i.state

-- instance q, another one than p, offers the other side
abbrev pub answered_by : ℕ → Act → ℕ → Option Instance → Bool
answered_by p act q i = not (nat_eq q p) && list_any (λ o. answers act o.act) (offers_of i)

-- some instance does
abbrev pub is_answered : Config → ℕ → Act → Bool
is_answered config p act = list_any (λ q. answered_by p act q (slice_get config.instances q)) (numbers (length config.instances))
