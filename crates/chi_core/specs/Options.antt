-- Options: which labels may come next, and how a run ends where there is none.
use Rattle.std.specs.Prelude.{ℕ, zero, suc, ℤ, List, [], ◌∷◌, ◌++◌, Option, Some, None, Bool, false, length, nat_eq, nat_lt, int_lt, filter, map, slice_get, if◌then◌else◌}
use Rattle.std.specs.List.{flat_map, list_all}
use Rattle.std.specs.Option.{option_to_list}
use Rattle.chi_core.specs.declared.label.Label.{Label}
use Rattle.chi_core.specs.declared.label.Label.TheVariants.{Local, Pair, Wake, Join, Advance}
use Rattle.chi_core.specs.declared.verdict.Verdict.{Verdict}
use Rattle.chi_core.specs.declared.verdict.Verdict.TheVariants.{Completed, Deadlock, Stopped}
use Rattle.chi_core.specs.Config.{Config, Instance, Offer, Act, Send, Receive, Delay, State, Running, Waiting, Joining, Finished, offers_in, has_finished}
use Rattle.chi_core.specs.Meeting.{are_over, next_due, may_reach}

-- the numbers below n, ascending
abbrev pub numbers : ℕ → List ℕ
numbers zero = []
numbers (suc n) = numbers n ++ n ∷ []

abbrev pub receives_on : ℕ → Act → Bool
receives_on channel (Receive number slot) = nat_eq number channel
receives_on channel (Send number x) = false
receives_on channel (Delay due) = false

abbrev pub is_receiver : ℕ → Option Offer → Bool
is_receiver channel None = false
is_receiver channel (Some offer) = receives_on channel offer.act

-- the alternatives among these offers that receive from a channel, ascending
abbrev pub receivers : ℕ → List Offer → List ℕ
receivers channel offers = filter (λ b. is_receiver channel (slice_get offers b)) (numbers (length offers))

-- what instance p, which sends on a channel as its alternative a, may do together with instance q, another one
abbrev pub pairs_with : ℕ → ℕ → ℕ → ℕ → Option Instance → List Label
pairs_with p a channel q None = []
pairs_with p a channel q (Some j) =
    if nat_eq q p then [] else map (λ b. Pair p a q b) (receivers channel (offers_in j.state))

-- and together with every other instance, in order
abbrev pub pairs : Config → ℕ → ℕ → ℕ → List Label
pairs config p a channel =
    flat_map (λ q. pairs_with p a channel q (slice_get config.instances q)) (numbers (length config.instances))

-- A send may happen with each receive on its channel, and a delay may end once its due time isn't after the
-- clock. A receive waits for its sender.
abbrev pub options_by : Config → ℕ → ℕ → Act → List Label
options_by config p a (Send channel x) = pairs config p a channel
options_by config p a (Receive channel slot) = []
options_by config p a (Delay due) = if int_lt config.clock due then [] else Wake p a ∷ []

-- the options of instance p for its alternative a
abbrev pub options_for : Config → ℕ → ℕ → Option Offer → List Label
options_for config p a None = []
options_for config p a (Some offer) = options_by config p a offer.act

abbrev pub options_in : Config → ℕ → State → List Label
options_in config p Running = Local p ∷ []
options_in config p (Waiting offers) =
    flat_map (λ a. options_for config p a (slice_get offers a)) (numbers (length offers))
options_in config p (Joining waited) = if are_over config waited then Join p ∷ [] else []
options_in config p Finished = []

abbrev pub options_of : Config → ℕ → Option Instance → List Label
options_of config p None = []
options_of config p (Some i) = options_in config p i.state

-- the labels that instance p may take, in order
abbrev pub options : Config → ℕ → List Label
options config p = options_of config p (slice_get config.instances p)

-- the instances that have an option, ascending
abbrev pub actors : Config → List ℕ
actors config = filter (λ p. nat_lt 0 (length (options config p))) (numbers (length config.instances))

abbrev pub advance_to : Config → Option ℤ → Option Label
advance_to config None = None
advance_to config (Some t) = if may_reach config.until t then Some Advance else None

-- Advance, where some offer is a delay and the least due time may be reached
abbrev pub advance : Config → Option Label
advance config = advance_to config (next_due config)

abbrev pub enabled_of : Config → List ℕ → List Label
enabled_of config [] = option_to_list (advance config)
enabled_of config (p ∷ ps) = flat_map (options config) (p ∷ ps)

-- all labels that may come next: every option; and where there is none, maybe Advance
abbrev pub enabled : Config → List Label
enabled config = enabled_of config (actors config)

-- how a run ended, and when
pub record Ending : Type 0 where
  pub verdict : Verdict
  pub clock : ℤ

abbrev pub ending_at : Verdict → Config → Ending
ending_at verdict config = record { verdict = verdict; clock = config.clock }

abbrev pub all_finished : Config → Bool
all_finished config = list_all has_finished config.instances

-- where some offer is a delay, the run is stopped at the stopping time
abbrev pub stopped_at : Config → Option ℤ → Option ℤ → Ending
stopped_at config (Some t) (Some until) = record { verdict = Stopped; clock = until }
stopped_at config _ _ = ending_at Deadlock config

-- the ending where nothing is enabled
abbrev pub at_rest : Config → Ending
at_rest config = if all_finished config then ending_at Completed config else stopped_at config (next_due config) config.until

abbrev pub ending_of : List Label → Config → Option Ending
ending_of [] config = Some (at_rest config)
ending_of (l ∷ ls) config = None

-- how a run ends in a configuration, where nothing is enabled
abbrev pub ending : Config → Option Ending
ending config = ending_of (enabled config) config
