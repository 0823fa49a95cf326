-- Waiting lists that have the offers of a configuration, and their choices as labels.
use Rattle.std.specs.Prelude.{◌≡◌, ℕ, List, Option, Some, None, map, slice_get}
use Rattle.chi_core.specs.declared.label.Label.{Label}
use Rattle.chi_core.specs.declared.label.Label.TheVariants.{Pair as PairLabel, Wake as WakeLabel}
use Rattle.chi_core.specs.declared.act.Act.{Act}
use Rattle.chi_core.specs.declared.act.Act.TheVariants.{Send as Sends, Receive as Receives, Delay as Delays}
use Rattle.chi_core.specs.Config.{Config, Instance, State, Running, Waiting, Joining, Finished}
use Rattle.chi_core.specs.Config.{Offer as CoreOffer}
use Rattle.chi_core.specs.Options.{options as core_options}
use Rattle.chi_chan.specs.declared.offers.Offer.{Offer}
use Rattle.chi_chan.specs.declared.offers.Offer.TheVariants.{Send, Receive, Delay}
use Rattle.chi_chan.specs.declared.offers.Choice.{Choice}
use Rattle.chi_chan.specs.declared.offers.Choice.TheVariants.{Pair, Wake}
use Rattle.chi_chan.specs.Held.{Offered, held, options}

-- an act of the semantics, as it is offered: what is sent, and where it is stored, doesn't matter to others
abbrev pub offered_by : Act → Offer
offered_by (Sends channel x) = Send channel
offered_by (Receives channel slot) = Receive channel
offered_by (Delays due) = Delay due

abbrev pub offered_as : CoreOffer → Offer
offered_as offer = offered_by offer.act

-- what an instance offers, if it waits
abbrev pub offered_in : State → Option (List Offer)
offered_in (Waiting offers) = Some (map offered_as offers)
offered_in Running = None
offered_in (Joining numbers) = None
offered_in Finished = None

abbrev pub offered_at : Option Instance → Option (List Offer)
offered_at None = None
offered_at (Some instance) = offered_in instance.state

-- the lists have the offers of the instances that wait in a configuration, and no others
abbrev pub Agrees : Offered → Config → Type 0
Agrees offered config = (pid : ℕ) → held offered pid ≡ offered_at (slice_get config.instances pid)

-- a choice of an instance, as the label that it is
abbrev pub label_of : ℕ → Choice → Label
label_of pid (Pair alternative party) = PairLabel pid alternative party.pid party.alternative
label_of pid (Wake alternative) = WakeLabel pid alternative

-- the options of an instance that waits are those by the lists
abbrev pub OptionsAgree : Type 0
OptionsAgree = (offered : Offered) (config : Config) → Agrees offered config → (pid : ℕ) (instance : Instance) (offers : List CoreOffer)
    → slice_get config.instances pid ≡ Some instance → instance.state ≡ Waiting offers
    → core_options config pid ≡ map (label_of pid) (options offered config.clock pid)
