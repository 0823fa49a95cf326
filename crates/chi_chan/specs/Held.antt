-- The offers of the instances that wait, those who offer on a channel, and the options of an instance, all by a scan of the offers.
use Rattle.std.specs.Prelude.{◌≡◌, ◌≢◌, ℕ, suc, ℤ, List, [], ◌∷◌, ◌++◌, Option, None, Some, Bool, false, nat_eq, int_lt, get_or, map, if◌then◌else◌}
use Rattle.chi_chan.specs.declared.offers.Offer.{Offer}
use Rattle.chi_chan.specs.declared.offers.Offer.TheVariants.{Send, Receive, Delay}
use Rattle.chi_chan.specs.declared.offers.Party.{Party}
use Rattle.chi_chan.specs.declared.offers.Choice.{Choice}
use Rattle.chi_chan.specs.declared.offers.Choice.TheVariants.{Pair, Wake}

-- a map from instances to offers: at each number the offers of that instance if it waits, or nothing
abbrev pub Offered : Type 0
Offered = List (Option (List Offer))

-- the offers of an instance, if it waits
abbrev pub held : Offered → ℕ → Option (List Offer)
held offered pid = get_or offered pid None

-- the same instances wait with the same offers
abbrev pub SameOffers : Offered → Offered → Type 0
SameOffers old new = (pid : ℕ) → held new pid ≡ held old pid

-- an instance waits with these offers, or doesn't, and all others are as before
pub record Updates (old new : Offered) (pid : ℕ) (offers : Option (List Offer)) : Type 0 where
  pub changed : held new pid ≡ offers
  pub others : (other : ℕ) → other ≢ pid → held new other ≡ held old other

abbrev pub NobodyWaits : Offered → Type 0
NobodyWaits offered = (pid : ℕ) → held offered pid ≡ None

abbrev pub sends_on : ℕ → Offer → Bool
sends_on channel (Send number) = nat_eq number channel
sends_on channel (Receive number) = false
sends_on channel (Delay due) = false

abbrev pub receives_on : ℕ → Offer → Bool
receives_on channel (Send number) = false
receives_on channel (Receive number) = nat_eq number channel
receives_on channel (Delay due) = false

abbrev pub party : ℕ → ℕ → Party
party pid alternative = record { pid = pid; alternative = alternative }

-- those of an instance's offers, from an alternative on, that pass a test
abbrev pub parties_in : (Offer → Bool) → ℕ → ℕ → List Offer → List Party
parties_in test pid alternative [] = []
parties_in test pid alternative (offer ∷ offers) =
    if test offer then party pid alternative ∷ parties_in test pid (suc alternative) offers else parties_in test pid (suc alternative) offers

abbrev pub parties_of : (Offer → Bool) → ℕ → Option (List Offer) → List Party
parties_of test pid None = []
parties_of test pid (Some offers) = parties_in test pid 0 offers

-- those of all instances, from one on
abbrev pub parties_from : (Offer → Bool) → ℕ → Offered → List Party
parties_from test pid [] = []
parties_from test pid (offers ∷ rest) = parties_of test pid offers ++ parties_from test (suc pid) rest

-- who sends on a channel, by instance and then by alternative
unfoldable pub senders_on : Offered → ℕ → List Party
senders_on offered channel = parties_from (sends_on channel) 0 offered

-- who receives from it
unfoldable pub receivers_on : Offered → ℕ → List Party
receivers_on offered channel = parties_from (receives_on channel) 0 offered

-- the pairs that an instance may make by its alternative, which sends on a channel: with each receiver of each other instance,
-- from instance `other` on
abbrev pub pairs_from : ℕ → ℕ → ℕ → ℕ → Offered → List Choice
pairs_from pid alternative channel other [] = []
pairs_from pid alternative channel other (offers ∷ rest) =
    (if nat_eq other pid then [] else map (Pair alternative) (parties_of (receives_on channel) other offers))
    ++ pairs_from pid alternative channel (suc other) rest

-- what an instance may do by one offer: a send pairs with receivers, a receive waits for its sender, and a delay wakes once
-- its due time isn't after the clock
abbrev pub options_by : Offered → ℤ → ℕ → ℕ → Offer → List Choice
options_by offered clock pid alternative (Send channel) = pairs_from pid alternative channel 0 offered
options_by offered clock pid alternative (Receive channel) = []
options_by offered clock pid alternative (Delay due) = if int_lt clock due then [] else Wake alternative ∷ []

-- what it may do by these offers, from an alternative on
abbrev pub options_from : Offered → ℤ → ℕ → ℕ → List Offer → List Choice
options_from offered clock pid alternative [] = []
options_from offered clock pid alternative (offer ∷ offers) =
    options_by offered clock pid alternative offer ++ options_from offered clock pid (suc alternative) offers

abbrev pub options_of : Offered → ℤ → ℕ → Option (List Offer) → List Choice
options_of offered clock pid None = []
options_of offered clock pid (Some offers) = options_from offered clock pid 0 offers

-- the options of an instance, in order
unfoldable pub options : Offered → ℤ → ℕ → List Choice
options offered clock pid = options_of offered clock pid (held offered pid)
