-- What lines of parties keep of the offers of waiting instances.
use Rattle.std.specs.Prelude.{◌≡◌, ◌≢◌, ◌⊎◌, ℕ, suc, ◌+◌, ◌<◌, ◌≤◌, ℤ, List, [], ◌∷◌, ◌++◌, Option, None, Some, length, slice_get, map, int_lt, if◌then◌else◌}
use Rattle.chi_chan.specs.declared.offers.Offer.{Offer}
use Rattle.chi_chan.specs.declared.offers.Offer.TheVariants.{Send, Receive, Delay}
use Rattle.chi_chan.specs.declared.offers.Party.{Party}
use Rattle.chi_chan.specs.declared.offers.Choice.{Choice}
use Rattle.chi_chan.specs.declared.offers.Choice.TheVariants.{Pair, Wake}
use Rattle.chi_chan.specs.Held.{Offered, held, party}
use Rattle.chi_chan.specs.Lined.{Has, line, without, Adds, SameLines}

-- the offer of an alternative
abbrev pub offer_in : Option (List Offer) → ℕ → Option Offer
offer_in None alternative = None
offer_in (Some offers) alternative = slice_get offers alternative

abbrev pub offers_or : Option (List Offer) → List Offer
offers_or None = []
offers_or (Some offers) = offers

-- instances from number pid on, and their offers, are no more than the numbers of parties have room for
pub record Fits (pid : ℕ) (offered : Offered) : Type 0 where
  pub instances : pid + length offered ≤ 100000
  pub offers : (other : ℕ) (offers : List Offer) → held offered other ≡ Some offers → length offers ≤ 65536

-- in the lines stand those who make an offer of this kind, and nobody else
pub record Lists (kind : ℕ → Offer) (offered : Offered) (lines : List (List Party)) : Type 0 where
  pub all : (channel pid alternative : ℕ) → offer_in (held offered pid) alternative ≡ Some (kind channel) → Has (line lines channel) (party pid alternative)
  pub only : (channel pid alternative : ℕ) → Has (line lines channel) (party pid alternative) → offer_in (held offered pid) alternative ≡ Some (kind channel)

pub record IsWaiting (offered : Offered) (senders receivers : List (List Party)) : Type 0 where
  pub sending : Lists Send offered senders
  pub receiving : Lists Receive offered receivers
  pub fits : Fits 0 offered

-- the options by one offer, where the receivers stand in lines
abbrev pub choices_by : List (List Party) → ℤ → ℕ → ℕ → Offer → List Choice
choices_by lines clock pid alternative (Send channel) = map (Pair alternative) (without pid (line lines channel))
choices_by lines clock pid alternative (Receive channel) = []
choices_by lines clock pid alternative (Delay due) = if int_lt clock due then [] else Wake alternative ∷ []

abbrev pub choices_from : List (List Party) → ℤ → ℕ → ℕ → List Offer → List Choice
choices_from lines clock pid alternative [] = []
choices_from lines clock pid alternative (offer ∷ offers) =
    choices_by lines clock pid alternative offer ++ choices_from lines clock pid (suc alternative) offers

-- An instance has come to stand in lines for its offers below alternative j.
pub record Stood (kind : ℕ → Offer) (pid : ℕ) (offers : List Offer) (j : ℕ) (old new : List (List Party)) : Type 0 where
  pub all : (c b : ℕ) → b < j → slice_get offers b ≡ Some (kind c) → Has (line new c) (party pid b)
  pub stays : (d : ℕ) (x : Party) → Has (line old d) x → Has (line new d) x
  pub only : (d : ℕ) (x : Party) → Has (line new d) x → Has (line old d) x ⊎ ((b : ℕ) × (x ≡ party pid b) × (slice_get offers b ≡ Some (kind d)))

-- a party has come to stand in the line of the channel of its offer
abbrev pub Comes : Offer → Party → List (List Party) → List (List Party) → List (List Party) → List (List Party) → Type 0
Comes (Send channel) p senders senders' receivers receivers' = Adds senders senders' channel p × SameLines receivers receivers'
Comes (Receive channel) p senders senders' receivers receivers' = SameLines senders senders' × Adds receivers receivers' channel p
Comes (Delay due) p senders senders' receivers receivers' = SameLines senders senders' × SameLines receivers receivers'

-- An instance has left the lines in which it may stand for its offers below alternative j.
pub record Left (kind : ℕ → Offer) (pid : ℕ) (offers : List Offer) (j : ℕ) (old new : List (List Party)) : Type 0 where
  pub gone : (c b : ℕ) → b < j → slice_get offers b ≡ Some (kind c) → (x : Party) → Has (line new c) x → x.pid ≢ pid
  pub stays : (d : ℕ) (x : Party) → x.pid ≢ pid → Has (line old d) x → Has (line new d) x
  pub only : (d : ℕ) (x : Party) → Has (line new d) x → Has (line old d) x

-- Nobody has come, and nobody but this instance has left.
pub record Undone (pid : ℕ) (old new : List (List Party)) : Type 0 where
  pub stays : (d : ℕ) (x : Party) → x.pid ≢ pid → Has (line old d) x → Has (line new d) x
  pub only : (d : ℕ) (x : Party) → Has (line new d) x → Has (line old d) x
