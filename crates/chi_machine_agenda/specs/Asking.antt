-- Private to proofs: which instances are asked again whether they may act, once others wait or wait no more.
use Rattle.std.specs.Prelude.{◌≡◌, ◌≢◌, ℕ, ◌<◌, ℤ, Bool, false, ◌||◌, nat_eq, nat_lt, int_lt, List, [], ◌∷◌, Some, length, slice_get, slice_set}
use Rattle.chi_chan.specs.declared.offers.Offer.{Offer}
use Rattle.chi_chan.specs.declared.offers.Offer.TheVariants.{Send, Receive, Delay}
use Rattle.chi_chan.specs.declared.offers.Party.{Party}
use Rattle.chi_chan.specs.Held.{Offered, held, options, senders_on}
use Rattle.chi_chan.specs.Kept.{offer_in}

-- an instance that waits has an option
abbrev pub asks : Offered → ℤ → ℕ → Bool
asks offered clock p = nat_lt 0 (length (options offered clock p))

-- why it has: it sends to another one, or a delay is due
pub data MayGo (offered : Offered) (clock : ℤ) (p : ℕ) : Type 0 where
  meets : (a channel q b : ℕ) → offer_in (held offered p) a ≡ Some (Send channel) → q ≢ p → offer_in (held offered q) b ≡ Some (Receive channel) → MayGo offered clock p
  wakes : (a : ℕ) (due : ℤ) → offer_in (held offered p) a ≡ Some (Delay due) → int_lt clock due ≡ false → MayGo offered clock p

-- marks, with what is told of each of these parties' instances in place of what was
abbrev pub told_all : (ℕ → Bool) → List Party → List Bool → List Bool
told_all told [] marks = marks
told_all told (party ∷ parties) marks = told_all told parties (slice_set marks party.pid (told party.pid))

-- of those that send on the channels from which these offers receive
abbrev pub told_by : (ℕ → Bool) → Offered → Offer → List Bool → List Bool
told_by told offered (Receive channel) marks = told_all told (senders_on offered channel) marks
told_by told offered (Send channel) marks = marks
told_by told offered (Delay due) marks = marks

abbrev pub told_for : (ℕ → Bool) → Offered → List Offer → List Bool → List Bool
told_for told offered [] marks = marks
told_for told offered (offer ∷ offers) marks = told_for told offered offers (told_by told offered offer marks)

abbrev pub is_among : ℕ → List Party → Bool
is_among p [] = false
is_among p (party ∷ parties) = nat_eq party.pid p || is_among p parties

-- an instance sends on a channel from which one of these offers receives
abbrev pub is_met_by : Offered → ℕ → Offer → Bool
is_met_by offered p (Receive channel) = is_among p (senders_on offered channel)
is_met_by offered p (Send channel) = false
is_met_by offered p (Delay due) = false

abbrev pub is_met : Offered → ℕ → List Offer → Bool
is_met offered p [] = false
is_met offered p (offer ∷ offers) = is_met_by offered p offer || is_met offered p offers

-- numbers of instances that there is room for
abbrev pub AreWithin : ℕ → List Party → Type 0
AreWithin room parties = (k : ℕ) (party : Party) → slice_get parties k ≡ Some party → party.pid < room

abbrev pub AllWithin : ℕ → Offered → Type 0
AllWithin room offered = (channel : ℕ) → AreWithin room (senders_on offered channel)
