-- Lists of instances: for each channel those that communicate on it, and for each instance those that wait for it.
use Rattle.std.specs.Prelude.{◌≡◌, ℕ, ◌%◌, List, [], Option, None, Some, length, slice_get, get_or, Contains}
use Rattle.chi_core.specs.declared.act.Act.{Act}
use Rattle.chi_core.specs.declared.act.Act.TheVariants.{Send, Receive, Delay}
use Rattle.chi_core.specs.Config.{Instance, Offer, State, Running, Waiting, Joining, Finished, offers_in}
use Rattle.chi_plain_options.specs.declared.parties.Parties.{Parties}

-- whoever is in the one is in the other
abbrev pub Keeps : List ℕ → List ℕ → Type 0
Keeps old new = (q : ℕ) → Contains old q → Contains new q

-- the list of a number, of a channel or of an instance; numbers share lists
abbrev pub listed_at : List (List ℕ) → ℕ → List ℕ
listed_at lists number = get_or lists (number % length lists) []

-- nobody is in the list of any number
abbrev pub NobodyListed : List (List ℕ) → Type 0
NobodyListed lists = (number : ℕ) → listed_at lists number ≡ []

abbrev pub KeepsLists : List (List ℕ) → List (List ℕ) → Type 0
KeepsLists old new = (number : ℕ) → Keeps (listed_at old number) (listed_at new number)

-- parties: those that send on channels and those that receive from them, now or before
pub record KeepsParties (old new : Parties) : Type 0 where
  pub senders : KeepsLists old.senders new.senders
  pub receivers : KeepsLists old.receivers new.receivers

-- nobody is listed as one who sends or receives
pub record NobodyCommunicates (parties : Parties) : Type 0 where
  pub senders : NobodyListed parties.senders
  pub receivers : NobodyListed parties.receivers

-- instance p is in the list of the channel on which it communicates by an offer
abbrev pub IsPartyBy : Parties → ℕ → Act → Type 0
IsPartyBy parties p (Send channel x) = Contains (listed_at parties.senders channel) p
IsPartyBy parties p (Receive channel slot) = Contains (listed_at parties.receivers channel) p
IsPartyBy parties p (Delay due) = Unit {0}

abbrev pub IsPartyIn : Parties → ℕ → List Offer → Type 0
IsPartyIn parties p offers = (a : ℕ) (o : Offer) → slice_get offers a ≡ Some o → IsPartyBy parties p o.act

abbrev pub IsParty : Parties → ℕ → Option Instance → Type 0
IsParty parties p None = Unit {0}
IsParty parties p (Some i) = IsPartyIn parties p (offers_in i.state)

abbrev pub AllParties : Parties → List Instance → Type 0
AllParties parties instances = (p : ℕ) → IsParty parties p (slice_get instances p)

-- joiners: those that wait for an instance, now or before, in the list of its number

-- the instances for which one waits
abbrev pub waited_in : State → List ℕ
waited_in Running = []
waited_in (Waiting offers) = []
waited_in (Joining numbers) = numbers
waited_in Finished = []

-- instance p is in the list of each of these
abbrev pub IsListedFor : List (List ℕ) → ℕ → List ℕ → Type 0
IsListedFor joiners p waited = (r : ℕ) → Contains waited r → Contains (listed_at joiners r) p

abbrev pub IsJoiner : List (List ℕ) → ℕ → Option Instance → Type 0
IsJoiner joiners p None = Unit {0}
IsJoiner joiners p (Some i) = IsListedFor joiners p (waited_in i.state)

abbrev pub AllJoiners : List (List ℕ) → List Instance → Type 0
AllJoiners joiners instances = (p : ℕ) → IsJoiner joiners p (slice_get instances p)
