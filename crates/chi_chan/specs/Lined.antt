-- Lines of parties, one for each channel, in ascending order.
use Rattle.std.specs.Prelude.{◌≡◌, ◌≢◌, ◌⊎◌, ℕ, zero, suc, ◌+◌, ◌*◌, ◌<◌, ◌≤◌, List, [], ◌∷◌, get_or, nat_eq, if◌then◌else◌}
use Rattle.chi_chan.specs.declared.offers.Party.{Party}

-- parties are ordered by instance and then by alternative, as these numbers are
abbrev pub code : Party → ℕ
code party = party.pid * 65536 + party.alternative

abbrev pub IsParty : Party → Type 0
IsParty party = (party.pid < 100000) × (party.alternative < 65536)

-- what stands past the end of a line
abbrev pub nobody_here : Party
nobody_here = record { pid = 0; alternative = 0 }

-- ascending parties, of numbers from n on
abbrev pub Ascends : ℕ → List Party → Type 0
Ascends n [] = Unit {0}
Ascends n (first ∷ rest) = (n ≤ code first) × IsParty first × Ascends (suc (code first)) rest

-- a party is among them
abbrev pub Has : List Party → Party → Type 0
Has [] party = ⊥
Has (first ∷ rest) party = (first ≡ party) ⊎ Has rest party

-- those of other instances
abbrev pub without : ℕ → List Party → List Party
without pid [] = []
without pid (first ∷ rest) = if nat_eq first.pid pid then without pid rest else first ∷ without pid rest

-- so many of them are before a number
abbrev pub IsPlace : List Party → ℕ → ℕ → Type 0
IsPlace [] key place = place ≡ 0
IsPlace (first ∷ rest) key zero = key ≤ code first
IsPlace (first ∷ rest) key (suc place) = (code first < key) × IsPlace rest key place

-- the line of a channel
abbrev pub line : List (List Party) → ℕ → List Party
line lines channel = get_or lines channel []

abbrev pub AllAscend : List (List Party) → Type 0
AllAscend lines = (channel : ℕ) → Ascends 0 (line lines channel)

abbrev pub SameLines : List (List Party) → List (List Party) → Type 0
SameLines old new = (channel : ℕ) → line new channel ≡ line old channel

-- one party more stands in the line of a channel, and no other anywhere
pub record Adds (old new : List (List Party)) (channel : ℕ) (party : Party) : Type 0 where
  pub there : Has (line new channel) party
  pub stays : (d : ℕ) (x : Party) → Has (line old d) x → Has (line new d) x
  pub only : (d : ℕ) (x : Party) → Has (line new d) x → Has (line old d) x ⊎ ((d ≡ channel) × (x ≡ party))

-- the parties of an instance leave the line of a channel, and those of others stay everywhere
pub record Leaves (old new : List (List Party)) (channel pid : ℕ) : Type 0 where
  pub gone : (x : Party) → Has (line new channel) x → x.pid ≢ pid
  pub stays : (d : ℕ) (x : Party) → x.pid ≢ pid → Has (line old d) x → Has (line new d) x
  pub only : (d : ℕ) (x : Party) → Has (line new d) x → Has (line old d) x
