-- Seats of instances, and entries of a slab in which their offers stand.
use Rattle.std.specs.Prelude.{◌≡◌, ℕ, ◌<◌, ◌≤◌, List, Option, None, Bool, false, length, get_or, map, IsSome, if◌then◌else◌}
use Rattle.chi_chan.specs.declared.offers.Offer.{Offer}
use Rattle.chi_chan.specs.declared.seats.Seat.{Seat}
use Rattle.chi_chan.specs.Held.{Offered}

-- what is kept of the instance of a seat
abbrev pub seated : List (Option (List Offer)) → Seat → Option (List Offer)
seated slots seat = if seat.waits then get_or slots seat.key None else None

-- and of the instances of all seats
unfoldable pub seen : List (Option (List Offer)) → List Seat → Offered
seen slots seats = map (seated slots) seats

abbrev pub seat : ℕ → Bool → Seat
seat key waits = record { key = key; waits = waits }

-- the seat of an instance that never waited
abbrev pub nobody : Seat
nobody = record { key = 0; waits = false }

abbrev pub key_of : List Seat → ℕ → ℕ
key_of seats pid = (get_or seats pid nobody).key

-- each seat has an entry of its own
pub record Seated (slots : List (Option (List Offer))) (seats : List Seat) : Type 0 where
  pub few : length seats ≤ 100000
  pub some : (pid : ℕ) → pid < length seats → IsSome (get_or slots (key_of seats pid) None)
  pub own : (pid other : ℕ) → pid < length seats → other < length seats → key_of seats pid ≡ key_of seats other → pid ≡ other
