-- What each instance waits for, at a time: all that says which of them may act, and no code and no values.
use Rattle.std.specs.Prelude.{◌≡◌, ℕ, ◌<◌, ℤ, Bool, true, false, List, [], ◌∷◌, ◌++◌, Option, Some, None, map, slice_get, slice_set}
use Rattle.chi_chan.specs.declared.offers.Offer.{Offer}

-- an instance runs, or waits with offers, or waits until instances of these numbers have finished, or has finished
pub data Phase : Type 0 where
  Running : Phase
  Waiting : List Offer → Phase
  Joining : List ℕ → Phase
  Finished : Phase

-- the time, the stopping time if there is one, and the phase of each instance
pub record Agenda : Type 0 where
  pub clock : ℤ
  pub until : Option ℤ
  pub phases : List Phase

-- instance p is in this phase, and all else is as before
abbrev pub with_phase : Agenda → ℕ → Phase → Agenda
with_phase agenda p phase = record agenda { phases = slice_set agenda.phases p phase }

-- one instance more, which runs
abbrev pub with_more : Agenda → Agenda
with_more agenda = record agenda { phases = agenda.phases ++ Running ∷ [] }

-- the time has gone on to a due time, if there is one
abbrev pub reached : Agenda → Option ℤ → Agenda
reached agenda None = agenda
reached agenda (Some t) = record agenda { clock = t }

abbrev pub is_over : Phase → Bool
is_over Running = false
is_over (Waiting offers) = false
is_over (Joining numbers) = false
is_over Finished = true

-- for each instance, whether it has finished
abbrev pub are_over : List Phase → List Bool
are_over phases = map is_over phases

-- there is an instance, and it waits with offers
abbrev pub waits : Option Phase → Bool
waits None = false
waits (Some Running) = false
waits (Some (Waiting offers)) = true
waits (Some (Joining numbers)) = false
waits (Some Finished) = false

-- there is an instance, and it waits until others have finished
abbrev pub IsJoining : Option Phase → Type 0
IsJoining None = ⊥
IsJoining (Some Running) = ⊥
IsJoining (Some (Waiting offers)) = ⊥
IsJoining (Some (Joining numbers)) = Unit {0}
IsJoining (Some Finished) = ⊥

-- there are instances of these numbers
abbrev pub AreThere : ℕ → List ℕ → Type 0
AreThere count numbers = (k q : ℕ) → slice_get numbers k ≡ Some q → q < count
