-- Private to proofs: what an agenda keeps, part by part.
use Rattle.std.specs.Prelude.{◌≡◌, ℕ, suc, ◌≤◌, ℤ, Bool, true, false, nat_eq, List, [], ◌∷◌, Option, Some, None, IsSome, length, get_or, map, option_map, slice_get}
use Rattle.chi_chan.specs.declared.offers.Offer.{Offer}
use Rattle.chi_chan.specs.Held.{Offered, held}
use Rattle.chi_chan.specs.Kept.{offers_or}
use Rattle.chi_order.specs.Dated.{due_of}
use Rattle.chi_order.specs.Marked.{is_marked}
use Rattle.chi_machine_agenda.specs.declared.standing.Standing.{Standing}
use Rattle.chi_machine_agenda.specs.declared.standing.Standing.TheVariants as stands
use Rattle.chi_machine_agenda.specs.Phases.{Phase, Running, Waiting, Joining, Finished}
use Rattle.chi_machine_agenda.specs.Asking.{asks}
use Rattle.chi_machine_agenda.specs.Joined.{numbers_at, AreAhead, Watches}
use Rattle.chi_machine_agenda.specs.Timed.{Awaits}

-- phases

abbrev pub phase_by : Standing → Option (List Offer) → List ℕ → Phase
phase_by stands.Running offers numbers = Running
phase_by stands.Waiting offers numbers = Waiting (offers_or offers)
phase_by stands.Joining offers numbers = Joining numbers
phase_by stands.Finished offers numbers = Finished

abbrev pub phase_at : List Standing → Offered → List (List ℕ) → ℕ → Option Phase
phase_at standings offered numbers p = option_map (λ s. phase_by s (held offered p) (numbers_at numbers p)) (slice_get standings p)

abbrev pub phases_from : ℕ → List Standing → Offered → List (List ℕ) → List Phase
phases_from p [] offered numbers = []
phases_from p (standing ∷ standings) offered numbers =
    phase_by standing (held offered p) (numbers_at numbers p) ∷ phases_from (suc p) standings offered numbers

-- standings

abbrev pub is_finished : Standing → Bool
is_finished stands.Running = false
is_finished stands.Waiting = false
is_finished stands.Joining = false
is_finished stands.Finished = true

abbrev pub is_waiting : Standing → Bool
is_waiting stands.Running = false
is_waiting stands.Waiting = true
is_waiting stands.Joining = false
is_waiting stands.Finished = false

-- exactly those that wait with offers have some in the waiting lists
abbrev pub IsSeated : Option Standing → Option (List Offer) → Type 0
IsSeated None offers = offers ≡ None
IsSeated (Some stands.Running) offers = offers ≡ None
IsSeated (Some stands.Waiting) offers = IsSome offers
IsSeated (Some stands.Joining) offers = offers ≡ None
IsSeated (Some stands.Finished) offers = offers ≡ None

-- whether an instance has an option; one that joins has, where none of its numbers is left to wait for
abbrev pub goes : Offered → ℤ → List ℕ → ℕ → Option Standing → Bool
goes offered clock left p None = false
goes offered clock left p (Some stands.Running) = true
goes offered clock left p (Some stands.Waiting) = asks offered clock p
goes offered clock left p (Some stands.Joining) = nat_eq (get_or left p 0) 0
goes offered clock left p (Some stands.Finished) = false

abbrev pub IsJoined : List Bool → List (List ℕ) → List ℕ → List (List ℕ) → ℕ → Option Standing → Type 0
IsJoined finished numbers left watchers p None = get_or left p 0 ≡ 0
IsJoined finished numbers left watchers p (Some stands.Running) = get_or left p 0 ≡ 0
IsJoined finished numbers left watchers p (Some stands.Waiting) = get_or left p 0 ≡ 0
IsJoined finished numbers left watchers p (Some stands.Joining) = Watches finished numbers left watchers p
IsJoined finished numbers left watchers p (Some stands.Finished) = get_or left p 0 ≡ 0

-- the whole

-- there is room for each of so many
pub record HasRoom (count : ℕ) (marks : List Bool) (times : List (Option ℤ)) (rows : List (List ℕ)) (counts : List ℕ) (watching : List (List ℕ)) : Type 0 where
  pub few : count ≤ 100000
  pub ready : count ≤ length marks
  pub dues : count ≤ length times
  pub numbers : count ≤ length rows
  pub left : count ≤ length counts
  pub watchers : count ≤ length watching

pub record IsKept (clock : ℤ) (standings : List Standing) (finished : List Bool) (offered : Offered) (marks : List Bool) (times : List (Option ℤ))
    (rows : List (List ℕ)) (counts : List ℕ) (watching : List (List ℕ)) : Type 0 where
  pub over : finished ≡ map is_finished standings
  pub room : HasRoom (length standings) marks times rows counts watching
  pub seated : (p : ℕ) → IsSeated (slice_get standings p) (held offered p)
  pub ready : (p : ℕ) → is_marked marks p ≡ goes offered clock counts p (slice_get standings p)
  pub due : (p : ℕ) → Awaits clock (held offered p) (due_of times p)
  pub ahead : AreAhead (length standings) rows counts
  pub joined : (p : ℕ) → IsJoined finished rows counts watching p (slice_get standings p)
