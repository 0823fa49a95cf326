-- What holds of the machine between two labels.
use Rattle.std.specs.Prelude.{◌≡◌, ◌≢◌, ℕ, ◌<◌, ◌≤◌, List, Option, Some, None, length, map, slice_get}
use Rattle.chi_core.specs.declared.limits.TheConstants.{MOST_INSTANCES}
use Rattle.chi_chan_laws.specs.Agreement.{offered_by}
use Rattle.chi_code.specs.declared.code.Code.{Code}
use Rattle.chi_exec.specs.Hints.{AreRight}
use Rattle.chi_machine_laws.specs.Instances.{Held}
use Rattle.chi_machine_laws.specs.Stands.{Pairwise}
use Rattle.chi_machine_runs.specs.declared.made.Room.{Room}
use Rattle.chi_machine_agenda.specs.Phases.{Phase, Running, Waiting, Joining, Finished}
use Rattle.chi_machine.specs.declared.instance.Instance.{Instance}
use Rattle.chi_machine.specs.declared.crowd.Crowd.{Crowd}
use Rattle.chi_machine.specs.declared.world.World.{World}
use Rattle.chi_machine.specs.Views.{instances_of}

-- An instance has a room until it has finished; and the offers in that of one that waits are those that others see.
abbrev pub RoomFits : Phase → Option Room → Type 0
RoomFits Running None = ⊥
RoomFits Running (Some room) = Unit {0}
RoomFits (Waiting seen) None = ⊥
RoomFits (Waiting seen) (Some room) = seen ≡ map (λ k. offered_by k.act) room.opened
RoomFits (Joining numbers) None = ⊥
RoomFits (Joining numbers) (Some room) = Unit {0}
RoomFits Finished None = Unit {0}
RoomFits Finished (Some room) = ⊥

abbrev pub Fits : Instance → Phase → Type 0
Fits i phase = RoomFits phase i.room

pub record IsCrowd (c : Crowd) : Type 0 where
  pub fits : Pairwise Fits c.instances.items c.agenda.phases
  pub few : length c.instances.items ≤ MOST_INSTANCES

pub record IsWorld (code : Code) (w : World) : Type 0 where
  pub hints : AreRight w.hints.items code.instrs
  pub crowd : IsCrowd w.crowd

-- these are the instances now, and the time and the stopping time are as they were
pub record Becomes (old new : Crowd) (all : List Held) : Type 0 where
  pub clock : new.agenda.clock ≡ old.agenda.clock
  pub until : new.agenda.until ≡ old.agenda.until
  pub held : instances_of new ≡ all

-- the other instances, and what is known of each, are as they were
pub record OthersStay (old new : Crowd) (p : ℕ) : Type 0 where
  pub instances : (q : ℕ) → q ≢ p → slice_get new.instances.items q ≡ slice_get old.instances.items q
  pub phases : (q : ℕ) → q ≢ p → slice_get new.agenda.phases q ≡ slice_get old.agenda.phases q

-- those that were there before are as they were
pub record FirstStay (old new : Crowd) : Type 0 where
  pub instances : (q : ℕ) → q < length old.instances.items → slice_get new.instances.items q ≡ slice_get old.instances.items q
  pub phases : (q : ℕ) → q < length old.instances.items → slice_get new.agenda.phases q ≡ slice_get old.agenda.phases q
