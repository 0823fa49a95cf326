-- What the machine's own values stand for.
use Rattle.std.specs.Prelude.{List, [], ◌∷◌, Option, Some, None, reverse}
use Rattle.chi_exec_steps.specs.declared.machinery.Machine.{Machine}
use Rattle.chi_exec_steps.specs.Views.{frame_in, callers_of}
use Rattle.chi_exec_law.specs.State.{Frame, State, state, frame_of}
use Rattle.chi_machine_laws.specs.Instances as law
use Rattle.chi_machine_laws.specs.Instances.{Kept, Standing, Held, Whole}
use Rattle.chi_machine_runs.specs.declared.made.Room.{Room}
use Rattle.chi_machine_agenda.specs.Phases.{Phase, Running, Waiting, Joining, Finished}
use Rattle.chi_machine.specs.declared.instance.Instance.{Instance}
use Rattle.chi_machine.specs.declared.crowd.Crowd.{Crowd}
use Rattle.chi_machine.specs.declared.world.World.{World}

-- what an instance has in its room; one that has finished has none
abbrev pub frame_at : Option Room → Frame
frame_at None = frame_of [] []
frame_at (Some room) = frame_in room.frame.value

abbrev pub offers_at : Option Room → List Kept
offers_at None = []
offers_at (Some room) = room.opened

-- one that waits has its offers in its room
abbrev pub standing_of : Phase → List Kept → Standing
standing_of Running offers = law.Running
standing_of (Waiting seen) offers = law.Waiting offers
standing_of (Joining numbers) offers = law.Joining numbers
standing_of Finished offers = law.Finished

abbrev pub held_of : Instance → Phase → Held
held_of i phase = record { definition = i.process; at = i.at; frame = frame_at i.room; standing = standing_of phase (offers_at i.room) }

-- each instance, with what is known of it beside
abbrev pub all_held : List Instance → List Phase → List Held
all_held [] phases = []
all_held (i ∷ is) [] = []
all_held (i ∷ is) (phase ∷ phases) = held_of i phase ∷ all_held is phases

abbrev pub instances_of : Crowd → List Held
instances_of c = all_held c.instances.items c.agenda.phases

abbrev pub whole_of : World → Whole
whole_of w = record {
  clock = w.crowd.agenda.clock;
  draws = w.exec.view.draws;
  channels = w.exec.view.channels;
  instances = instances_of w.crowd;
  seed = w.seed;
  until = w.crowd.agenda.until;
  constants = w.constants.items;
}

-- where the machine of expressions and functions stands, with this frame in place of its own
abbrev pub state_with : Frame → Machine → State
state_with frame m = state m.at (reverse m.stack.items) frame (callers_of m.callers.items) m.view
