-- Whether an instance that stands somewhere is at its end. Private to proofs.
use Rattle.std.specs.Prelude.{ℕ, [], Bool, true, false}
use Rattle.chi_exec_law.specs.State.{Frame, frame_of}
use Rattle.chi_machine_laws.specs.Instances.{Held, Running, Finished}

abbrev pub held_so : Bool → ℕ → Frame → ℕ → Held
held_so true definition frame place = record { definition = definition; at = place; frame = frame_of [] []; standing = Finished }
held_so false definition frame place = record { definition = definition; at = place; frame = frame; standing = Running }
