-- A call that begins. Private to proofs.
use Rattle.std.specs.Prelude.{ℕ, ◌+◌, ◌∷◌, reverse}
use Rattle.chi_exec_law.specs.State.{State, state}
use Rattle.chi_exec_steps.specs.declared.machinery.Frame.{Frame}
use Rattle.chi_exec_steps.specs.declared.machinery.Machine.{Machine}
use Rattle.chi_exec_steps.specs.Views.{frame_in, callers_of}

-- the machine within a body that begins at a place with this frame, while that of the machine waits
abbrev pub called : ℕ → Frame → Machine → State
called entry frame m =
    state entry (reverse m.stack.items) (frame_in frame) (record { back = m.at + 1; frame = frame_in m.frame.value } ∷ callers_of m.callers.items) m.view
