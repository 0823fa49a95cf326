-- An instance that stands before an instruction, or behind all of them.
use Rattle.std.proofs.Common.{◌≡◌, ℕ, Some, None, Bool, false, ap, ◌∙◌}
use Rattle.std.specs.Prelude.{slice_get}
use Rattle.chi_code.specs.declared.code.Code.{Code}
use Rattle.chi_code.specs.declared.instr.Instr.{Instr}
use Rattle.chi_exec_law.specs.State.{Frame}
use Rattle.chi_machine_laws.specs.Deeds.{held_by, held_there}
use Rattle.chi_machine.specs.Ends.{held_so}

pub ends_there : (code : Code) (at : ℕ) (x : Instr) (b : Bool) → slice_get code.instrs at ≡ Some x → ((definition : ℕ) (frame : Frame) (place : ℕ) → held_by definition frame place (Some x) ≡ held_so b definition frame place)
    → (definition : ℕ) (frame : Frame) → held_there code definition frame at ≡ held_so b definition frame at
ends_there code at x b e h definition frame = ap (held_by definition frame at) e ∙ h definition frame at

pub ends_past : (code : Code) (at : ℕ) → slice_get code.instrs at ≡ None → (definition : ℕ) (frame : Frame) → held_there code definition frame at ≡ held_so false definition frame at
ends_past code at e definition frame = ap (held_by definition frame at) e

pub ruleset ending = (ends_there, ends_past)
