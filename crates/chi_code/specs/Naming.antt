-- What an instruction names is there: a slot is one of so many, a constant, function or process is one of the program's,
-- and a literal can be written.
use Rattle.std.specs.Prelude.{ℕ, ◌<◌, Option, Some, None, List, [], ◌∷◌, length, IsTrue}
use Rattle.chi_value.specs.Plain.{is_plain, within}
use Rattle.chi_core.specs.declared.program.Core.{Core}
use Rattle.chi_code.specs.declared.instr.Aim.{Aim}
use Rattle.chi_code.specs.declared.instr.Instr.{Instr}
use Rattle.chi_code.specs.declared.instr.Instr.TheVariants as i

-- each of these slots is one of so many
abbrev pub SlotsWithin : ℕ → List ℕ → Type 0
SlotsWithin count [] = Unit {0}
SlotsWithin count (slot ∷ slots) = (slot < count) × SlotsWithin count slots

-- and so is the slot of each target
abbrev pub AimsWithin : ℕ → List Aim → Type 0
AimsWithin count [] = Unit {0}
AimsWithin count (a ∷ more) = (a.slot < count) × AimsWithin count more

-- or of a target that may be there
abbrev pub AimWithin : ℕ → Option Aim → Type 0
AimWithin count None = Unit {0}
AimWithin count (Some a) = a.slot < count

-- in a program, where there are so many slots
abbrev pub Named : Core → ℕ → Instr → Type 0
Named core count (i.Push v) = IsTrue (is_plain v) × IsTrue (within core.names.kinds v)
Named core count (i.Load slot) = slot < count
Named core count (i.Const number) = number < length core.consts
Named core count (i.SetConst number line) = number < length core.consts
Named core count (i.Call number) = number < length core.funcs
Named core count (i.Store slot) = slot < count
Named core count (i.Assign aims) = AimsWithin count aims
Named core count (i.Next goal slots) = SlotsWithin count slots
Named core count (i.Send body slots) = SlotsWithin count slots
Named core count (i.SendVoid body slots) = SlotsWithin count slots
Named core count (i.Receive body slot slots) = (slot < count) × SlotsWithin count slots
Named core count (i.ReceiveVoid body slots) = SlotsWithin count slots
Named core count (i.Delay body slots) = SlotsWithin count slots
Named core count (i.Timer body slots) = SlotsWithin count slots
Named core count (i.Make number target) = (number < length core.procs) × AimWithin count target
Named core count _ = Unit {0}
