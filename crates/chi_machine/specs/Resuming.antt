-- When an instance that waits or joins goes on. Private to proofs.
use Rattle.std.specs.Prelude.{◌≡◌, ℕ, List, Option, Some, slice_get}
use Rattle.chi_value.specs.declared.value.Value.{Value}
use Rattle.chi_code.specs.declared.code.Code.{Code}
use Rattle.chi_exec_law.specs.Runs.{Rests, Reaches}
use Rattle.chi_machine_laws.specs.Instances.{Kept, Waiting, Joining, Held}
use Rattle.chi_machine_laws.specs.Labels.{Resumed, jumps}
use Rattle.chi_machine_runs.specs.Resuming.{slot_by}

-- An instance waits, and its offer of a number may be taken, with what is received.
pub record MayResume (code : Code) (held : List Held) (p a : ℕ) (x : Option Value) : Type 0 where
  pub h : Held
  pub there : slice_get held p ≡ Some h
  pub offers : List Kept
  pub waits : h.standing ≡ Waiting offers
  pub kept : Kept
  pub offered : slice_get offers a ≡ Some kept
  pub next : Held
  pub resumes : Resumed code h kept (slot_by kept.act) x next

-- An instance joins, and where it stands leads through jumps to a place.
pub record MayGoOn (code : Code) (held : List Held) (p : ℕ) : Type 0 where
  pub h : Held
  pub there : slice_get held p ≡ Some h
  pub numbers : List ℕ
  pub joins : h.standing ≡ Joining numbers
  pub place : ℕ
  pub settles : Reaches (jumps code.instrs) h.at (Rests place)
