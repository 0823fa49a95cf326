-- A run of one instance of the machine. Private to proofs.
use Rattle.std.specs.Prelude.{◌≡◌, ℕ, ◌<◌, ◌++◌, List, Some, length, slice_get, slice_set}
use Rattle.chi_core.specs.declared.verdict.Verdict.TheVariants.{Fault}
use Rattle.chi_core_frame.specs.declared.stop.Stop.{Stop}
use Rattle.chi_core_frame.specs.declared.stop.Stop.TheVariants as stop
use Rattle.chi_code.specs.declared.code.Code.{Code}
use Rattle.chi_code.specs.declared.instr.Instr.TheVariants as instr
use Rattle.chi_exec_law.specs.Runs.{Halts}
use Rattle.chi_machine_laws.specs.Instances as law
use Rattle.chi_machine_laws.specs.Instances.{Held, Whole}
use Rattle.chi_machine_laws.specs.Deeds.{nothing, moves}
use Rattle.chi_machine_laws.specs.Labels.{within_at, view_at, going, name_at}
use Rattle.chi_machine_agenda.specs.Phases.{Running}
use Rattle.chi_machine_runs.specs.declared.doing.Doing.{Doing}
use Rattle.chi_machine_runs.specs.Views.{brought_of, Ran}
use Rattle.chi_machine.specs.declared.crowd.Crowd.{Crowd}
use Rattle.chi_machine.specs.declared.instance.Instance.{Instance}
use Rattle.chi_machine.specs.declared.taken.Taken.{Taken}
use Rattle.chi_machine.specs.declared.taken.Taken.TheVariants.{On, Over, Spent}
use Rattle.chi_machine.specs.declared.world.World.{World}
use Rattle.chi_machine.specs.Crowds.{IsWorld}
use Rattle.chi_machine.specs.Views.{frame_at, offers_at, held_of, whole_of, state_with}

-- an instance runs, and its run within a step ends
pub record MayRun (code : Code) (m : Whole) (p left : ℕ) : Type 0 where
  pub h : Held
  pub there : slice_get m.instances p ≡ Some h
  pub runs : h.standing ≡ law.Running
  pub within : h.at < length code.instrs
  pub halts : Halts (moves (within_at code m)) (going h (view_at m left), nothing)

-- It has run, and stands as ever, with another frame.
pub record HasRun (code : Code) (m : Whole) (p left : ℕ) (w : World) (doing : Doing) : Type 0 where
  pub h : Held
  pub there : slice_get m.instances p ≡ Some h
  pub i : Instance
  pub is : slice_get w.crowd.instances.items p ≡ Some i
  pub runs : slice_get w.crowd.agenda.phases p ≡ Some Running
  pub process : i.process ≡ h.definition
  pub at : i.at ≡ h.at
  pub ran : Ran doing (within_at code m) (going h (view_at m left), nothing) (state_with (frame_at i.room) w.exec) (brought_of code (offers_at i.room) w.brought) w.brought w.exec.stop
  pub whole : whole_of w ≡ record m { instances = slice_set m.instances p (held_of i Running); draws = w.exec.view.draws; channels = w.exec.view.channels }

-- Instance p stands before its turn, whose line it tells; and its process has a name.
pub record FaultsAt (code : Code) (c : Crowd) (p : ℕ) : Type 0 where
  pub i : Instance
  pub is : slice_get c.instances.items p ≡ Some i
  pub line : ℕ
  pub marks : slice_get code.instrs i.at ≡ Some (instr.Mark line)
  pub name : List ℕ
  pub named : name_at code i.process ≡ Some name

-- what becomes of the run where an instance stopped, unless memory was wanting
abbrev pub StopsAs : Code → Crowd → ℕ → Stop → Taken → Type 0
StopsAs code c p (stop.Fault kind) taken = (r : FaultsAt code c p) → taken ≡ Over (Fault kind r.name r.line)
StopsAs code c p stop.Spent taken = taken ≡ Spent
StopsAs code c p stop.NoMemory taken = ⊥

-- It rests, with so much left of the bound: these are the instances now, and what was written comes behind the rest.
pub record HasRested (code : Code) (old new : World) (held : List Held) (before after : List ℕ) (how : Taken) : Type 0 where
  pub taken : how ≡ On old.exec.view.left
  pub kept : IsWorld code new
  pub whole : whole_of new ≡ record (whole_of old) { instances = held }
  pub text : after ≡ before ++ old.brought.text.items
