-- A run of a program's code, call by call.
use Rattle.std.specs.Prelude.{◌≡◌, ℕ, ◌<◌, ◌^◌, ℤ, List, [], Option, Some, None, slice_get}
use Rattle.chi_value.specs.declared.value.Value.{Value}
use Rattle.chi_core.specs.declared.program.Core.{Core}
use Rattle.chi_core.specs.declared.program.ProcDef.{ProcDef}
use Rattle.chi_core.specs.declared.verdict.Verdict.{Verdict}
use Rattle.chi_core.specs.Kinds.{kinds_of}
use Rattle.chi_core.specs.Of.{at_start, AreOf}
use Rattle.chi_core.specs.Picks.{Pick}
use Rattle.chi_core.specs.Sound.{Sound}
use Rattle.chi_code.specs.declared.code.Code.{Code}
use Rattle.chi_code.specs.Codes.{Codes}
use Rattle.chi_machine_laws.specs.Beginning.{Begins, Ready, Broken}
use Rattle.chi_machine_laws.specs.Turns as reached
use Rattle.chi_machine.specs.declared.course.Course.{Course}
use Rattle.chi_machine.specs.declared.machine.After.{After}
use Rattle.chi_machine.specs.declared.machine.After.TheVariants as after
use Rattle.chi_machine.specs.declared.machine.Machine.{Machine}
use Rattle.chi_machine.specs.declared.machine.Machine.TheVariants.{Going, Ended, Lost}
use Rattle.chi_machine.specs.Courses.{IsCourse, advanced, HasGone}
use Rattle.chi_machine.specs.Views.{whole_of}

-- The code is that of a sound program, whose model takes these arguments.
pub record MayBegin (code : Code) (arguments : List Value) (bound : ℕ) : Type 0 where
  pub core : Core
  pub codes : Codes core code
  pub sound : Sound core
  pub model_takes : (d : ProcDef) → slice_get core.procs core.model ≡ Some d → AreOf (at_start core.names.kinds) arguments (kinds_of d.params)
  pub bounded : bound < 2 ^ 63

-- while it goes on it is a run of a sound program's code
abbrev pub IsMachine : Code → Machine → Type 0
IsMachine code (Going course) = IsCourse code course
IsMachine code (Ended end) = Unit {0}
IsMachine code Lost = Unit {0}

-- it starts as the laws say, at turn 0 with all of its bound, or a fault in a constant has ended it
abbrev pub StartsSo : Code → List Value → ℕ → Option ℤ → ℕ → Machine → Type 0
StartsSo code arguments seed until bound (Going course) =
    Begins code arguments seed until 0 [] (Ready (whole_of course.world)) × (course.turn ≡ 0) × (course.left ≡ bound) × IsCourse code course
StartsSo code arguments seed until bound (Ended end) = Begins code arguments seed until 0 [] (Broken end)
StartsSo code arguments seed until bound Lost = ⊥

-- so many turns lead on or to the end; or memory was wanting, and not more than so many labels were taken
abbrev pub CallsOn : Code → Pick → ℕ → Course → Machine → List ℕ → After → Type 0
CallsOn code pick turns old (Going new) text after.Going = advanced code pick turns old text (reached.Going new.turn (whole_of new.world) new.left)
CallsOn code pick turns old (Ended end) text after.Ended = advanced code pick turns old text (reached.Ended end)
CallsOn code pick turns old Lost text after.NoMemory = HasGone code pick turns old text
CallsOn code pick turns old new text a = ⊥

-- what a call comes to: nothing more, where the run has ended or memory was wanting
abbrev pub CallsTo : Code → Pick → ℕ → Machine → Machine → List ℕ → After → Type 0
CallsTo code pick turns (Going old) new text a = CallsOn code pick turns old new text a
CallsTo code pick turns (Ended end) new text a = (a ≡ after.Ended) × (new ≡ Ended end) × (text ≡ [])
CallsTo code pick turns Lost new text a = (a ≡ after.NoMemory) × (new ≡ Lost) × (text ≡ [])

abbrev pub verdict_at : Machine → Option Verdict
verdict_at (Going course) = None
verdict_at (Ended end) = Some end.verdict
verdict_at Lost = None

-- the time: that of the ending, where there is one
abbrev pub clock_at : Machine → Option ℤ
clock_at (Going course) = Some course.world.crowd.agenda.clock
clock_at (Ended end) = Some end.clock
clock_at Lost = None
