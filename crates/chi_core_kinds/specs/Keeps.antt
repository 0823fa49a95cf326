-- A sound program begins in a kinded configuration, and each step of an enabled label leads from one to another.
use Rattle.std.specs.Prelude.{◌≡◌, ℕ, ◌≤◌, ℤ, Option, Some, List, length, slice_get, IsTrue, Contains}
use Rattle.chi_value.specs.declared.text.limit.TheConstants.{MOST_TEXT}
use Rattle.chi_value.specs.declared.value.Value.{Value}
use Rattle.chi_value.specs.Plain.{is_plain, within}
use Rattle.chi_value.specs.Text.{quoted_text}
use Rattle.chi_core.specs.declared.program.Core.{Core}
use Rattle.chi_core.specs.declared.program.ProcDef.{ProcDef}
use Rattle.chi_core.specs.declared.label.Label.{Label}
use Rattle.chi_core.specs.declared.verdict.Verdict.{Verdict}
use Rattle.chi_core.specs.declared.verdict.Verdict.TheVariants.{Exit}
use Rattle.chi_core.specs.Beginning as beginning
use Rattle.chi_core.specs.Beginning.{Beginning, Begins, Breaks, start}
use Rattle.chi_core.specs.Config.{Config}
use Rattle.chi_core.specs.Kinded.{Kinded}
use Rattle.chi_core.specs.Kinds.{kinds_of}
use Rattle.chi_core.specs.Of.{World, Wider, at_start, AreOf}
use Rattle.chi_core.specs.Options.{enabled}
use Rattle.chi_core.specs.Step as outcome
use Rattle.chi_core.specs.Step.{Outcome, Next, Over, step}

-- the value of an exit can be told: it is plain, its enumeration values have names, and its quoted text isn't too long
pub record CanBeTold (core : Core) (v : Value) : Type 0 where
  pub plain : IsTrue (is_plain v)
  pub named : IsTrue (within core.names.kinds v)
  pub short : length (quoted_text core.names.kinds v) ≤ MOST_TEXT

-- a verdict can be told
abbrev pub SoundVerdict : Core → Verdict → Type 0
SoundVerdict core (Exit (Some v)) = CanBeTold core v
SoundVerdict core _ = Unit {0}

-- what a step comes to: a kinded configuration, a verdict that can be told, or that it costs too much
abbrev pub GoesKinded : Core → Outcome → Type 0
GoesKinded core (Next config text left) = Kinded core config
GoesKinded core (Over verdict) = SoundVerdict core verdict
GoesKinded core outcome.Spent = Unit {0}
GoesKinded core outcome.Amiss = ⊥

-- where a step goes on, what each channel carries is as it was, and only channels are new
abbrev pub GoesWider : Core → World → Outcome → Type 0
GoesWider core w (Next config text left) = (later : Kinded core config) × Wider w later.world
GoesWider core w (Over verdict) = Unit {0}
GoesWider core w outcome.Spent = Unit {0}
GoesWider core w outcome.Amiss = ⊥

-- how a run begins: in a kinded configuration, or a fault in a constant ends it
abbrev pub BeginsKinded : Core → Beginning → Type 0
BeginsKinded core (Begins config) = Kinded core config
BeginsKinded core (Breaks ending) = Unit {0}
BeginsKinded core beginning.Amiss = ⊥

-- each run of a core with arguments of the model's kinds begins well
abbrev pub BeginsAlways : Core → Type 0
BeginsAlways core =
    (d : ProcDef) → slice_get core.procs core.model ≡ Some d → (arguments : List Value) → AreOf (at_start core.names.kinds) arguments (kinds_of d.params)
    → (seed : ℕ) (until : Option ℤ) → BeginsKinded core (start core arguments seed until)

-- each step of an enabled label in a kinded configuration of a core goes well
abbrev pub KeepsKinded : Core → Type 0
KeepsKinded core =
    (config : Config) → Kinded core config → (label : Label) → Contains (enabled config) label → (left : ℕ)
    → GoesKinded core (step core config label left)

-- each step of an enabled label in a kinded configuration of a core that goes on keeps what the channels carry
abbrev pub KeepsCarried : Core → Type 0
KeepsCarried core =
    (config : Config) → (kinded : Kinded core config) → (label : Label) → Contains (enabled config) label → (left : ℕ)
    → GoesWider core kinded.world (step core config label left)
