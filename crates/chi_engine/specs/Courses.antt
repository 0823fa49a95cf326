-- What comes of a program's run with its settings: as the meaning has it, or as an engine does.
use Rattle.std.specs.Prelude.{◌≡◌, ◌↔◌, ℕ, ◌^◌, ◌<◌, List, Option, Some, slice_get}
use Rattle.chi_core.specs.declared.label.Label.{Label}
use Rattle.chi_core.specs.declared.program.Core.{Core}
use Rattle.chi_core.specs.declared.program.ProcDef.{ProcDef}
use Rattle.chi_core.specs.Beginning.{Beginning, start}
use Rattle.chi_core.specs.Kinds.{kinds_of}
use Rattle.chi_core.specs.Of.{at_start, AreOf}
use Rattle.chi_core.specs.Options.{Ending}
use Rattle.chi_core.specs.Picks.{IsLawful, Pick, Picked}
use Rattle.chi_core.specs.Runs.{Told}
use Rattle.chi_core.specs.Sound.{Sound}
use Rattle.chi_trace.specs.declared.filter.Filter.{Filter}
use Rattle.chi_trace_events.specs.Traces.{IsLogged}
use Rattle.chi_engine.specs.Settings.{Settings}

-- Settings with which a program may be run: the arguments are of the kinds of its model's parameters, the policy picks
-- one of the choices that there are, and the bound is within what is counted.
pub record MayHave (core : Core) (s : Settings) : Type 0 where
  pub model : ProcDef
  pub is : slice_get core.procs core.model ≡ Some model
  pub arguments : AreOf (at_start core.names.kinds) s.arguments (kinds_of model.params)
  pub lawful : IsLawful s.pick
  pub bound : s.bound < 2 ^ 63

-- what is told of a run: what it wrote, what is logged of it before its verdict, and how and when it ended
pub record Course : Type 0 where
  pub output : List ℕ
  pub log : List ℕ
  pub ending : Ending

-- what comes of the run of a program with its settings
abbrev pub Runs : Type 1
Runs = Core → Settings → Course → Type 0

-- one thing alone
abbrev pub ComesToOne : Runs → Type 0
ComesToOne runs = (core : Core) (s : Settings) (course other : Course) → runs core s course → runs core s other → course ≡ other

-- something, where the program is sound and may have its settings
abbrev pub ComesToSome : Runs → Type 0
ComesToSome runs = (core : Core) → Sound core → (s : Settings) → MayHave core s → (course : Course) × runs core s course

-- the same comes of each run by both
abbrev pub AreAlike : Runs → Runs → Type 0
AreAlike runs others = (core : Core) (s : Settings) (course : Course) → runs core s course ↔ others core s course

-- a run with these labels, of which that is told
abbrev pub told_with : List Label → Course → Told
told_with labels course = record { labels = labels; ending = course.ending; output = course.output }

-- from this beginning, the policy picks a run with these labels, and that is logged of it
pub record IsCourse (trace : Option Filter) (core : Core) (beginning : Beginning) (pick : Pick) (bound : ℕ) (course : Course) : Type 0 where
  pub labels : List Label
  pub picked : Picked core beginning pick bound (told_with labels course)
  pub logged : IsLogged trace core beginning bound (told_with labels course) course.log

-- the run of the program that the policy picks
abbrev pub IsRunOf : Runs
IsRunOf core s course = IsCourse s.trace core (start core s.arguments s.seed s.until) s.pick s.bound course
