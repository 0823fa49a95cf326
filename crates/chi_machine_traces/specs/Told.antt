-- A run of a program's code that a policy picks, and what is told of it.
use Rattle.std.specs.Prelude.{◌≡◌, ℕ, List, ◌++◌, Option, Some, slice_get}
use Rattle.chi_value.specs.declared.value.Value.{Value}
use Rattle.chi_core.specs.declared.label.Label.{Label}
use Rattle.chi_core.specs.declared.program.Core.{Core}
use Rattle.chi_core.specs.declared.program.ProcDef.{ProcDef}
use Rattle.chi_core.specs.Beginning.{Beginning}
use Rattle.chi_core.specs.Kinds.{kinds_of}
use Rattle.chi_core.specs.Of.{at_start, AreOf}
use Rattle.chi_core.specs.Picks.{Pick, Picked}
use Rattle.chi_core.specs.Runs.{Told}
use Rattle.chi_core.specs.Sound.{Sound}
use Rattle.chi_code.specs.declared.code.Code.{Code}
use Rattle.chi_code.specs.Codes.{Codes}
use Rattle.chi_trace.specs.declared.filter.Filter.{Filter}
use Rattle.chi_trace_events.specs.Traces.{IsLogged}
use Rattle.chi_machine_traces.specs.declared.run.Ran.{Ran}

-- it is the code of a sound program, whose model takes these arguments
pub record RunsCode (core : Core) (code : Code) (arguments : List Value) : Type 0 where
  pub codes : Codes core code
  pub sound : Sound core
  pub model_takes : (d : ProcDef) → slice_get core.procs core.model ≡ Some d → AreOf (at_start core.names.kinds) arguments (kinds_of d.params)

-- what is told of a run with these labels: of its output this was passed on before, and the rest is kept
abbrev pub told_with : List Label → List ℕ → Ran → Told
told_with labels passed ran = record { labels = labels; ending = ran.ending; output = passed ++ ran.told.out.items }

-- from this beginning the policy picks a run that ended and wrote so, and that is logged of it
pub record IsTold (trace : Option Filter) (core : Core) (beginning : Beginning) (pick : Pick) (bound : ℕ) (passed : List ℕ) (ran : Ran) : Type 0 where
  pub labels : List Label
  pub picked : Picked core beginning pick bound (told_with labels passed ran)
  pub logged : IsLogged trace core beginning bound (told_with labels passed ran) ran.told.log.items
