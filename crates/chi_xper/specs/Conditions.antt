-- What a runner gives to the experiments of a program.
use Rattle.std.specs.Prelude.{◌≡◌, ◌≢◌, ℕ, List, Some, slice_get, IsTrue}
use Rattle.std.specs.List.{list_all}
use Rattle.chi_value.specs.declared.value.Value.{Value}
use Rattle.chi_core.specs.declared.program.Core.{Core}
use Rattle.chi_core.specs.declared.program.ProcDef.{ProcDef}
use Rattle.chi_core.specs.Kinds.{Kind, Every, kinds_of, is_plain_kind}
use Rattle.chi_core.specs.Of.{nowhere, IsOf, AreOf}
use Rattle.chi_core.specs.Scopes.{exit_of}
use Rattle.chi_xper.specs.Experiments.{Amiss, Outcomes, Told, exit_value}

-- A model of the program, with an exit type and parameters of plain types, and arguments of these types.
pub record MayRun (core : Core) (number : ℕ) (exit : Kind) (arguments : List Value) : Type 0 where
  pub d : ProcDef
  pub is : slice_get core.procs number ≡ Some d
  pub exits : exit_of d ≡ Some exit
  pub plain : IsTrue (list_all is_plain_kind (kinds_of d.params))
  pub fit : AreOf (nowhere core.names.kinds) arguments (kinds_of d.params)

-- each such model is allowed with all such arguments
abbrev pub AllowsAll : Core → (ℕ → List Value → Type 0) → Type 0
AllowsAll core allows = (number : ℕ) (exit : Kind) (arguments : List Value) → MayRun core number exit arguments → allows number arguments

-- and where such a run exits with a value, that is of the model's exit type
abbrev pub ExitsFit : Core → Outcomes → Type 0
ExitsFit core outcomes =
    (number : ℕ) (exit : Kind) (arguments : List Value) → MayRun core number exit arguments → (seed : ℕ) (v : Value)
    → exit_value (outcomes number arguments seed).verdict ≡ Some v → IsOf (nowhere core.names.kinds) exit v

-- nothing is amiss, and each run that is made may be made
pub record IsFine (allows : ℕ → List Value → Type 0) (told : Told) : Type 0 where
  pub well : told.end ≢ Amiss
  pub allowed : Every (λ made. allows made.model made.arguments) told.runs
