-- When a checked program is sound: each value is of the kind that its place wants, what is read was set before, and
-- each number names something.
use Rattle.std.specs.Prelude.{◌≡◌, ℕ, ◌<◌, ◌≤◌, false, Option, Some, None, List, ◌++◌, length, slice_get}
use Rattle.chi_token.specs.declared.token.Token.TheVariants.{Name}
use Rattle.chi_token.specs.Tokens.{token_spelled_by}
use Rattle.chi_types.specs.declared.ty.Ty.{Ty, out-Ty}
use Rattle.chi_core.specs.declared.expression.CExpr.{out-CExpr}
use Rattle.chi_core.specs.declared.program.ConstDef.{ConstDef}
use Rattle.chi_core.specs.declared.experiment.XperDef.{XperDef}
use Rattle.chi_core.specs.declared.program.Core.{Core}
use Rattle.chi_core.specs.declared.program.FuncDef.{FuncDef}
use Rattle.chi_core.specs.declared.program.ProcDef.{ProcDef}
use Rattle.chi_core.specs.Kinds.{kind_of, Every}
use Rattle.chi_core.specs.Fills.{UnwindsOwn, by_body}
use Rattle.chi_core.specs.Scopes.{Home, constant_scope, function_home, process_home, experiment_scope}
use Rattle.chi_core.specs.SetSlots.{Known, params_known}
use Rattle.chi_core.specs.SoundExperiments.{SoundXBlock}
use Rattle.chi_core.specs.SoundExpressions.{HasKind}
use Rattle.chi_core.specs.SoundStatements.{SoundBlock}
use Rattle.chi_core.specs.SoundTypes.{SoundType}

-- the bytes are a name of the language, and no keyword
abbrev pub IsName : List ℕ → Type 0
IsName bytes = token_spelled_by bytes ≡ Some (Name bytes)

-- a type is sound in a program
abbrev pub SoundIn : Core → Ty → Type 0
SoundIn core t = SoundType (length core.names.kinds) (out-Ty t)

abbrev pub SoundIfAny : Core → Option Ty → Type 0
SoundIfAny core None = Unit {0}
SoundIfAny core (Some t) = SoundIn core t

abbrev pub nothing_known : Known
nothing_known slot = false

-- a body is sound where the parameters are set, outside of any loop
pub record SoundHome (d : Home) : Type 0 where
  pub body : SoundBlock d.scope false (params_known d) d.body
  pub unwinds : UnwindsOwn (length d.params) (by_body d.body)

-- a constant has a value of its type, in which no slot is read and no later constant
pub record SoundConstant (core : Core) (number : ℕ) (c : ConstDef) : Type 0 where
  pub ty : SoundIn core c.ty
  pub value : HasKind (constant_scope core number) nothing_known (out-CExpr c.value) (kind_of c.ty)

-- a function's parameters are its first slots, as many as its arity
pub record SoundFunction (core : Core) (f : FuncDef) : Type 0 where
  pub name : IsName f.name
  pub result : SoundIn core f.result
  pub slots : Every (SoundIn core) f.slots
  pub arity : f.arity ≤ length f.slots
  pub home : SoundHome (function_home core f)

-- a process's parameters are its first slots, with their types in order
pub record SoundProcess (core : Core) (d : ProcDef) : Type 0 where
  pub name : IsName d.name
  pub exit : SoundIfAny core d.exit
  pub slots : Every (SoundIn core) d.slots
  pub params : (others : List Ty) × (d.slots ≡ d.params ++ others)
  pub home : SoundHome (process_home core d)

-- an experiment is sound as a function's body is, but that it may write and run models
pub record SoundExperiment (core : Core) (x : XperDef) : Type 0 where
  pub name : IsName x.name
  pub slots : Every (SoundIn core) x.slots
  pub body : SoundXBlock (experiment_scope core x) false nothing_known x.body

-- an enumeration has at least one value, and each is called by a name
pub record SoundEnumeration (names : List (List ℕ)) : Type 0 where
  pub values : 0 < length names
  pub named : Every IsName names

pub record Sound (core : Core) : Type 0 where
  pub enumerations : Every SoundEnumeration core.names.kinds
  pub constants : (number : ℕ) (c : ConstDef) → slice_get core.consts number ≡ Some c → SoundConstant core number c
  pub functions : Every (SoundFunction core) core.funcs
  pub processes : Every (SoundProcess core) core.procs
  pub experiments : Every (SoundExperiment core) core.xpers
  -- the model that is run is there
  pub model : (d : ProcDef) × (slice_get core.procs core.model ≡ Some d)
