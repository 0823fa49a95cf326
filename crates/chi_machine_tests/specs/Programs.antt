-- What helpers of the tests tell of a program, its code and its constants. Private to proofs.
use Rattle.std.specs.Prelude.{◌≡◌, ℕ, ◌<◌, Some, List, [], ◌++◌, length, slice_get}
use Rattle.std.specs.Option.{IsSomeAnd}
use Rattle.chi_value.specs.declared.value.Value.{Value}
use Rattle.chi_core.specs.declared.expression.CExpr.{CExpr, out-CExpr}
use Rattle.chi_core.specs.declared.program.ConstDef.{ConstDef}
use Rattle.chi_core.specs.declared.program.Core.{Core}
use Rattle.chi_core.specs.declared.program.FuncDef.{FuncDef}
use Rattle.chi_core.specs.Kinds.{Kind, kind_of}
use Rattle.chi_core.specs.Of.{nowhere, IsOf}
use Rattle.chi_core.specs.Scopes.{function_home}
use Rattle.chi_core.specs.SetSlots.{params_known}
use Rattle.chi_core.specs.Sound.{Sound}
use Rattle.chi_core.specs.SoundExpressions.{HasKind}
use Rattle.chi_code.specs.declared.code.Code.{Code}
use Rattle.chi_code.specs.declared.instr.Instr.TheVariants as i
use Rattle.chi_code.specs.Codes.{Codes, ConstsAt}
use Rattle.chi_code.specs.ExpressionLayout.{Has, ExprAt}

-- a sound program with its code
pub record HasCode (core : Core) (code : Code) : Type 0 where
  pub sound : Sound core
  pub codes : Codes core code

-- the constant of a number, if it is there, is set, and has a value of its kind
abbrev pub KindedAt : Core → List Value → ℕ → Type 0
KindedAt core values number = (c : ConstDef) → slice_get core.consts number ≡ Some c → IsSomeAnd (slice_get values number) (IsOf (nowhere core.names.kinds) (kind_of c.ty))

abbrev pub AllKinded : Core → List Value → Type 0
AllKinded core values = (number : ℕ) → KindedAt core values number

-- the constants before these have values of their kinds, and the code of these begins at a place
pub record StandAt (core : Core) (code : Code) (values : List Value) (at : ℕ) : Type 0 where
  pub before : List ConstDef
  pub rest : List ConstDef
  pub whole : core.consts ≡ before ++ rest
  pub count : length values ≡ length before
  pub kinded : (number : ℕ) → number < length values → KindedAt core values number
  pub upto : ℕ
  pub laid : ConstsAt code.instrs (length values) rest at upto

-- the code of an expression begins at a place, which a function returns that has no variables
pub record IsValueAt (core : Core) (code : Code) (at : ℕ) : Type 0 where
  pub f : FuncDef
  pub none : f.slots ≡ []
  pub e : CExpr
  pub kind : Kind
  pub is : HasKind (function_home core f).scope (params_known (function_home core f)) (out-CExpr e) kind
  pub upto : ℕ
  pub laid : ExprAt code.instrs (out-CExpr e) at upto
  pub ends : Has code.instrs upto i.Ret
