-- What the checker knows of the visible names, and when that agrees with the program.
use Rattle.std.specs.Prelude.{◌≡◌, ℕ, Bool, true, not, Option, Some, List, [], ◌∷◌, slice_get, IsTrue}
use Rattle.chi_types.specs.declared.ty.Ty.{Ty, Ty-F}
use Rattle.chi_value.specs.Names.{name_at}
use Rattle.chi_core.specs.declared.expression.CExpr.{CExpr, out-CExpr}
use Rattle.chi_core.specs.declared.program.ConstDef.{ConstDef}
use Rattle.chi_core.specs.declared.program.FuncDef.{FuncDef}
use Rattle.chi_core.specs.declared.program.ProcDef.{ProcDef}
use Rattle.chi_core.specs.Kinds.{Kind, kind_of, kinds_of, holds_channel}
use Rattle.chi_core.specs.Scopes.{Role, constant, function, process, Scope, params_of, may_read}
use Rattle.chi_core.specs.SetSlots.{Known as Set}
use Rattle.chi_core.specs.Sound.{SoundIn}
use Rattle.chi_core.specs.SoundExpressions.{HasKind}
use Rattle.chi_check_types.specs.declared.known.Known.{Known}
use Rattle.chi_check_types.specs.declared.known.Known.TheVariants as known
use Rattle.chi_check_types.specs.declared.meant.Made.{Made}
use Rattle.chi_check_types.specs.declared.meant.Meant.{Meant}
use Rattle.chi_check_types.specs.declared.site.Site.{Site}
use Rattle.chi_check_types.specs.declared.site.Site.TheVariants as site
use Rattle.chi_check_types.specs.Names.{Names, known_in}
use Rattle.chi_check.specs.Below.chi_check_streams.specs.Streams.{of_expression}
use Rattle.chi_check_laws.specs.TypedTexts.{texts_are_short}

-- a site is that of a definition; the expressions of an experiment are those of a function
abbrev pub IsSite : Site → Role → Type 0
IsSite site.Constant (constant number) = Unit {0}
IsSite site.Function (function result) = Unit {0}
IsSite site.Process (process exit) = Unit {0}
IsSite site.Experiment (function result) = Unit {0}
IsSite _ _ = ⊥

-- a slot that counts as set has this type
pub record SlotStands (scope : Scope) (set : Set) (slot : ℕ) (t : Ty) : Type 0 where
  pub counts : IsTrue (set slot)
  pub is : slice_get scope.slots slot ≡ Some (kind_of t)
  pub ty : SoundIn scope.core t

-- a constant that may be read has this type
pub record ConstantStands (scope : Scope) (number : ℕ) (t : Ty) : Type 0 where
  pub c : ConstDef
  pub is : slice_get scope.core.consts number ≡ Some c
  pub read : IsTrue (may_read scope.role number)
  pub typed : c.ty ≡ t
  pub ty : SoundIn scope.core t

-- a function has these parameters and this result
pub record FunctionStands (scope : Scope) (number : ℕ) (params : List Ty) (result : Ty) : Type 0 where
  pub f : FuncDef
  pub is : slice_get scope.core.funcs number ≡ Some f
  pub takes : params_of f ≡ kinds_of params
  pub gives : f.result ≡ result
  pub ty : SoundIn scope.core result

-- a process or a model has these parameters and this type of exits' values
pub record ProcessStands (scope : Scope) (number : ℕ) (params : List Ty) (exit : Option Ty) : Type 0 where
  pub d : ProcDef
  pub is : slice_get scope.core.procs number ≡ Some d
  pub takes : d.params ≡ params
  pub exits : d.exit ≡ exit

-- an enumeration has a value at this position
pub record ValueStands (scope : Scope) (enumeration position : ℕ) : Type 0 where
  pub name : List ℕ
  pub is : name_at scope.core.names.kinds enumeration position ≡ Some name

-- what is known of a name agrees with the program; a name without a type agrees with none
abbrev pub Stands : Scope → Set → Known → Type 0
Stands scope set (known.Var slot t) = SlotStands scope set slot t
Stands scope set (known.Fixed slot t) = SlotStands scope set slot t
Stands scope set (known.Const number t) = ConstantStands scope number t
Stands scope set (known.Kind t) = SoundIn scope.core t
Stands scope set (known.Value enumeration position) = ValueStands scope enumeration position
Stands scope set (known.Func number params result) = FunctionStands scope number params result
Stands scope set (known.Proc number params exit) = ProcessStands scope number params exit
Stands scope set (known.Model number params exit) = ProcessStands scope number params exit
Stands scope set (known.Xper number) = Unit {0}
Stands scope set (known.Untyped kind) = ⊥

-- and so of all visible names
abbrev pub AllStand : Scope → Set → Names → Type 0
AllStand scope set names = (name : List ℕ) (k : Known) → known_in names name ≡ Some k → Stands scope set k

-- An expression is of a kind with its streams, however many calls come before it; its text literals are short.
abbrev pub Has : Scope → Set → CExpr → Kind → Type 0
Has scope set e T = IsTrue (texts_are_short e) → (count : ℕ) → HasKind scope set (out-CExpr (of_expression e count).part) T

-- what is made is of its type, which is sound
pub record SoundMade (scope : Scope) (set : Set) (m : Made) : Type 0 where
  pub kind : Has scope set m.core (kind_of m.ty)
  pub ty : SoundIn scope.core m.ty

-- the sizes of a type are ints
abbrev pub Sizes : Scope → Set → List CExpr → Type 0
Sizes scope set [] = Unit {0}
Sizes scope set (e ∷ es) = Has scope set e Ty-F.Int × Sizes scope set es

-- what a type means is sound
pub record SoundMeant (scope : Scope) (set : Set) (m : Meant) : Type 0 where
  pub ty : SoundIn scope.core m.ty
  pub sizes : Sizes scope set m.sizes

-- only a process may hold the default of what has a channel in it
abbrev pub may_make_default : Role → Kind → Bool
may_make_default (constant number) T = not (holds_channel T)
may_make_default (function result) T = not (holds_channel T)
may_make_default (process exit) T = true
