-- Sound expressions: of what kind the value of each is, where the slots have kinds and some of them count as set.
use Rattle.std.specs.Prelude.{◌≡◌, ℕ, zero, suc, ◌<◌, ℤ, pos, Bool, true, false, Some, List, [], ◌∷◌, ◌++◌, map, length, slice_get, IsTrue}
use Rattle.chi_types.specs.declared.ty.Ty.{Ty, Ty-F, out-Ty}
use Rattle.chi_types.specs.Plain.{is_plain}
use Rattle.chi_value.specs.declared.format.Kind.TheVariants as build
use Rattle.chi_value.specs.declared.shape.Shape.{Shape, out-Shape}
use Rattle.chi_value.specs.declared.value.Value.{Value, Value-F, out-Value}
use Rattle.chi_value.specs.declared.value.Value.TheVariants as value
use Rattle.chi_value.specs.Names.{name_at}
use Rattle.chi_dist.specs.Draws.{stream_count}
use Rattle.chi_core.specs.declared.expression.CExpr.{CExpr, CExpr-F, out-CExpr}
use Rattle.chi_core.specs.declared.expression.CExpr.TheVariants as expression
use Rattle.chi_core.specs.declared.op_name.OpName.{OpName}
use Rattle.chi_core.specs.declared.program.ConstDef.{ConstDef}
use Rattle.chi_core.specs.declared.program.FuncDef.{FuncDef}
use Rattle.chi_core.specs.Kinds.{Kind, kind_of, tuple_of}
use Rattle.chi_core.specs.Of.{IsShort}
use Rattle.chi_core.specs.OperatorKinds.{OpKind, has_stream, ShapeKind}
use Rattle.chi_core.specs.Scopes.{Scope, may_read, may_call, may_apply, may_make, params_of}
use Rattle.chi_core.specs.SetSlots.{Known}

-- A literal is a bool, an int, a real, a short enough string, or an enumeration value with a name.
pub data LiteralKind (names : List (List (List ℕ))) : Value-F Value → Kind → Type 0 where
  bool : (b : Bool) → LiteralKind names (Value-F.Bool b) Ty-F.Bool
  int : (n : ℤ) → LiteralKind names (Value-F.Int n) Ty-F.Int
  real : (units : ℤ) → LiteralKind names (Value-F.Real units) Ty-F.Real
  text : (bytes : List ℕ) → IsShort bytes → LiteralKind names (Value-F.Text bytes) Ty-F.Text
  choice : (enumeration position : ℕ) (name : List ℕ) → name_at names enumeration position ≡ Some name
      → LiteralKind names (Value-F.Choice enumeration position) (Ty-F.Choice enumeration)

-- the literal of a stream
abbrev pub stream_operand : ℕ → CExpr
stream_operand stream = expression.Lit (value.Int (pos stream))

-- so many entries, each a key and what it has
abbrev pub entry_kinds : ℕ → Kind → Kind → List Kind
entry_kinds zero key has = []
entry_kinds (suc more) key has = key ∷ has ∷ entry_kinds more key has

mutual
  pub data HasKind (scope : Scope) (known : Known) : CExpr-F CExpr → Kind → Type 0 where
    literal : (v : Value) (T : Kind) → LiteralKind scope.core.names.kinds (out-Value v) T → HasKind scope known (CExpr-F.Lit v) T
    -- a slot is read where it counts as set
    variable : (slot : ℕ) (T : Kind) → IsTrue (known slot) → slice_get scope.slots slot ≡ Some T → HasKind scope known (CExpr-F.Var slot) T
    -- a constant is there, and before the constant that reads it
    constant : (number : ℕ) (c : ConstDef) → slice_get scope.core.consts number ≡ Some c → IsTrue (may_read scope.role number)
        → HasKind scope known (CExpr-F.Const number) (kind_of c.ty)
    -- the operands are those of a row of the operator table
    operation : (name : OpName) (es : List CExpr) (Ts : List Kind) (T : Kind) → OpKind name Ts T → has_stream name ≡ false → IsTrue (may_apply scope.role name Ts)
        → HaveKinds scope known es Ts → HasKind scope known (CExpr-F.Op name es) T
    -- and a distribution that draws has its stream for one more operand
    distribution : (name : OpName) (es operands : List CExpr) (Ts : List Kind) (T : Kind) (stream : ℕ) → es ≡ operands ++ stream_operand stream ∷ [] → OpKind name Ts T → has_stream name ≡ true
        → HaveKinds scope known operands Ts → stream < stream_count → HasKind scope known (CExpr-F.Op name es) T
    both : (a b : CExpr) → HasKind scope known (out-CExpr a) Ty-F.Bool → HasKind scope known (out-CExpr b) Ty-F.Bool → HasKind scope known (CExpr-F.And a b) Ty-F.Bool
    either : (a b : CExpr) → HasKind scope known (out-CExpr a) Ty-F.Bool → HasKind scope known (out-CExpr b) Ty-F.Bool → HasKind scope known (CExpr-F.Or a b) Ty-F.Bool
    tuple_literal : (es : List CExpr) (ts : List Ty) → HaveKinds scope known es (map out-Ty ts) → HasKind scope known (CExpr-F.Build build.TupleOf es) (tuple_of ts)
    list_literal : (es : List CExpr) (t : Ty) → HaveKinds scope known es (map (λ e. out-Ty t) es) → HasKind scope known (CExpr-F.Build build.ListOf es) (Ty-F.ListOf t)
    -- the elements of a set are plain, and so are the keys of a dictionary
    set_literal : (es : List CExpr) (t : Ty) → IsTrue (is_plain t) → HaveKinds scope known es (map (λ e. out-Ty t) es) → HasKind scope known (CExpr-F.Build build.SetOf es) (Ty-F.SetOf t)
    dictionary_literal : (es : List CExpr) (key has : Ty) (entries : ℕ) → IsTrue (is_plain key) → HaveKinds scope known es (entry_kinds entries (out-Ty key) (out-Ty has))
        → HasKind scope known (CExpr-F.Build build.DictOf es) (Ty-F.DictOf key has)
    -- the tuple has a part of this number
    part : (e : CExpr) (number : ℕ) (parts : List (List ℕ × Ty)) (p : List ℕ × Ty) → HasKind scope known (out-CExpr e) (Ty-F.TupleOf parts) → slice_get parts number ≡ Some p
        → HasKind scope known (CExpr-F.Part e number) (out-Ty p.1)
    -- a function is there, and gets an argument for each of its parameters
    call : (number : ℕ) (es : List CExpr) (f : FuncDef) → slice_get scope.core.funcs number ≡ Some f → IsTrue (may_call scope.role) → HaveKinds scope known es (params_of f)
        → HasKind scope known (CExpr-F.Call number es) (kind_of f.result)
    -- the function that tells the place of a new element takes two elements and gives a bool
    insertion : (xs x : CExpr) (number : ℕ) (t : Ty) (f : FuncDef) → slice_get scope.core.funcs number ≡ Some f → IsTrue (may_call scope.role)
        → params_of f ≡ out-Ty t ∷ out-Ty t ∷ [] → kind_of f.result ≡ Ty-F.Bool → HasKind scope known (out-CExpr xs) (Ty-F.ListOf t) → HasKind scope known (out-CExpr x) (out-Ty t)
        → HasKind scope known (CExpr-F.InsertBy xs x number) (Ty-F.ListOf t)
    fresh_default : (shape : Shape) (T : Kind) → ShapeKind (length scope.core.names.kinds) (out-Shape shape) T → IsTrue (may_make scope.role shape)
        → HasKind scope known (CExpr-F.Default shape) T
    repetition : (count each : CExpr) (t : Ty) → HasKind scope known (out-CExpr count) Ty-F.Int → HasKind scope known (out-CExpr each) (out-Ty t)
        → HasKind scope known (CExpr-F.Repeat count each) (Ty-F.ListOf t)

  -- as many expressions as kinds, each of its kind
  pub data HaveKinds (scope : Scope) (known : Known) : List CExpr → List Kind → Type 0 where
    no_expression : HaveKinds scope known [] []
    one_expression : (e : CExpr) (es : List CExpr) (T : Kind) (Ts : List Kind) → HasKind scope known (out-CExpr e) T → HaveKinds scope known es Ts
        → HaveKinds scope known (e ∷ es) (T ∷ Ts)
