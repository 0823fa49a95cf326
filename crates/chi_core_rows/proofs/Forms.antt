-- What a sound statement or expression of one form says of its parts.
use Rattle.std.proofs.Common.{◌≡◌, ℕ, pos, Bool, true, false, Some, None, List, [], ◌∷◌, ◌++◌, map, refl, sym, subst, ◌∙◌, ◌<◌}
use Rattle.std.proofs.lemmas.Bool.{false≢true}
use Rattle.std.specs.Prelude.{slice_get, codes, IsTrue, length}
use Rattle.chi_types.specs.declared.ty.Ty.{Ty, Ty-F, out-Ty}
use Rattle.chi_types.specs.Plain.{is_plain}
use Rattle.chi_value.specs.declared.format.Kind.TheVariants as build
use Rattle.chi_value.specs.declared.shape.Shape.{Shape, out-Shape}
use Rattle.chi_value.specs.declared.value.Value.{Value, Value-F, out-Value}
use Rattle.chi_value.specs.declared.value.Value.TheVariants as value
use Rattle.chi_dist.specs.Draws.{stream_count}
use Rattle.chi_core.specs.declared.expression.CExpr.{CExpr, CExpr-F, out-CExpr}
use Rattle.chi_core.specs.declared.expression.CExpr.TheVariants as e
use Rattle.chi_core.specs.declared.op_name.OpName.{OpName}
use Rattle.chi_core.specs.declared.program.Core.{Core}
use Rattle.chi_core.specs.declared.program.FuncDef.{FuncDef}
use Rattle.chi_core.specs.declared.program.ProcDef.{ProcDef}
use Rattle.chi_core.specs.declared.statement.CStat.{CStat, CStat-F, out-CStat}
use Rattle.chi_core.specs.Kinds.{Kind, tuple_of}
use Rattle.chi_core.specs.OperatorKinds.{OpKind, has_stream, ShapeKind}
use Rattle.chi_core.specs.Scopes.{Scope, may_apply, may_read, may_make, process_home}
use Rattle.chi_core.specs.SetSlots.{StatLayer, Known}
use Rattle.chi_core.specs.SoundExpressions.{HasKind, fresh_default, tuple_literal, list_literal, set_literal, literal, variable, constant, operation, distribution, part, call, HaveKinds, no_expression, one_expression, LiteralKind, bool, int as int_literal, stream_operand}
use Rattle.chi_core.specs.SoundStatements.{SoundStat, declares, returns, SoundBlock, one_statement}

abbrev pub int : ℕ → CExpr
int n = e.Lit (value.Int (pos n))

-- a model with a body and these slots, and a program that is this model alone

abbrev pub model_with : List Ty → List CStat → ProcDef
model_with slots body = record { name = codes "M"; params = []; exit = None; slots = slots; body = body }

abbrev pub alone : ProcDef → Core
alone d = record { consts = []; funcs = []; procs = d ∷ []; model = 0; names = record { kinds = [] }; xpers = [] }

abbrev pub scope_in : Core → ProcDef → Scope
scope_in core d = (process_home core d).scope

module _ (scope : Scope) (known : Known) where
  pub first_statement : (loop : Bool) (x : CStat) (xs : List CStat) (layer : StatLayer) → out-CStat x ≡ layer → SoundBlock scope loop known (x ∷ xs) → SoundStat scope loop known layer
  first_statement loop x xs layer out h = subst (SoundStat scope loop known) out (it h)
    where
      it : SoundBlock scope loop known (x ∷ xs) → SoundStat scope loop known (out-CStat x)
      it (one_statement _ _ _ _ first rest) = first

  pub declared : (loop : Bool) (line slot : ℕ) (x : CExpr) → SoundStat scope loop known (CStat-F.Declare line slot x) → (T : Kind) × (slice_get scope.slots slot ≡ Some T) × HasKind scope known (out-CExpr x) T
  declared loop line slot x (declares _ _ _ _ _ T is may h) = (T, is, h)

  pub literal_kind : (v : Value) (layer : Value-F Value) (T : Kind) → out-Value v ≡ layer → HasKind scope known (out-CExpr (e.Lit v)) T → LiteralKind scope.core.names.kinds layer T
  literal_kind v layer T out h = it (subst (λ z. HasKind scope known z T) (e.outs-Lit v) h)
    where
      it : HasKind scope known (CExpr-F.Lit v) T → LiteralKind scope.core.names.kinds layer T
      it (literal _ _ is) = subst (λ z. LiteralKind scope.core.names.kinds z T) out is

  pub int_is : (n : ℕ) (T : Kind) → HasKind scope known (out-CExpr (int n)) T → T ≡ Ty-F.Int
  int_is n T h = it T (literal_kind (value.Int (pos n)) (Value-F.Int (pos n)) T (value.outs-Int (pos n)) h)
    where
      it : (T : Kind) → LiteralKind scope.core.names.kinds (Value-F.Int (pos n)) T → T ≡ Ty-F.Int
      it _ (int_literal _) = refl

  pub bool_is : (b : Bool) (T : Kind) → HasKind scope known (out-CExpr (e.Lit (value.Bool b))) T → T ≡ Ty-F.Bool
  bool_is b T h = it T (literal_kind (value.Bool b) (Value-F.Bool b) T (value.outs-Bool b) h)
    where
      it : (T : Kind) → LiteralKind scope.core.names.kinds (Value-F.Bool b) T → T ≡ Ty-F.Bool
      it _ (bool _) = refl

  -- the row of an operator
  pub row_of : (name : OpName) (es : List CExpr) (T : Kind) → has_stream name ≡ false → HasKind scope known (out-CExpr (e.Op name es)) T
      → (Ts : List Kind) × OpKind name Ts T × IsTrue (may_apply scope.role name Ts) × HaveKinds scope known es Ts
  row_of name es T quiet h = it (subst (λ z. HasKind scope known z T) (e.outs-Op name es) h)
    where
      it : HasKind scope known (CExpr-F.Op name es) T → (Ts : List Kind) × OpKind name Ts T × IsTrue (may_apply scope.role name Ts) × HaveKinds scope known es Ts
      it (operation _ _ Ts _ row stream may have) = (Ts, row, may, have)
      it (distribution _ _ operands Ts _ stream is row draws have below) = absurd (false≢true (sym quiet ∙ draws))

  pub two_of : (a b : CExpr) (Ts : List Kind) → HaveKinds scope known (a ∷ b ∷ []) Ts → (T : Kind) × (U : Kind) × HasKind scope known (out-CExpr a) T × HasKind scope known (out-CExpr b) U × (Ts ≡ T ∷ U ∷ [])
  two_of a b _ (one_expression _ _ T _ h (one_expression _ _ U _ l no_expression)) = (T, U, h, l, refl)

  pub one_of : (a : CExpr) (Ts : List Kind) → HaveKinds scope known (a ∷ []) Ts → (T : Kind) × HasKind scope known (out-CExpr a) T × (Ts ≡ T ∷ [])
  one_of a _ (one_expression _ _ T _ h no_expression) = (T, h, refl)

  -- the shape of a default has its kind, and a channel is in it only in a process
  pub default_of : (sh : Shape) (T : Kind) → HasKind scope known (out-CExpr (e.Default sh)) T → ShapeKind (length scope.core.names.kinds) (out-Shape sh) T × IsTrue (may_make scope.role sh)
  default_of sh T h = it (subst (λ z. HasKind scope known z T) (e.outs-Default sh) h)
    where
      it : HasKind scope known (CExpr-F.Default sh) T → ShapeKind (length scope.core.names.kinds) (out-Shape sh) T × IsTrue (may_make scope.role sh)
      it (fresh_default _ _ is may) = (is, may)

  pub tuple_of_parts : (es : List CExpr) (T : Kind) → HasKind scope known (out-CExpr (e.Build build.TupleOf es)) T → (ts : List Ty) × HaveKinds scope known es (map out-Ty ts) × (T ≡ tuple_of ts)
  tuple_of_parts es T h = it T (subst (λ z. HasKind scope known z T) (e.outs-Build build.TupleOf es) h)
    where
      it : (T : Kind) → HasKind scope known (CExpr-F.Build build.TupleOf es) T → (ts : List Ty) × HaveKinds scope known es (map out-Ty ts) × (T ≡ tuple_of ts)
      it _ (tuple_literal _ ts have) = (ts, have, refl)

  pub list_of_elements : (es : List CExpr) (T : Kind) → HasKind scope known (out-CExpr (e.Build build.ListOf es)) T → (t : Ty) × HaveKinds scope known es (map (λ e. out-Ty t) es)
  list_of_elements es T h = it T (subst (λ z. HasKind scope known z T) (e.outs-Build build.ListOf es) h)
    where
      it : (T : Kind) → HasKind scope known (CExpr-F.Build build.ListOf es) T → (t : Ty) × HaveKinds scope known es (map (λ e. out-Ty t) es)
      it _ (list_literal _ t have) = (t, have)

  pub set_of_elements : (es : List CExpr) (T : Kind) → HasKind scope known (out-CExpr (e.Build build.SetOf es)) T → (t : Ty) × IsTrue (is_plain t) × HaveKinds scope known es (map (λ e. out-Ty t) es)
  set_of_elements es T h = it T (subst (λ z. HasKind scope known z T) (e.outs-Build build.SetOf es) h)
    where
      it : (T : Kind) → HasKind scope known (CExpr-F.Build build.SetOf es) T → (t : Ty) × IsTrue (is_plain t) × HaveKinds scope known es (map (λ e. out-Ty t) es)
      it _ (set_literal _ t plain have) = (t, plain, have)

  pub part_of_tuple : (x : CExpr) (number : ℕ) (T : Kind) → HasKind scope known (out-CExpr (e.Part x number)) T
      → (parts : List (List ℕ × Ty)) × (p : List ℕ × Ty) × HasKind scope known (out-CExpr x) (Ty-F.TupleOf parts) × (slice_get parts number ≡ Some p)
  part_of_tuple x number T h = it T (subst (λ z. HasKind scope known z T) (e.outs-Part x number) h)
    where
      it : (T : Kind) → HasKind scope known (CExpr-F.Part x number) T
          → (parts : List (List ℕ × Ty)) × (p : List ℕ × Ty) × HasKind scope known (out-CExpr x) (Ty-F.TupleOf parts) × (slice_get parts number ≡ Some p)
      it _ (part _ _ parts p is there) = (parts, p, is, there)

  pub slot_is_set : (slot : ℕ) (T : Kind) → HasKind scope known (out-CExpr (e.Var slot)) T → IsTrue (known slot)
  slot_is_set slot T h = it (subst (λ z. HasKind scope known z T) (e.outs-Var slot) h)
    where
      it : HasKind scope known (CExpr-F.Var slot) T → IsTrue (known slot)
      it (variable _ _ set is) = set

  pub function_is_there : (number : ℕ) (es : List CExpr) (T : Kind) → HasKind scope known (out-CExpr (e.Call number es)) T → (f : FuncDef) × (slice_get scope.core.funcs number ≡ Some f)
  function_is_there number es T h = it T (subst (λ z. HasKind scope known z T) (e.outs-Call number es) h)
    where
      it : (T : Kind) → HasKind scope known (CExpr-F.Call number es) T → (f : FuncDef) × (slice_get scope.core.funcs number ≡ Some f)
      it _ (call _ _ f there may have) = (f, there)

  pub constant_may_be_read : (number : ℕ) (T : Kind) → HasKind scope known (out-CExpr (e.Const number)) T → IsTrue (may_read scope.role number)
  constant_may_be_read number T h = it T (subst (λ z. HasKind scope known z T) (e.outs-Const number) h)
    where
      it : (T : Kind) → HasKind scope known (CExpr-F.Const number) T → IsTrue (may_read scope.role number)
      it _ (constant _ c there may) = may

  -- the last operand of a distribution that draws is the literal of its stream
  pub stream_of : (name : OpName) (es : List CExpr) (T : Kind) → has_stream name ≡ true → HasKind scope known (out-CExpr (e.Op name es)) T
      → (operands : List CExpr) × (stream : ℕ) × (es ≡ operands ++ stream_operand stream ∷ []) × (stream < stream_count)
  stream_of name es T draws h = it (subst (λ z. HasKind scope known z T) (e.outs-Op name es) h)
    where
      it : HasKind scope known (CExpr-F.Op name es) T → (operands : List CExpr) × (stream : ℕ) × (es ≡ operands ++ stream_operand stream ∷ []) × (stream < stream_count)
      it (operation _ _ Ts _ row quiet may have) = absurd (false≢true (sym quiet ∙ draws))
      it (distribution _ _ operands Ts _ stream is row draw have below) = (operands, stream, is, below)

  pub returned : (loop : Bool) (line : ℕ) (x : CExpr) → SoundStat scope loop known (CStat-F.Return line x) → (T : Kind) × HasKind scope known (out-CExpr x) T
  returned loop line x (returns _ _ _ _ T is h) = (T, h)
