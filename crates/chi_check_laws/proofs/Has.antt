-- Expressions with their streams are of kinds by their parts: a rule for each construct.
use Rattle.std.proofs.Common.{◌≡◌, ℕ, ◌<◌, ◌%◌, ◌^◌, Bool, true, false, cond, nat_lt, List, [], ◌∷◌, ◌++◌, map, Some, refl, sym, ap, subst, ◌∙◌, arith}
use Rattle.std.proofs.lemmas.Bool.{and_parts, ltb-true}
use Rattle.std.specs.List.{list_all}
use Rattle.std.specs.Prelude.{slice_get, length, IsTrue, ◌+◌}
use Rattle.std.proofs.Math.Nat.{mod-lt}
use Rattle.chi_dist.specs.Draws.{stream_count}
use Rattle.chi_types.specs.declared.ty.Ty.{Ty, Ty-F, out-Ty}
use Rattle.chi_types.specs.Plain.{is_plain}
use Rattle.chi_value.specs.declared.format.Kind.{Kind as Build}
use Rattle.chi_value.specs.declared.format.Kind.TheVariants as build
use Rattle.chi_value.specs.declared.shape.Shape.{Shape, out-Shape}
use Rattle.chi_value.specs.declared.value.Value.{Value, Value-F, out-Value}
use Rattle.chi_value.specs.declared.value.Value.TheVariants as value
use Rattle.chi_value.specs.Plain.{itself}
use Rattle.chi_core.specs.declared.expression.CExpr.{CExpr, CExpr-F, out-CExpr, map-CExpr, fold_out-CExpr}
use Rattle.chi_core.specs.declared.expression.CExpr.TheVariants as expression
use Rattle.chi_core.specs.declared.op_name.OpName.{OpName}
use Rattle.chi_core.specs.declared.program.ConstDef.{ConstDef}
use Rattle.chi_core.specs.declared.program.FuncDef.{FuncDef}
use Rattle.chi_core.specs.Kinds.{Kind, kind_of, tuple_of}
use Rattle.chi_core.specs.OperatorKinds.{OpKind, has_stream, ShapeKind}
use Rattle.chi_core.specs.Scopes.{Scope, may_read, may_call, may_apply, may_make, params_of}
use Rattle.chi_core.specs.SetSlots.{Known as Set}
use Rattle.chi_core.specs.SoundExpressions as sound
use Rattle.chi_core.specs.SoundExpressions.{HasKind, HaveKinds, LiteralKind, no_expression, one_expression, stream_operand, entry_kinds}
use Rattle.chi_check.specs.Below.chi_check_streams.specs.Streams.{Counted, Counting, expression_step, of_expression, of_expressions}
use Rattle.chi_check_laws.specs.TypedTexts.{is_short, texts_step, texts_are_short}
use Rattle.chi_check_laws.specs.KnownNames.{Has}

streams_at : (e : CExpr) (layer : CExpr-F CExpr) → out-CExpr e ≡ layer → (count : ℕ) → of_expression e count ≡ expression_step (map-CExpr _ _ of_expression layer) count
unfolding of_expression
streams_at e layer h count = ap (λ f. f count) (fold_out-CExpr (Counting CExpr) expression_step e) ∙ ap (λ o. expression_step (map-CExpr _ _ of_expression o) count) h

texts_at : (e : CExpr) (layer : CExpr-F CExpr) → out-CExpr e ≡ layer → texts_are_short e ≡ texts_step (map-CExpr _ _ texts_are_short layer)
texts_at e layer h = fold_out-CExpr Bool texts_step e ∙ ap (λ o. texts_step (map-CExpr _ _ texts_are_short o)) h

stream_below : (number : ℕ) → number % stream_count < stream_count
stream_below number = let some : 0 < stream_count = omega arith in mod-lt number some

module _ (scope : Scope) (set : Set) where
  abbrev Short : List CExpr → Type 0
  Short es = list_all itself (map texts_are_short es) ≡ true

  -- with the streams of each in turn
  abbrev pub Have : List CExpr → List Kind → Type 0
  Have es Ts = Short es → (count : ℕ) → HaveKinds scope set (of_expressions es count).part Ts

  pub have_none : Have [] []
  have_none short count = no_expression

  pub have_one : (e : CExpr) (es : List CExpr) (T : Kind) (Ts : List Kind) → Has scope set e T → Have es Ts → Have (e ∷ es) (T ∷ Ts)
  have_one e es T Ts h hs short count =
      let both = and_parts _ _ short in
      one_expression _ _ T Ts (h both.0 count) (hs both.1 (of_expression e count).next)

  -- by the outermost layer
  has_at : (e : CExpr) (layer : CExpr-F CExpr) (T : Kind) → out-CExpr e ≡ layer
      → (texts_step (map-CExpr _ _ texts_are_short layer) ≡ true → (count : ℕ) → HasKind scope set (out-CExpr (expression_step (map-CExpr _ _ of_expression layer) count).part) T) → Has scope set e T
  has_at e layer T h p short count =
      subst (λ (made : Counted CExpr). HasKind scope set (out-CExpr made.part) T) (sym (streams_at e layer h count)) (p (sym (texts_at e layer h) ∙ short) count)

  at : (e : CExpr) (layer : CExpr-F CExpr) (T : Kind) → out-CExpr e ≡ layer → HasKind scope set layer T → HasKind scope set (out-CExpr e) T
  at e layer T h p = subst (λ (o : CExpr-F CExpr). HasKind scope set o T) (sym h) p

  pub has_literal : (v : Value) (T : Kind) → LiteralKind scope.core.names.kinds (out-Value v) T → Has scope set (expression.Lit v) T
  has_literal v T k = has_at _ _ T (expression.outs-Lit v) (λ short count. at _ _ T (expression.outs-Lit v) (sound.literal v T k))

  -- a text literal, if it is short
  pub has_text : (bytes : List ℕ) → Has scope set (expression.Lit (value.Text bytes)) Ty-F.Text
  has_text bytes = has_at _ _ Ty-F.Text (expression.outs-Lit (value.Text bytes)) (λ short count.
      let few : nat_lt (length bytes) (2 ^ 32) ≡ true = sym (ap is_short (value.outs-Text bytes)) ∙ short in
      at _ _ Ty-F.Text (expression.outs-Lit (value.Text bytes)) (sound.literal (value.Text bytes) Ty-F.Text
      (subst (λ (o : Value-F Value). LiteralKind scope.core.names.kinds o Ty-F.Text) (sym (value.outs-Text bytes)) (sound.text bytes (ltb-true _ _ few)))))

  pub has_variable : (slot : ℕ) (T : Kind) → IsTrue (set slot) → slice_get scope.slots slot ≡ Some T → Has scope set (expression.Var slot) T
  has_variable slot T s is = has_at _ _ T (expression.outs-Var slot) (λ short count. at _ _ T (expression.outs-Var slot) (sound.variable slot T s is))

  pub has_constant : (number : ℕ) (c : ConstDef) → slice_get scope.core.consts number ≡ Some c → IsTrue (may_read scope.role number) → Has scope set (expression.Const number) (kind_of c.ty)
  has_constant number c is read = has_at _ _ _ (expression.outs-Const number) (λ short count. at _ _ _ (expression.outs-Const number) (sound.constant number c is read))

  operation_has : (b : Bool) (name : OpName) (es : Counted (List CExpr)) (Ts : List Kind) (T : Kind) → has_stream name ≡ b → OpKind name Ts T → IsTrue (may_apply scope.role name Ts)
      → HaveKinds scope set es.part Ts
      → HasKind scope set (out-CExpr (cond {A = Counted CExpr} b (record { next = es.next + 1; part = expression.Op name (es.part ++ stream_operand (es.next % stream_count) ∷ []) }) (record { next = es.next; part = expression.Op name es.part })).part) T
  operation_has true name es Ts T is row may h =
      at _ _ T (expression.outs-Op name _) (sound.distribution name _ es.part Ts T (es.next % stream_count) refl row is h (stream_below es.next))
  operation_has false name es Ts T is row may h = at _ _ T (expression.outs-Op name es.part) (sound.operation name es.part Ts T row is may h)

  pub has_operation : (name : OpName) (es : List CExpr) (Ts : List Kind) (T : Kind) → OpKind name Ts T → IsTrue (may_apply scope.role name Ts) → Have es Ts → Has scope set (expression.Op name es) T
  has_operation name es Ts T row may h =
      has_at _ _ T (expression.outs-Op name es) (λ short count. operation_has (has_stream name) name (of_expressions es count) Ts T refl row may (h short count))

  pub has_both : (a b : CExpr) → Has scope set a Ty-F.Bool → Has scope set b Ty-F.Bool → Has scope set (expression.And a b) Ty-F.Bool
  has_both a b h k = has_at _ _ _ (expression.outs-And a b) (λ short count.
      let both = and_parts _ _ short in
      at _ _ _ (expression.outs-And _ _) (sound.both _ _ (h both.0 count) (k both.1 (of_expression a count).next)))

  pub has_either : (a b : CExpr) → Has scope set a Ty-F.Bool → Has scope set b Ty-F.Bool → Has scope set (expression.Or a b) Ty-F.Bool
  has_either a b h k = has_at _ _ _ (expression.outs-Or a b) (λ short count.
      let both = and_parts _ _ short in
      at _ _ _ (expression.outs-Or _ _) (sound.either _ _ (h both.0 count) (k both.1 (of_expression a count).next)))

  build_has : (kind : Build) (es : List CExpr) (T : Kind) → (Short es → (count : ℕ) → HasKind scope set (CExpr-F.Build kind (of_expressions es count).part) T) → Has scope set (expression.Build kind es) T
  build_has kind es T p = has_at _ _ T (expression.outs-Build kind es) (λ short count. at _ _ T (expression.outs-Build kind _) (p short count))

  pub has_tuple : (es : List CExpr) (ts : List Ty) → Have es (map out-Ty ts) → Has scope set (expression.Build build.TupleOf es) (tuple_of ts)
  has_tuple es ts h = build_has build.TupleOf es (tuple_of ts) (λ short count. sound.tuple_literal _ ts (h short count))

  -- the kind of each of a list
  each_counted : (T : Kind) (es : List CExpr) (count : ℕ) → map {A = CExpr} (λ e. T) (of_expressions es count).part ≡ map {A = CExpr} (λ e. T) es
  each_counted T [] count = refl
  each_counted T (e ∷ es) count = ap (λ rest. T ∷ rest) (each_counted T es (of_expression e count).next)

  each_of : (t : Ty) (es : List CExpr) → Have es (map (λ e. out-Ty t) es) → Short es → (count : ℕ) → HaveKinds scope set (of_expressions es count).part (map (λ e. out-Ty t) (of_expressions es count).part)
  each_of t es h short count = subst (HaveKinds scope set _) (sym (each_counted (out-Ty t) es count)) (h short count)

  pub has_list : (es : List CExpr) (t : Ty) → Have es (map (λ e. out-Ty t) es) → Has scope set (expression.Build build.ListOf es) (Ty-F.ListOf t)
  has_list es t h = build_has build.ListOf es (Ty-F.ListOf t) (λ short count. sound.list_literal _ t (each_of t es h short count))

  pub has_set : (es : List CExpr) (t : Ty) → IsTrue (is_plain t) → Have es (map (λ e. out-Ty t) es) → Has scope set (expression.Build build.SetOf es) (Ty-F.SetOf t)
  has_set es t plain h = build_has build.SetOf es (Ty-F.SetOf t) (λ short count. sound.set_literal _ t plain (each_of t es h short count))

  pub has_dictionary : (es : List CExpr) (key has : Ty) (entries : ℕ) → IsTrue (is_plain key) → Have es (entry_kinds entries (out-Ty key) (out-Ty has)) → Has scope set (expression.Build build.DictOf es) (Ty-F.DictOf key has)
  has_dictionary es key has entries plain h = build_has build.DictOf es (Ty-F.DictOf key has) (λ short count. sound.dictionary_literal _ key has entries plain (h short count))

  pub has_part : (e : CExpr) (number : ℕ) (parts : List (List ℕ × Ty)) (p : List ℕ × Ty) → Has scope set e (Ty-F.TupleOf parts) → slice_get parts number ≡ Some p → Has scope set (expression.Part e number) (out-Ty p.1)
  has_part e number parts p h is = has_at _ _ _ (expression.outs-Part e number) (λ short count. at _ _ _ (expression.outs-Part _ number) (sound.part _ number parts p (h short count) is))

  pub has_call : (number : ℕ) (es : List CExpr) (f : FuncDef) → slice_get scope.core.funcs number ≡ Some f → IsTrue (may_call scope.role) → Have es (params_of f) → Has scope set (expression.Call number es) (kind_of f.result)
  has_call number es f is may h = has_at _ _ _ (expression.outs-Call number es) (λ short count. at _ _ _ (expression.outs-Call number _) (sound.call number _ f is may (h short count)))

  pub has_insertion : (xs x : CExpr) (number : ℕ) (t : Ty) (f : FuncDef) → slice_get scope.core.funcs number ≡ Some f → IsTrue (may_call scope.role) → params_of f ≡ out-Ty t ∷ out-Ty t ∷ []
      → kind_of f.result ≡ Ty-F.Bool → Has scope set xs (Ty-F.ListOf t) → Has scope set x (out-Ty t) → Has scope set (expression.InsertBy xs x number) (Ty-F.ListOf t)
  has_insertion xs x number t f is may params result h k = has_at _ _ _ (expression.outs-InsertBy xs x number) (λ short count.
      let both = and_parts _ _ short in
      at _ _ _ (expression.outs-InsertBy _ _ number) (sound.insertion _ _ number t f is may params result (h both.0 count) (k both.1 (of_expression xs count).next)))

  pub has_default : (shape : Shape) (T : Kind) → ShapeKind (length scope.core.names.kinds) (out-Shape shape) T → IsTrue (may_make scope.role shape) → Has scope set (expression.Default shape) T
  has_default shape T k may = has_at _ _ T (expression.outs-Default shape) (λ short count. at _ _ T (expression.outs-Default shape) (sound.fresh_default shape T k may))

  pub has_repetition : (size inner : CExpr) (t : Ty) → Has scope set size Ty-F.Int → Has scope set inner (out-Ty t) → Has scope set (expression.Repeat size inner) (Ty-F.ListOf t)
  has_repetition size inner t h k = has_at _ _ _ (expression.outs-Repeat size inner) (λ short count.
      let both = and_parts _ _ short in
      at _ _ _ (expression.outs-Repeat _ _) (sound.repetition _ _ t (h both.0 count) (k both.1 (of_expression size count).next)))
