-- Sound expressions have code behind any other.
use Rattle.std.proofs.Common.{◌≡◌, ℕ, ◌+◌, List, [], ◌∷◌, ◌++◌, length, refl, sym, subst}
use Rattle.std.specs.Prelude.{pos}
use Rattle.chi_value.specs.declared.format.Kind.{Kind as Built}
use Rattle.chi_value.specs.declared.value.Value.TheVariants as value
use Rattle.chi_core.specs.declared.expression.CExpr.{CExpr, CExpr-F, out-CExpr}
use Rattle.chi_core.specs.declared.expression.CExpr.TheVariants as e
use Rattle.chi_core.specs.declared.op_name.OpName.{OpName}
use Rattle.chi_core.specs.Kinds.{Kind}
use Rattle.chi_core.specs.Scopes.{Scope}
use Rattle.chi_core.specs.SetSlots.{Known}
use Rattle.chi_core.specs.SoundExpressions as k
use Rattle.chi_core.specs.SoundExpressions.{HasKind, HaveKinds, stream_operand}
use Rattle.chi_code.specs.declared.instr.Instr.{Instr}
use Rattle.chi_code.specs.declared.instr.Instr.TheVariants as i
use Rattle.chi_code.specs.ExpressionLayout.{ExprAt, no_expression, one_expression}
use Rattle.chi_code.specs.Sizes.{size}
use Rattle.chi_gen_parts.specs.Added.{Grows, AddsOne, AddsExpr, AddsExprs}
use Rattle.chi_gen_parts.proofs.Growing.{one_added}
use Rattle.chi_gen_parts.proofs.AddedExpressions.{add_lit, add_var, add_const, add_default, add_op, add_build, add_call, add_part, add_insert, add_none}
use Rattle.chi_gen_parts.proofs.AddedTargets.{exprs_then}
use Rattle.chi_gen_laws.proofs.KnownGoals.{add_and, add_or, add_repeat}

-- what code comes to with one more instruction
abbrev pub more : List Instr → Instr → List Instr
more c x = c ++ x ∷ []

pub one_more : (x : Instr) (c : List Instr) → AddsOne x c (more c x)
one_more x c = one_added c (more c x) x refl

-- a layer of an expression, an expression, and expressions in turn, with code behind c

pub record LayerCode (o : CExpr-F CExpr) (c : List Instr) : Type 0 where
  pub code : List Instr
  pub grows : Grows c code
  pub at : ExprAt code o (length c) (length code)

pub record ExprCode (x : CExpr) (c : List Instr) : Type 0 where
  pub code : List Instr
  pub adds : AddsExpr x c code

pub record ExprsCode (xs : List CExpr) (c : List Instr) : Type 0 where
  pub code : List Instr
  pub adds : AddsExprs xs c code

layer_of : (x : CExpr) (o : CExpr-F CExpr) (c d : List Instr) → out-CExpr x ≡ o → AddsExpr x c d → LayerCode o c
layer_of x o c d is h = record { code = d; grows = h.grows; at = subst (λ o. ExprAt d o (length c) (length d)) is h.at }

abbrev pub expr_of : (x : CExpr) (c : List Instr) → LayerCode (out-CExpr x) c → ExprCode x c
expr_of x c h = record { code = h.code; adds = record { grows = h.grows; at = h.at } }

one_expr : (x : CExpr) (c d : List Instr) → AddsExpr x c d → AddsExprs (x ∷ []) c d
one_expr x c d h = record { grows = h.grows; at = one_expression x [] (length c) (length d) (length d) h.at (no_expression (length d)) }

built : (kind : Built) (es : List CExpr) (c : List Instr) → ExprsCode es c → LayerCode (CExpr-F.Build kind es) c
built kind es c a = layer_of (e.Build kind es) _ c _ (e.outs-Build kind es) (add_build (e.Build kind es) c kind es (length es) a.code _ refl a.adds refl (one_more (i.Build kind (length es)) a.code))

applied : (name : OpName) (es : List CExpr) (c : List Instr) → ExprsCode es c → LayerCode (CExpr-F.Op name es) c
applied name es c a = layer_of (e.Op name es) _ c _ (e.outs-Op name es) (add_op (e.Op name es) c name es (length es) a.code _ refl a.adds refl (one_more (i.Op name (length es)) a.code))

-- a literal for the stream of a distribution behind its operands
with_stream : (operands : List CExpr) (stream : ℕ) (c : List Instr) → ExprsCode operands c → ExprsCode (operands ++ stream_operand stream ∷ []) c
with_stream operands stream c a =
    let v = value.Int (pos stream) in
    let d = more a.code (i.Push v) in
    record { code = d; adds = exprs_then operands (stream_operand stream ∷ []) c a.code d a.adds (one_expr (stream_operand stream) a.code d (add_lit (e.Lit v) a.code v d refl (one_more (i.Push v) a.code))) }

module _ (scope : Scope) (known : Known) where
  mutual
    layer_code : (o : CExpr-F CExpr) (T : Kind) → HasKind scope known o T → (c : List Instr) → LayerCode o c
    layer_code _ _ (k.literal v T g) c = layer_of (e.Lit v) _ c _ (e.outs-Lit v) (add_lit (e.Lit v) c v _ refl (one_more (i.Push v) c))
    layer_code _ _ (k.variable slot T s g) c = layer_of (e.Var slot) _ c _ (e.outs-Var slot) (add_var (e.Var slot) c slot _ refl (one_more (i.Load slot) c))
    layer_code _ _ (k.constant number d s g) c = layer_of (e.Const number) _ c _ (e.outs-Const number) (add_const (e.Const number) c number _ refl (one_more (i.Const number) c))
    layer_code _ _ (k.operation name es Ts T r s t g) c = applied name es c (exprs_code es Ts g c)
    layer_code _ _ (k.distribution name es operands Ts T stream is r s g t) c =
        applied name es c (subst (λ xs. ExprsCode xs c) (sym is) (with_stream operands stream c (exprs_code operands Ts g c)))
    layer_code _ _ (k.both f g hf hg) c =
        let a = layer_code (out-CExpr f) _ hf c in
        let n = length a.code + 1 + size g in
        let m = more a.code (i.And n) in
        let b = layer_code (out-CExpr g) _ hg m in
        layer_of (e.And f g) _ c _ (e.outs-And f g) (add_and (e.And f g) c f g n a.code m b.code refl (expr_of f c a).adds refl (one_more (i.And n) a.code) (expr_of g m b).adds)
    layer_code _ _ (k.either f g hf hg) c =
        let a = layer_code (out-CExpr f) _ hf c in
        let n = length a.code + 1 + size g in
        let m = more a.code (i.Or n) in
        let b = layer_code (out-CExpr g) _ hg m in
        layer_of (e.Or f g) _ c _ (e.outs-Or f g) (add_or (e.Or f g) c f g n a.code m b.code refl (expr_of f c a).adds refl (one_more (i.Or n) a.code) (expr_of g m b).adds)
    layer_code _ _ (k.tuple_literal es ts g) c = built _ es c (exprs_code es _ g c)
    layer_code _ _ (k.list_literal es t g) c = built _ es c (exprs_code es _ g c)
    layer_code _ _ (k.set_literal es t p g) c = built _ es c (exprs_code es _ g c)
    layer_code _ _ (k.dictionary_literal es key has entries p g) c = built _ es c (exprs_code es _ g c)
    layer_code _ _ (k.part f number parts p g s) c =
        let a = layer_code (out-CExpr f) _ g c in
        layer_of (e.Part f number) _ c _ (e.outs-Part f number) (add_part (e.Part f number) c f number a.code _ refl (expr_of f c a).adds (one_more (i.Part number) a.code))
    layer_code _ _ (k.call number es f s m g) c =
        let a = exprs_code es _ g c in
        layer_of (e.Call number es) _ c _ (e.outs-Call number es) (add_call (e.Call number es) c number es a.code _ refl a.adds (one_more (i.Call number) a.code))
    layer_code _ _ (k.insertion f g number t h s m ps r gf gg) c =
        let a = layer_code (out-CExpr f) _ gf c in
        let b = layer_code (out-CExpr g) _ gg a.code in
        let c3 = more b.code i.Scan in
        let n = length c3 + 1 + 2 in
        let c4 = more c3 (i.Probe n) in
        let c5 = more c4 (i.Call number) in
        let c6 = more c5 (i.Found (length c3)) in
        layer_of (e.InsertBy f g number) _ c _ (e.outs-InsertBy f g number)
        (add_insert (e.InsertBy f g number) c f g number n (length c3) a.code b.code c3 c4 c5 c6 _ refl (expr_of f c a).adds (expr_of g a.code b).adds (one_more i.Scan b.code) refl refl (one_more (i.Probe n) c3) (one_more (i.Call number) c4)
        (one_more (i.Found (length c3)) c5) (one_more i.Place c6))
    layer_code _ _ (k.fresh_default shape T s m) c = layer_of (e.Default shape) _ c _ (e.outs-Default shape) (add_default (e.Default shape) c shape _ refl (one_more (i.Default shape) c))
    layer_code _ _ (k.repetition f g t gf gg) c =
        let a = layer_code (out-CExpr f) _ gf c in
        let c2 = more a.code i.Repeat in
        let n = length c2 + 1 + (size g + 2) in
        let c3 = more c2 (i.More n) in
        let b = layer_code (out-CExpr g) _ gg c3 in
        let c5 = more b.code i.Add in
        layer_of (e.Repeat f g) _ c _ (e.outs-Repeat f g)
        (add_repeat (e.Repeat f g) c f g n (length c2) a.code c2 c3 b.code c5 _ refl (expr_of f c a).adds (one_more i.Repeat a.code) refl refl (one_more (i.More n) c2) (expr_of g c3 b).adds (one_more i.Add b.code) (one_more (i.Jump (length c2)) c5))

    pub exprs_code : (es : List CExpr) (Ts : List Kind) → HaveKinds scope known es Ts → (c : List Instr) → ExprsCode es c
    exprs_code _ _ k.no_expression c = record { code = c; adds = add_none c }
    exprs_code _ _ (k.one_expression x xs T Ts g r) c =
        let a = layer_code (out-CExpr x) T g c in
        let b = exprs_code xs Ts r a.code in
        record { code = b.code; adds = exprs_then (x ∷ []) xs c a.code b.code (one_expr x c a.code (expr_of x c a).adds) b.adds }

  pub expr_code : (x : CExpr) (T : Kind) → HasKind scope known (out-CExpr x) T → (c : List Instr) → ExprCode x c
  expr_code x T g c = expr_of x c (layer_code (out-CExpr x) T g c)
