-- Each kind of expression, as the generator writes it: at the end of the code, with goals written once they are known.
use Rattle.std.proofs.Common.{◌≡◌, ℕ, ◌+◌, ◌<◌, ◌≤◌, List, [], ◌∷◌, ◌++◌, length, set, sym, ap, subst, ◌∙◌, arith, take, get_or}
use Rattle.std.proofs.lemmas.List.{take_more}
use Rattle.chi_value.specs.declared.format.Kind.{Kind}
use Rattle.chi_value.specs.declared.shape.Shape.{Shape}
use Rattle.chi_value.specs.declared.value.Value.{Value}
use Rattle.chi_core.specs.declared.expression.CExpr.{CExpr, CExpr-F, out-CExpr}
use Rattle.chi_core.specs.declared.expression.CExpr.TheVariants as e
use Rattle.chi_core.specs.declared.op_name.OpName.{OpName}
use Rattle.chi_code.specs.declared.instr.Instr.{Instr}
use Rattle.chi_code.specs.declared.instr.Instr.TheVariants as i
use Rattle.chi_code.specs.ExpressionLayout.{Has, ExprAt, literal, variable, constant, operation, both, either, container, part, call, insertion, fresh, repetition, ExprsAt, no_expression, one_expression}
use Rattle.chi_code.proofs.Sized.{expr_sized}
use Rattle.chi_gen_parts.specs.Added.{AddsOne, AddsHole, AddsExpr, AddsExprs}
use Rattle.chi_gen_parts.proofs.Growing.{grows_same, grows_on, grow_expr, grow_exprs}
use Rattle.chi_gen_parts.proofs.Keeping.{keep_expr, filled_end, filled_has, filled_keeps, filled_grows}

module _ (d : List Instr) where
  -- at an equal place, and with an equal goal

  pub has_at : (x : Instr) (p q : ℕ) → Has d p x → p ≡ q → Has d q x
  has_at x p q h e = subst (λ a. Has d a x) e h

  pub goal_at : (f : ℕ → Instr) (p n m : ℕ) → Has d p (f n) → n ≡ m → Has d p (f m)
  goal_at f p n m h e = subst (λ k. Has d p (f k)) e h

  pub expr_from : (o : CExpr-F CExpr) (a a' b : ℕ) → ExprAt d o a b → a ≡ a' → ExprAt d o a' b
  expr_from o a a' b h e = subst (λ a. ExprAt d o a b) e h

  pub exprs_from : (es : List CExpr) (a a' b : ℕ) → ExprsAt d es a b → a ≡ a' → ExprsAt d es a' b
  exprs_from es a a' b h e = subst (λ a. ExprsAt d es a b) e h

  pub of_layer : (x : CExpr) (o : CExpr-F CExpr) (a b b' : ℕ) → out-CExpr x ≡ o → ExprAt d o a b → b ≡ b' → ExprAt d (out-CExpr x) a b'
  of_layer x o a b b' h k q = subst (λ o. ExprAt d o a b') (sym h) (subst (ExprAt d o a) q k)

module _ (x : CExpr) (c : List Instr) where
  pub add_lit : (v : Value) (d : List Instr) → x ≡ e.Lit v → AddsOne (i.Push v) c d → AddsExpr x c d
  add_lit v d is h = record { grows = h.grows; at = of_layer d x _ _ _ _ (ap out-CExpr is ∙ e.outs-Lit v) (literal v (length c) h.has) (sym h.end) }

  pub add_var : (slot : ℕ) (d : List Instr) → x ≡ e.Var slot → AddsOne (i.Load slot) c d → AddsExpr x c d
  add_var slot d is h = record { grows = h.grows; at = of_layer d x _ _ _ _ (ap out-CExpr is ∙ e.outs-Var slot) (variable slot (length c) h.has) (sym h.end) }

  pub add_const : (number : ℕ) (d : List Instr) → x ≡ e.Const number → AddsOne (i.Const number) c d → AddsExpr x c d
  add_const number d is h = record { grows = h.grows; at = of_layer d x _ _ _ _ (ap out-CExpr is ∙ e.outs-Const number) (constant number (length c) h.has) (sym h.end) }

  pub add_default : (shape : Shape) (d : List Instr) → x ≡ e.Default shape → AddsOne (i.Default shape) c d → AddsExpr x c d
  add_default shape d is h = record { grows = h.grows; at = of_layer d x _ _ _ _ (ap out-CExpr is ∙ e.outs-Default shape) (fresh shape (length c) h.has) (sym h.end) }

  pub add_op : (name : OpName) (es : List CExpr) (n : ℕ) (c1 d : List Instr) → x ≡ e.Op name es → AddsExprs es c c1 → n ≡ length es → AddsOne (i.Op name n) c1 d → AddsExpr x c d
  add_op name es n c1 d is em ne h = record {
    grows = grows_on c c1 d em.grows h.grows;
    at = of_layer d x _ _ _ _ (ap out-CExpr is ∙ e.outs-Op name es)
        (operation name es (length c) (length c1) (grow_exprs c1 d h.grows es _ _ em.at) (goal_at d (i.Op name) _ _ _ h.has ne)) (sym h.end);
  }

  pub add_build : (kind : Kind) (es : List CExpr) (n : ℕ) (c1 d : List Instr) → x ≡ e.Build kind es → AddsExprs es c c1 → n ≡ length es → AddsOne (i.Build kind n) c1 d → AddsExpr x c d
  add_build kind es n c1 d is em ne h = record {
    grows = grows_on c c1 d em.grows h.grows;
    at = of_layer d x _ _ _ _ (ap out-CExpr is ∙ e.outs-Build kind es)
        (container kind es (length c) (length c1) (grow_exprs c1 d h.grows es _ _ em.at) (goal_at d (i.Build kind) _ _ _ h.has ne)) (sym h.end);
  }

  pub add_call : (number : ℕ) (es : List CExpr) (c1 d : List Instr) → x ≡ e.Call number es → AddsExprs es c c1 → AddsOne (i.Call number) c1 d → AddsExpr x c d
  add_call number es c1 d is em h = record {
    grows = grows_on c c1 d em.grows h.grows;
    at = of_layer d x _ _ _ _ (ap out-CExpr is ∙ e.outs-Call number es)
        (call number es (length c) (length c1) (grow_exprs c1 d h.grows es _ _ em.at) h.has) (sym h.end);
  }

  pub add_part : (f : CExpr) (number : ℕ) (c1 d : List Instr) → x ≡ e.Part f number → AddsExpr f c c1 → AddsOne (i.Part number) c1 d → AddsExpr x c d
  add_part f number c1 d is em h = record {
    grows = grows_on c c1 d em.grows h.grows;
    at = of_layer d x _ _ _ _ (ap out-CExpr is ∙ e.outs-Part f number)
        (part f number (length c) (length c1) (grow_expr c1 d h.grows _ _ _ em.at) h.has) (sym h.end);
  }

  pub add_and : (f g : CExpr) (at n : ℕ) (c1 c2 c3 d : List Instr) → x ≡ e.And f g → AddsExpr f c c1 → AddsHole at c1 c2 → AddsExpr g c2 c3 → n ≡ length c3 → d ≡ set c3 at (i.And n) → AddsExpr x c d
  add_and f g at n c1 c2 c3 d is ef h eg ne ie =
      let same : d ≡ set c3 (length c1) (i.And n) = ie ∙ ap (λ k. set c3 k (i.And n)) h.place in
      let g1 = filled_grows c1 c3 d (i.And n) same (grows_on c1 c2 c3 h.grows eg.grows) in
      let k = keep_expr c3 d (length c1 + 1) (filled_keeps c1 c3 d (i.And n) same) (out-CExpr g) (length c2) (length c3) eg.at (omega (arith, h.end)) in
      let there = filled_has c1 c3 d (i.And n) same (omega (arith, k.1)) in
      record {
        grows = grows_on c c1 d ef.grows g1;
        at = of_layer d x _ _ _ _ (ap out-CExpr is ∙ e.outs-And f g)
            (both f g (length c) (length c1) (length c3) (grow_expr c1 d g1 _ _ _ ef.at) (goal_at d i.And _ _ _ there ne) (expr_from d _ _ _ _ k.0 h.end)) (sym (filled_end c1 c3 d (i.And n) same));
      }

  pub add_or : (f g : CExpr) (at n : ℕ) (c1 c2 c3 d : List Instr) → x ≡ e.Or f g → AddsExpr f c c1 → AddsHole at c1 c2 → AddsExpr g c2 c3 → n ≡ length c3 → d ≡ set c3 at (i.Or n) → AddsExpr x c d
  add_or f g at n c1 c2 c3 d is ef h eg ne ie =
      let same : d ≡ set c3 (length c1) (i.Or n) = ie ∙ ap (λ k. set c3 k (i.Or n)) h.place in
      let g1 = filled_grows c1 c3 d (i.Or n) same (grows_on c1 c2 c3 h.grows eg.grows) in
      let k = keep_expr c3 d (length c1 + 1) (filled_keeps c1 c3 d (i.Or n) same) (out-CExpr g) (length c2) (length c3) eg.at (omega (arith, h.end)) in
      let there = filled_has c1 c3 d (i.Or n) same (omega (arith, k.1)) in
      record {
        grows = grows_on c c1 d ef.grows g1;
        at = of_layer d x _ _ _ _ (ap out-CExpr is ∙ e.outs-Or f g)
            (either f g (length c) (length c1) (length c3) (grow_expr c1 d g1 _ _ _ ef.at) (goal_at d i.Or _ _ _ there ne) (expr_from d _ _ _ _ k.0 h.end)) (sym (filled_end c1 c3 d (i.Or n) same));
      }

  pub add_insert : (f g : CExpr) (number n top : ℕ) (c1 c2 c3 c4 c5 c6 d : List Instr) → x ≡ e.InsertBy f g number → AddsExpr f c c1 → AddsExpr g c1 c2 → AddsOne i.Scan c2 c3 → top ≡ length c3 → n ≡ length c3 + 1 + 2
      → AddsOne (i.Probe n) c3 c4 → AddsOne (i.Call number) c4 c5 → AddsOne (i.Found top) c5 c6 → AddsOne i.Place c6 d → AddsExpr x c d
  add_insert f g number n top c1 c2 c3 c4 c5 c6 d is ef eg s te ne p l o q =
      let g6 = q.grows in
      let g5 = grows_on c5 c6 d o.grows g6 in
      let g4 = grows_on c4 c5 d l.grows g5 in
      let g3 = grows_on c3 c4 d p.grows g4 in
      let g2 = grows_on c2 c3 d s.grows g3 in
      let g1 = grows_on c1 c2 d eg.grows g2 in
      let z = length c2 in
      let e3 : length c3 ≡ z + 1 = s.end in
      let e4 : length c4 ≡ z + 1 + 1 = omega (arith, e3, p.end) in
      let e5 : length c5 ≡ z + 1 + 1 + 1 = omega (arith, e4, l.end) in
      let e6 : length c6 ≡ z + 1 + 1 + 1 + 1 = omega (arith, e5, o.end) in
      record {
        grows = grows_on c c1 d ef.grows g1;
        at = of_layer d x _ _ _ _ (ap out-CExpr is ∙ e.outs-InsertBy f g number)
            (insertion f g number (length c) (length c1) z (grow_expr c1 d g1 _ _ _ ef.at) (grow_expr c2 d g2 _ _ _ eg.at) (g3.has _ _ s.has)
            (has_at d _ _ _ (goal_at d i.Probe _ _ _ (g4.has _ _ p.has) (omega (arith, ne, e3))) e3) (has_at d _ _ _ (g5.has _ _ l.has) e4)
            (has_at d _ _ _ (goal_at d i.Found _ _ _ (g6.has _ _ o.has) (te ∙ e3)) e5) (has_at d _ _ _ q.has e6)) (omega (arith, e6, q.end));
      }

  pub add_repeat : (f g : CExpr) (top n : ℕ) (c1 c2 c3 c4 c5 c6 d : List Instr) → x ≡ e.Repeat f g → AddsExpr f c c1 → AddsOne i.Repeat c1 c2 → AddsHole top c2 c3 → AddsExpr g c3 c4 → AddsOne i.Add c4 c5
      → AddsOne (i.Jump top) c5 c6 → n ≡ length c6 → d ≡ set c6 top (i.More n) → AddsExpr x c d
  add_repeat f g top n c1 c2 c3 c4 c5 c6 d is ef r h eg l j ne ie =
      let same : d ≡ set c6 (length c2) (i.More n) = ie ∙ ap (λ k. set c6 k (i.More n)) h.place in
      let g4 = grows_on c4 c5 c6 l.grows j.grows in
      let g2 = filled_grows c2 c6 d (i.More n) same (grows_on c2 c3 c6 h.grows (grows_on c3 c4 c6 eg.grows g4)) in
      let g1 = grows_on c1 c2 d r.grows g2 in
      let keeps = filled_keeps c2 c6 d (i.More n) same in
      let k = keep_expr c6 d (length c2 + 1) keeps (out-CExpr g) (length c3) (length c4) (grow_expr c4 c6 g4 _ _ _ eg.at) (omega (arith, h.end)) in
      let e2 : length c2 ≡ length c1 + 1 = r.end in
      let e3 : length c3 ≡ length c1 + 1 + 1 = omega (arith, e2, h.end) in
      let e5 : length c5 ≡ length c4 + 1 = l.end in
      let e6 : length c6 ≡ length c4 + 1 + 1 = omega (arith, e5, j.end) in
      let there = filled_has c2 c6 d (i.More n) same (omega (arith, k.1, e6)) in
      let turn : Has d (length c5) (i.Jump top) = keeps _ _ (omega (arith, k.1, e5)) j.has in
      let adds : Has d (length c4) i.Add = keeps _ _ k.1 (j.grows.has _ _ l.has) in
      record {
        grows = grows_on c c1 d ef.grows g1;
        at = of_layer d x _ _ _ _ (ap out-CExpr is ∙ e.outs-Repeat f g)
            (repetition f g (length c) (length c1) (length c4) (grow_expr c1 d g1 _ _ _ ef.at) (g2.has _ _ r.has) (has_at d _ _ _ (goal_at d i.More _ _ _ there (ne ∙ e6)) e2)
            (expr_from d _ _ _ _ k.0 e3) adds (has_at d _ _ _ (goal_at d i.Jump _ _ _ turn (h.place ∙ e2)) e5)) (sym (filled_end c2 c6 d (i.More n) same ∙ e6));
      }

-- code is longer behind what was added
pub expr_longer : (x : CExpr) (c d : List Instr) → AddsExpr x c d → length c ≤ length d
expr_longer x c d h = omega (arith, expr_sized d x _ _ h.at)

snoc : {code : List Instr} (xs : List CExpr) (x : CExpr) (a b n : ℕ) → ExprsAt code xs a b → ExprAt code (out-CExpr x) b n → ExprsAt code (xs ++ x ∷ []) a n
snoc _ x _ _ n (no_expression a) k = one_expression x [] a n n k (no_expression n)
snoc _ x _ _ n (one_expression y ys a b m h r) k = one_expression y (ys ++ x ∷ []) a b n h (snoc ys x b m n r k)

pub add_none : (c : List Instr) → AddsExprs [] c c
add_none c = record { grows = grows_same c; at = no_expression (length c) }

pub add_next : (all : List CExpr) (k : ℕ) (x : CExpr) (c c1 d : List Instr) → k < length all → x ≡ get_or all k x → AddsExprs (take k all) c c1 → AddsExpr x c1 d → AddsExprs (take (k + 1) all) c d
add_next all k x c c1 d h is em en =
    subst (λ l. AddsExprs l c d) (sym (take_more all k x h ∙ ap (λ y. take k all ++ y ∷ []) (sym is)))
    (record { grows = grows_on c c1 d em.grows en.grows; at = snoc (take k all) x _ _ _ (grow_exprs c1 d en.grows (take k all) _ _ em.at) en.at })
