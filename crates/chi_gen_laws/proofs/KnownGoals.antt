-- Expressions and elements with a goal that is known from sizes before what it leads over is there.
use Rattle.std.proofs.Common.{◌≡◌, ℕ, ◌+◌, List, length, refl, ap, subst, ◌∙◌, arith}
use Rattle.chi_core.specs.declared.element.CElem.{CElem, out-CElem}
use Rattle.chi_core.specs.declared.element.CElem.TheVariants as element
use Rattle.chi_core.specs.declared.expression.CExpr.{CExpr, out-CExpr}
use Rattle.chi_core.specs.declared.expression.CExpr.TheVariants as e
use Rattle.chi_code.specs.declared.instr.Instr.{Instr}
use Rattle.chi_code.specs.declared.instr.Instr.TheVariants as i
use Rattle.chi_code.specs.ExpressionLayout.{Has, both, either, repetition}
use Rattle.chi_code.specs.Sizes.{size, elements_size}
use Rattle.chi_code.specs.StatementLayout.{unwinds_elements, ElemsAt}
use Rattle.chi_code.proofs.Sized.{expr_sized, elements_sized}
use Rattle.chi_gen_parts.specs.Added.{AddsOne, AddsExpr, AddsElem, AddsElems}
use Rattle.chi_gen_parts.proofs.Growing.{grows_on, grow_expr, grow_elements}
use Rattle.chi_gen_parts.proofs.AddedExpressions.{has_at, goal_at, expr_from, of_layer}
use Rattle.chi_gen_parts.proofs.AddedParts.{elem_of}

module _ (x : CExpr) (c : List Instr) where
  pub add_and : (f g : CExpr) (n : ℕ) (c1 c2 d : List Instr) → x ≡ e.And f g → AddsExpr f c c1 → n ≡ length c1 + 1 + size g → AddsOne (i.And n) c1 c2 → AddsExpr g c2 d → AddsExpr x c d
  add_and f g n c1 c2 d is ef ne h eg =
      let g1 = grows_on c1 c2 d h.grows eg.grows in
      let there : n ≡ length d = omega (arith, ne, h.end, expr_sized d g _ _ eg.at) in
      record {
        grows = grows_on c c1 d ef.grows g1;
        at = of_layer d x _ _ _ _ (ap out-CExpr is ∙ e.outs-And f g)
            (both f g (length c) (length c1) (length d) (grow_expr c1 d g1 _ _ _ ef.at) (goal_at d i.And _ _ _ (eg.grows.has _ _ h.has) there) (expr_from d _ _ _ _ eg.at h.end)) refl;
      }

  pub add_or : (f g : CExpr) (n : ℕ) (c1 c2 d : List Instr) → x ≡ e.Or f g → AddsExpr f c c1 → n ≡ length c1 + 1 + size g → AddsOne (i.Or n) c1 c2 → AddsExpr g c2 d → AddsExpr x c d
  add_or f g n c1 c2 d is ef ne h eg =
      let g1 = grows_on c1 c2 d h.grows eg.grows in
      let there : n ≡ length d = omega (arith, ne, h.end, expr_sized d g _ _ eg.at) in
      record {
        grows = grows_on c c1 d ef.grows g1;
        at = of_layer d x _ _ _ _ (ap out-CExpr is ∙ e.outs-Or f g)
            (either f g (length c) (length c1) (length d) (grow_expr c1 d g1 _ _ _ ef.at) (goal_at d i.Or _ _ _ (eg.grows.has _ _ h.has) there) (expr_from d _ _ _ _ eg.at h.end)) refl;
      }

  pub add_repeat : (f g : CExpr) (n top : ℕ) (c1 c2 c3 c4 c5 d : List Instr) → x ≡ e.Repeat f g → AddsExpr f c c1 → AddsOne i.Repeat c1 c2 → top ≡ length c2 → n ≡ length c2 + 1 + (size g + 2)
      → AddsOne (i.More n) c2 c3 → AddsExpr g c3 c4 → AddsOne i.Add c4 c5 → AddsOne (i.Jump top) c5 d → AddsExpr x c d
  add_repeat f g n top c1 c2 c3 c4 c5 d is ef r te ne m eg l j =
      let g5 = j.grows in
      let g4 = grows_on c4 c5 d l.grows g5 in
      let g3 = grows_on c3 c4 d eg.grows g4 in
      let g2 = grows_on c2 c3 d m.grows g3 in
      let g1 = grows_on c1 c2 d r.grows g2 in
      let e2 : length c2 ≡ length c1 + 1 = r.end in
      let e3 : length c3 ≡ length c1 + 1 + 1 = omega (arith, e2, m.end) in
      let e5 : length c5 ≡ length c4 + 1 = l.end in
      let there : n ≡ length c4 + 1 + 1 = omega (arith, ne, m.end, expr_sized c4 g _ _ eg.at) in
      record {
        grows = grows_on c c1 d ef.grows g1;
        at = of_layer d x _ _ _ _ (ap out-CExpr is ∙ e.outs-Repeat f g)
            (repetition f g (length c) (length c1) (length c4) (grow_expr c1 d g1 _ _ _ ef.at) (g2.has _ _ r.has) (has_at d _ _ _ (goal_at d i.More _ _ _ (g3.has _ _ m.has) there) e2)
            (expr_from d _ _ _ _ (grow_expr c4 d g4 _ _ _ eg.at) e3) (g5.has _ _ l.has) (has_at d _ _ _ (goal_at d i.Jump _ _ _ j.has (te ∙ e2)) e5)) (omega (arith, e5, j.end));
      }

pub add_unwind : (x : CElem) (names own : List ℕ) (e : CExpr) (elements : List CElem) (n top : ℕ) (c c1 c2 c3 c4 d : List Instr) → x ≡ element.Unwind names e elements → AddsExpr e c c1 → AddsOne i.Walk c1 c2 → top ≡ length c2
    → n ≡ length c2 + 1 + (elements_size elements + 1) → own ≡ names → AddsOne (i.Next n own) c2 c3 → AddsElems elements c3 c4 → AddsOne (i.Jump top) c4 d → AddsElem x c d
add_unwind x names own e elements n top c c1 c2 c3 c4 d is ee w te ne se h es j =
    let g4 = j.grows in
    let g3 = grows_on c3 c4 d es.grows g4 in
    let g2 = grows_on c2 c3 d h.grows g3 in
    let g1 = grows_on c1 c2 d w.grows g2 in
    let there : n ≡ length c4 + 1 = omega (arith, ne, h.end, elements_sized c4 elements _ _ es.at) in
    let e3 : length c3 ≡ length c1 + 1 + 1 = omega (arith, h.end, w.end) in
    record {
      grows = grows_on c c1 d ee.grows g1;
      at = elem_of d _ _ _ _ _ (ap out-CElem is ∙ element.outs-Unwind names e elements)
          (unwinds_elements names e elements (length c) (length c1) (length c4) (grow_expr c1 d g1 _ _ _ ee.at) (g2.has _ _ w.has)
          (has_at d _ _ _ (subst (λ s. Has d (length c2) (i.Next (length c4 + 1) s)) se (goal_at d (λ m. i.Next m own) _ _ _ (g3.has _ _ h.has) there)) w.end)
          (subst (λ a. ElemsAt d elements a (length c4)) e3 (grow_elements c4 d g4 elements _ _ es.at)) (goal_at d i.Jump _ _ _ j.has (te ∙ w.end))) j.end;
    }
