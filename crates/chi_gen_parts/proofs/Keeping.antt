-- An instruction that is written anew: what stands behind it stands there still, and so does what was there before it.
use Rattle.std.proofs.Common.{◌≡◌, ◌≢◌, ℕ, zero, suc, ◌+◌, ◌<◌, ◌≤◌, List, [], ◌∷◌, length, Some, set, refl, ap, ◌∙◌, arith}
use Rattle.std.proofs.lemmas.List.{length-set}
use Rattle.std.proofs.lemmas.Option.{slice_get_within}
use Rattle.std.specs.Prelude.{slice_get}
use Rattle.chi_core.specs.declared.element.CElem.{CElem, CElem-F, out-CElem}
use Rattle.chi_core.specs.declared.expression.CExpr.{CExpr, CExpr-F, out-CExpr}
use Rattle.chi_code.specs.declared.instr.Instr.{Instr}
use Rattle.chi_code.specs.Aims.{some_indexes}
use Rattle.chi_code.specs.ExpressionLayout.{Has, ExprAt, literal, variable, constant, operation, both, either, container, part, call, insertion, fresh, repetition, ExprsAt, no_expression, one_expression}
use Rattle.chi_code.specs.StatementLayout.{ElemAt, makes, unwinds_elements, ElemsAt, no_element, one_element}
use Rattle.chi_gen_parts.specs.Added.{Grows}

-- what stands from a place on
module _ (c d : List Instr) (from : ℕ) (g : (p : ℕ) (x : Instr) → from ≤ p → Has c p x → Has d p x) where
  mutual
    pub keep_expr : (o : CExpr-F CExpr) (a b : ℕ) → ExprAt c o a b → from ≤ a → ExprAt d o a b × (from ≤ b)
    keep_expr _ _ _ (literal v a h) l = (literal v a (g _ _ l h), omega (arith, l))
    keep_expr _ _ _ (variable slot a h) l = (variable slot a (g _ _ l h), omega (arith, l))
    keep_expr _ _ _ (constant number a h) l = (constant number a (g _ _ l h), omega (arith, l))
    keep_expr _ _ _ (operation name es a b h k) l = let s = keep_exprs es a b h l in (operation name es a b s.0 (g _ _ s.1 k), omega (arith, s.1))
    keep_expr _ _ _ (both x y a b n h k r) l =
        let s = keep_expr (out-CExpr x) a b h l in
        let t = keep_expr (out-CExpr y) (b + 1) n r (omega (arith, s.1)) in
        (both x y a b n s.0 (g _ _ s.1 k) t.0, t.1)
    keep_expr _ _ _ (either x y a b n h k r) l =
        let s = keep_expr (out-CExpr x) a b h l in
        let t = keep_expr (out-CExpr y) (b + 1) n r (omega (arith, s.1)) in
        (either x y a b n s.0 (g _ _ s.1 k) t.0, t.1)
    keep_expr _ _ _ (container kind es a b h k) l = let s = keep_exprs es a b h l in (container kind es a b s.0 (g _ _ s.1 k), omega (arith, s.1))
    keep_expr _ _ _ (part x number a b h k) l = let s = keep_expr (out-CExpr x) a b h l in (part x number a b s.0 (g _ _ s.1 k), omega (arith, s.1))
    keep_expr _ _ _ (call number es a b h k) l = let s = keep_exprs es a b h l in (call number es a b s.0 (g _ _ s.1 k), omega (arith, s.1))
    keep_expr _ _ _ (insertion x y number a b n h k s p r f q) l =
        let u = keep_expr (out-CExpr x) a b h l in
        let v = keep_expr (out-CExpr y) b n k u.1 in
        (insertion x y number a b n u.0 v.0 (g _ _ v.1 s) (g _ _ (omega (arith, v.1)) p) (g _ _ (omega (arith, v.1)) r) (g _ _ (omega (arith, v.1)) f) (g _ _ (omega (arith, v.1)) q), omega (arith, v.1))
    keep_expr _ _ _ (fresh shape a h) l = (fresh shape a (g _ _ l h), omega (arith, l))
    keep_expr _ _ _ (repetition x y a b n h r m k q j) l =
        let u = keep_expr (out-CExpr x) a b h l in
        let v = keep_expr (out-CExpr y) (b + 1 + 1) n k (omega (arith, u.1)) in
        (repetition x y a b n u.0 (g _ _ u.1 r) (g _ _ (omega (arith, u.1)) m) v.0 (g _ _ v.1 q) (g _ _ (omega (arith, v.1)) j), omega (arith, v.1))

    pub keep_exprs : (es : List CExpr) (a b : ℕ) → ExprsAt c es a b → from ≤ a → ExprsAt d es a b × (from ≤ b)
    keep_exprs _ _ _ (no_expression a) l = (no_expression a, l)
    keep_exprs _ _ _ (one_expression x xs a b n h k) l =
        let s = keep_expr (out-CExpr x) a b h l in
        let t = keep_exprs xs b n k s.1 in
        (one_expression x xs a b n s.0 t.0, t.1)

  mutual
    keep_element : (o : CElem-F CElem) (a b : ℕ) → ElemAt c o a b → from ≤ a → ElemAt d o a b × (from ≤ b)
    keep_element _ _ _ (makes target process es a b n h k r) l =
        let s = keep_exprs es a b h l in
        let t = keep_exprs (some_indexes target) b n k s.1 in
        (makes target process es a b n s.0 t.0 (g _ _ t.1 r), omega (arith, t.1))
    keep_element _ _ _ (unwinds_elements names e elements a b n h w k r j) l =
        let s = keep_expr (out-CExpr e) a b h l in
        let t = keep_elements elements (b + 1 + 1) n r (omega (arith, s.1)) in
        (unwinds_elements names e elements a b n s.0 (g _ _ s.1 w) (g _ _ (omega (arith, s.1)) k) t.0 (g _ _ t.1 j), omega (arith, t.1))

    pub keep_elements : (xs : List CElem) (a b : ℕ) → ElemsAt c xs a b → from ≤ a → ElemsAt d xs a b × (from ≤ b)
    keep_elements _ _ _ (no_element a) l = (no_element a, l)
    keep_elements _ _ _ (one_element x xs a b n h k) l =
        let s = keep_element (out-CElem x) a b h l in
        let t = keep_elements xs b n k s.1 in
        (one_element x xs a b n s.0 t.0, t.1)

-- one instruction of a list

set_other : (c : List Instr) (at : ℕ) (y : Instr) (p : ℕ) → p ≢ at → slice_get (set c at y) p ≡ slice_get c p
set_other [] at y p h = refl
set_other (x ∷ c) zero y zero h = absurd (h refl)
set_other (x ∷ c) zero y (suc p) h = refl
set_other (x ∷ c) (suc at) y zero h = refl
set_other (x ∷ c) (suc at) y (suc p) h = set_other c at y p (λ e. h (ap suc e))

set_there : (c : List Instr) (at : ℕ) (y : Instr) → at < length c → slice_get (set c at y) at ≡ Some y
set_there [] at y h = absurd (omega (arith, h))
set_there (x ∷ c) zero y h = refl
set_there (x ∷ c) (suc at) y h = set_there c at y (omega (arith, h))

-- where one was written anew

module _ (c c1 d : List Instr) (y : Instr) (is : d ≡ set c1 (length c) y) where
  pub filled_end : length d ≡ length c1
  filled_end = ap length is ∙ length-set c1 (length c) y

  pub filled_has : length c < length c1 → Has d (length c) y
  filled_has h = ap (λ l. slice_get l (length c)) is ∙ set_there c1 (length c) y h

  pub filled_keeps : (p : ℕ) (x : Instr) → length c + 1 ≤ p → Has c1 p x → Has d p x
  filled_keeps p x l h = ap (λ l. slice_get l p) is ∙ set_other c1 (length c) y p (omega (arith, l)) ∙ h

  pub filled_grows : Grows c c1 → Grows c d
  filled_grows g = record { has = λ p x h. let l = slice_get_within c p x h in ap (λ l. slice_get l p) is ∙ set_other c1 (length c) y p (omega (arith, l)) ∙ g.has p x h }
