-- The code of an expression sets no constant.
use Rattle.std.proofs.Common.{◌≡◌, ℕ, zero, suc, ◌+◌, List, [], ◌∷◌, refl, ap, ◌∙◌, arith}
use Rattle.std.specs.Prelude.{drop}
use Rattle.chi_core.specs.declared.expression.CExpr.{CExpr, CExpr-F, out-CExpr}
use Rattle.chi_code.specs.declared.instr.Instr.{Instr}
use Rattle.chi_code.specs.declared.instr.Instr.TheVariants as i
use Rattle.chi_code.specs.ExpressionLayout.{Has, ExprAt, literal, variable, constant, operation, both, either, container, part, call, insertion, fresh, repetition, ExprsAt, no_expression, one_expression}
use Rattle.chi_machine_laws.specs.Beginning.{line_from}

from_there : (code : List Instr) (a : ℕ) (x : Instr) → Has code a x → drop a code ≡ x ∷ drop (suc a) code
from_there [] a x h = absurd (cc)
from_there (y ∷ code) zero x h = let same : y ≡ x = cc in ap (λ y. y ∷ code) same
from_there (y ∷ code) (suc a) x h = from_there code a x h

pub at_drop : (code : List Instr) (a : ℕ) (x : Instr) → Has code a x → drop a code ≡ x ∷ drop (a + 1) code
at_drop code a x h = let e : suc a ≡ a + 1 = omega arith in from_there code a x h ∙ ap (λ n. x ∷ drop n code) e

module _ (code : List Instr) where
  abbrev Skips : ℕ → ℕ → Type 0
  Skips a b = line_from (drop a code) ≡ line_from (drop b code)

  one : (a : ℕ) (x : Instr) → Has code a x → ((rest : List Instr) → line_from (x ∷ rest) ≡ line_from rest) → Skips a (a + 1)
  one a x h is = ap line_from (at_drop code a x h) ∙ is (drop (a + 1) code)

  mutual
    pub expr_skips : (o : CExpr-F CExpr) (a b : ℕ) → ExprAt code o a b → Skips a b
    expr_skips _ _ _ (literal v a h) = one a (i.Push v) h (λ rest. refl)
    expr_skips _ _ _ (variable slot a h) = one a (i.Load slot) h (λ rest. refl)
    expr_skips _ _ _ (constant number a h) = one a (i.Const number) h (λ rest. refl)
    expr_skips _ _ _ (operation name es a b h k) = exprs_skip es a b h ∙ one b _ k (λ rest. refl)
    expr_skips _ _ _ (both f g a b c h k l) = expr_skips (out-CExpr f) a b h ∙ one b (i.And c) k (λ rest. refl) ∙ expr_skips (out-CExpr g) (b + 1) c l
    expr_skips _ _ _ (either f g a b c h k l) = expr_skips (out-CExpr f) a b h ∙ one b (i.Or c) k (λ rest. refl) ∙ expr_skips (out-CExpr g) (b + 1) c l
    expr_skips _ _ _ (container kind es a b h k) = exprs_skip es a b h ∙ one b _ k (λ rest. refl)
    expr_skips _ _ _ (part e number a b h k) = expr_skips (out-CExpr e) a b h ∙ one b (i.Part number) k (λ rest. refl)
    expr_skips _ _ _ (call number es a b h k) = exprs_skip es a b h ∙ one b (i.Call number) k (λ rest. refl)
    expr_skips _ _ _ (insertion xs x number a b c h k s p q f l) =
        expr_skips (out-CExpr xs) a b h ∙ expr_skips (out-CExpr x) b c k ∙ one c i.Scan s (λ rest. refl) ∙ one (c + 1) _ p (λ rest. refl) ∙ one (c + 1 + 1) (i.Call number) q (λ rest. refl)
        ∙ one (c + 1 + 1 + 1) (i.Found (c + 1)) f (λ rest. refl) ∙ one (c + 1 + 1 + 1 + 1) i.Place l (λ rest. refl)
    expr_skips _ _ _ (fresh shape a h) = one a (i.Default shape) h (λ rest. refl)
    expr_skips _ _ _ (repetition count each a b c h r p k s j) =
        expr_skips (out-CExpr count) a b h ∙ one b i.Repeat r (λ rest. refl) ∙ one (b + 1) _ p (λ rest. refl) ∙ expr_skips (out-CExpr each) (b + 1 + 1) c k ∙ one c i.Add s (λ rest. refl) ∙ one (c + 1) _ j (λ rest. refl)

    exprs_skip : (es : List CExpr) (a b : ℕ) → ExprsAt code es a b → Skips a b
    exprs_skip _ _ _ (no_expression a) = refl
    exprs_skip _ _ _ (one_expression x xs a b c h k) = expr_skips (out-CExpr x) a b h ∙ exprs_skip xs b c k
