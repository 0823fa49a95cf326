-- Indexes of targets, and the expressions that read them, as the generator writes them.
use Rattle.std.proofs.Common.{◌≡◌, ℕ, ◌+◌, ◌<◌, List, [], ◌∷◌, ◌++◌, length, Some, refl, sym, ap, subst, ◌∙◌, arith, take, get_or}
use Rattle.std.proofs.lemmas.List.{take_more}
use Rattle.std.specs.Prelude.{slice_get}
use Rattle.chi_types.specs.declared.ty.Ty.{Ty, Ty-F, out-Ty}
use Rattle.chi_types.specs.declared.ty.Ty.TheVariants as ty
use Rattle.chi_core.specs.declared.expression.CExpr.{CExpr}
use Rattle.chi_core.specs.declared.op_name.OpName.TheVariants as op
use Rattle.chi_core.specs.declared.target.CStep.{CStep}
use Rattle.chi_core.specs.declared.target.CStep.TheVariants as step
use Rattle.chi_core.specs.declared.target.CTarget.{CTarget}
use Rattle.chi_code.specs.declared.instr.Instr.{Instr}
use Rattle.chi_code.specs.declared.instr.Instr.TheVariants as i
use Rattle.chi_code.specs.Aims.{step_indexes, indexes_of}
use Rattle.chi_code.specs.ExpressionLayout.{ExprsAt, no_expression, one_expression}
use Rattle.chi_code.specs.StatementLayout.{IntoAt, no_step, into_list, into_dictionary, into_tuple, reads}
use Rattle.chi_gen_parts.specs.Added.{AddsOne, AddsExpr, AddsExprs, AddsInto, AddsRead}
use Rattle.chi_gen_sizes.proofs.Indexes.{steps_snoc, targets_snoc}
use Rattle.chi_gen_parts.proofs.Growing.{grows_same, grows_on, grow_expr, grow_exprs}
use Rattle.chi_gen_parts.proofs.AddedExpressions.{add_none}

pub add_index : (s : CStep) (e : CExpr) (c d : List Instr) → s ≡ step.Index e → AddsExpr e c d → AddsExprs (step_indexes (s ∷ [])) c d
add_index s e c d is h = subst (λ s. AddsExprs (step_indexes (s ∷ [])) c d) (sym is)
    (record { grows = h.grows; at = one_expression e [] (length c) (length d) (length d) h.at (no_expression (length d)) })

pub add_number : (s : CStep) (number : ℕ) (c : List Instr) → s ≡ step.Part number → AddsExprs (step_indexes (s ∷ [])) c c
add_number s number c is = subst (λ s. AddsExprs (step_indexes (s ∷ [])) c c) (sym is) (add_none c)

joined : {code : List Instr} (xs ys : List CExpr) (a b n : ℕ) → ExprsAt code xs a b → ExprsAt code ys b n → ExprsAt code (xs ++ ys) a n
joined _ ys _ _ n (no_expression a) k = k
joined _ ys _ _ n (one_expression x xs a b m h r) k = one_expression x (xs ++ ys) a b n h (joined xs ys b m n r k)

pub exprs_then : (es fs : List CExpr) (c c1 d : List Instr) → AddsExprs es c c1 → AddsExprs fs c1 d → AddsExprs (es ++ fs) c d
exprs_then es fs c c1 d h k = record { grows = grows_on c c1 d h.grows k.grows; at = joined es fs _ _ _ (grow_exprs c1 d k.grows es _ _ h.at) k.at }

pub add_step_next : (all : List CStep) (k : ℕ) (s : CStep) (c c1 d : List Instr) → k < length all → s ≡ get_or all k s → AddsExprs (step_indexes (take k all)) c c1 → AddsExprs (step_indexes (s ∷ [])) c1 d
    → AddsExprs (step_indexes (take (k + 1) all)) c d
add_step_next all k s c c1 d h is em en =
    subst (λ l. AddsExprs l c d) (sym (ap step_indexes (take_more all k s h ∙ ap (λ y. take k all ++ y ∷ []) (sym is)) ∙ steps_snoc (take k all) s))
    (exprs_then (step_indexes (take k all)) (step_indexes (s ∷ [])) c c1 d em en)

pub add_target_next : (all : List CTarget) (k : ℕ) (t : CTarget) (c c1 d : List Instr) → k < length all → t ≡ get_or all k t → AddsExprs (indexes_of (take k all)) c c1 → AddsExprs (step_indexes t.steps) c1 d
    → AddsExprs (indexes_of (take (k + 1) all)) c d
add_target_next all k t c c1 d h is em en =
    subst (λ l. AddsExprs l c d) (sym (ap indexes_of (take_more all k t h ∙ ap (λ y. take k all ++ y ∷ []) (sym is)) ∙ targets_snoc (take k all) t))
    (exprs_then (indexes_of (take k all)) (step_indexes t.steps) c c1 d em en)

pub add_no_step : (T : Ty-F Ty) (steps : List CStep) (c : List Instr) → length steps ≡ 0 → AddsInto T steps c c
add_no_step T [] c h = record { grows = grows_same c; at = no_step T (length c) }
add_no_step T (s ∷ steps) c h = absurd (omega (arith, h))

into_as : (d : List Instr) (T U : Ty-F Ty) (steps : List CStep) (a a' b : ℕ) → IntoAt d T steps a b → T ≡ U → a ≡ a' → IntoAt d U steps a' b
into_as d T U steps a a' b h t e = subst (λ T. IntoAt d T steps a' b) t (subst (λ a. IntoAt d T steps a b) e h)

pub add_list : (t inner : Ty) (e : CExpr) (steps : List CStep) (c c1 c2 d : List Instr) → t ≡ ty.ListOf inner → AddsExpr e c c1 → AddsOne (i.Op op.Index 2) c1 c2 → AddsInto (out-Ty inner) steps c2 d
    → AddsInto (out-Ty t) (step.Index e ∷ steps) c d
add_list t inner e steps c c1 c2 d is ee h k =
    let g1 = grows_on c1 c2 d h.grows k.grows in
    record {
      grows = grows_on c c1 d ee.grows g1;
      at = subst (λ T. IntoAt d T (step.Index e ∷ steps) (length c) (length d)) (sym (ap out-Ty is ∙ ty.outs-ListOf inner))
          (into_list inner e steps (length c) (length c1) (length d) (grow_expr c1 d g1 _ _ _ ee.at) (k.grows.has _ _ h.has) (into_as d _ _ _ _ _ _ k.at refl h.end));
    }

pub add_dictionary : (t key inner : Ty) (e : CExpr) (steps : List CStep) (c c1 c2 d : List Instr) → t ≡ ty.DictOf key inner → AddsExpr e c c1 → AddsOne (i.Op op.Lookup 2) c1 c2 → AddsInto (out-Ty inner) steps c2 d
    → AddsInto (out-Ty t) (step.Index e ∷ steps) c d
add_dictionary t key inner e steps c c1 c2 d is ee h k =
    let g1 = grows_on c1 c2 d h.grows k.grows in
    record {
      grows = grows_on c c1 d ee.grows g1;
      at = subst (λ T. IntoAt d T (step.Index e ∷ steps) (length c) (length d)) (sym (ap out-Ty is ∙ ty.outs-DictOf key inner))
          (into_dictionary key inner e steps (length c) (length c1) (length d) (grow_expr c1 d g1 _ _ _ ee.at) (k.grows.has _ _ h.has) (into_as d _ _ _ _ _ _ k.at refl h.end));
    }

pub add_tuple : (t : Ty) (parts : List (List ℕ × Ty)) (p : List ℕ × Ty) (number : ℕ) (steps : List CStep) (c c1 d : List Instr) → t ≡ ty.TupleOf parts → slice_get parts number ≡ Some p → AddsOne (i.Part number) c c1
    → AddsInto (out-Ty p.1) steps c1 d → AddsInto (out-Ty t) (step.Part number ∷ steps) c d
add_tuple t parts p number steps c c1 d is there h k =
    record {
      grows = grows_on c c1 d h.grows k.grows;
      at = subst (λ T. IntoAt d T (step.Part number ∷ steps) (length c) (length d)) (sym (ap out-Ty is ∙ ty.outs-TupleOf parts))
          (into_tuple parts p number steps (length c) (length d) there (k.grows.has _ _ h.has) (into_as d _ _ _ _ _ _ k.at refl h.end));
    }

pub add_read : (slots : List Ty) (t : CTarget) (T : Ty) (steps : List CStep) (c c1 d : List Instr) → slice_get slots t.slot ≡ Some T → steps ≡ t.steps → AddsOne (i.Load t.slot) c c1 → AddsInto (out-Ty T) steps c1 d
    → AddsRead slots t c d
add_read slots t T steps c c1 d there same h k =
    record {
      grows = grows_on c c1 d h.grows k.grows;
      at = reads T (length c) (length d) there (k.grows.has _ _ h.has)
          (subst (λ s. IntoAt d (out-Ty T) s (length c + 1) (length d)) same (into_as d _ _ _ _ _ _ k.at refl h.end));
    }
