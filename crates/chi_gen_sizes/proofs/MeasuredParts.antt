-- The size of the parts of statements, for the calls that measure.
use Rattle.std.proofs.Common.{◌≡◌, ℕ, ◌+◌, ◌≤◌, ◌<◌, ◌≢◌, Bool, true, false, List, [], ◌∷◌, ◌++◌, length, refl, sym, ap, ◌∙◌, arith, take, get_or, Option}
use Rattle.std.proofs.lemmas.List.{take_more}
use Rattle.std.specs.Prelude.{if◌then◌else◌}
use Rattle.chi_core.specs.declared.element.CElem.{CElem, CElem-F, out-CElem, map-CElem}
use Rattle.chi_core.specs.declared.element.CElem.TheVariants as x
use Rattle.chi_core.specs.declared.expression.CExpr.{CExpr}
use Rattle.chi_core.specs.declared.target.CStep.{CStep}
use Rattle.chi_core.specs.declared.target.CStep.TheVariants as step
use Rattle.chi_core.specs.declared.target.CTarget.{CTarget}
use Rattle.chi_code.specs.Aims.{step_indexes, indexes_of, some_indexes, is_spread}
use Rattle.chi_code.specs.Sizes.{size, sizes, into_size, spread_size, element_step, element_size, elements_size}
use Rattle.chi_code.proofs.Sized.{element_out}
use Rattle.chi_gen_sizes.proofs.Indexes.{steps_snoc, targets_snoc}

sizes_append : (xs ys : List CExpr) → sizes (xs ++ ys) ≡ sizes xs + sizes ys
sizes_append [] ys = omega arith
sizes_append (x ∷ xs) ys = omega (arith, sizes_append xs ys)

pub step_indexes_next : (all : List CStep) (k : ℕ) (s : CStep) → k < length all → s ≡ get_or all k s → sizes (step_indexes (take (k + 1) all)) ≡ sizes (step_indexes (take k all)) + sizes (step_indexes (s ∷ []))
step_indexes_next all k s h is =
    ap (λ l. sizes (step_indexes l)) (take_more all k s h ∙ ap (λ y. take k all ++ y ∷ []) (sym is)) ∙ ap sizes (steps_snoc (take k all) s) ∙ sizes_append (step_indexes (take k all)) (step_indexes (s ∷ []))

pub indexes_next : (all : List CTarget) (k : ℕ) (t : CTarget) → k < length all → t ≡ get_or all k t → sizes (indexes_of (take (k + 1) all)) ≡ sizes (indexes_of (take k all)) + sizes (step_indexes t.steps)
indexes_next all k t h is =
    ap (λ l. sizes (indexes_of l)) (take_more all k t h ∙ ap (λ y. take k all ++ y ∷ []) (sym is)) ∙ ap sizes (targets_snoc (take k all) t) ∙ sizes_append (indexes_of (take k all)) (step_indexes t.steps)

into_snoc : (xs : List CStep) (s : CStep) → into_size (xs ++ s ∷ []) ≡ into_size xs + into_size (s ∷ [])
into_snoc [] s = omega arith
into_snoc (step.Index e ∷ xs) s = omega (arith, into_snoc xs s)
into_snoc (step.Part number ∷ xs) s = omega (arith, into_snoc xs s)

pub into_next : (all : List CStep) (k : ℕ) (s : CStep) → k < length all → s ≡ get_or all k s → into_size (take (k + 1) all) ≡ into_size (take k all) + into_size (s ∷ [])
into_next all k s h is = ap into_size (take_more all k s h ∙ ap (λ y. take k all ++ y ∷ []) (sym is)) ∙ into_snoc (take k all) s

pub spread_by : (ts : List CTarget) (es : List CExpr) → 2 ≤ length ts → length es ≡ 1 → is_spread ts es ≡ true
spread_by [] es h k = absurd (omega (arith, h))
spread_by (t ∷ []) es h k = absurd (omega (arith, h))
spread_by (t ∷ u ∷ ts) [] h k = absurd (omega (arith, k))
spread_by (t ∷ u ∷ ts) (e ∷ []) h k = refl
spread_by (t ∷ u ∷ ts) (e ∷ f ∷ es) h k = absurd (omega (arith, k))

pub few_targets : (ts : List CTarget) (es : List CExpr) → length ts < 2 → is_spread ts es ≡ false
few_targets [] es h = refl
few_targets (t ∷ []) es h = refl
few_targets (t ∷ u ∷ ts) es h = absurd (omega (arith, h))

pub no_spread_by : (ts : List CTarget) (es : List CExpr) → length es ≢ 1 → is_spread ts es ≡ false
no_spread_by [] es h = refl
no_spread_by (t ∷ []) es h = refl
no_spread_by (t ∷ u ∷ ts) [] h = refl
no_spread_by (t ∷ u ∷ ts) (e ∷ []) h = absurd (omega (arith, h))
no_spread_by (t ∷ u ∷ ts) (e ∷ f ∷ es) h = refl

pub spread_sizes : (ts : List CTarget) (es : List CExpr) (b : Bool) → is_spread ts es ≡ b → spread_size ts es ≡ (if b then 1 else 0)
spread_sizes ts es b h = ap {B = ℕ} (λ t. if t then 1 else 0) h

element_layer : (x : CElem) (o : CElem-F CElem) → out-CElem x ≡ o → element_size x ≡ element_step (map-CElem _ _ element_size o)
element_layer x o h = element_out x ∙ ap (λ o. element_step (map-CElem _ _ element_size o)) h

pub size_make : (y : CElem) (target : Option CTarget) (process : ℕ) (es : List CExpr) → y ≡ x.Make target process es → element_size y ≡ sizes es + sizes (some_indexes target) + 1
size_make y target process es h = element_layer y _ (ap out-CElem h ∙ x.outs-Make target process es)

pub size_unwind : (y : CElem) (names : List ℕ) (e : CExpr) (elements : List CElem) → y ≡ x.Unwind names e elements → element_size y ≡ size e + 3 + elements_size elements
size_unwind y names e elements h = let k = element_layer y _ (ap out-CElem h ∙ x.outs-Unwind names e elements) in omega (arith, k)
