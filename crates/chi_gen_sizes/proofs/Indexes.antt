-- The indexes of one step, or of one target, more.
use Rattle.std.proofs.Common.{◌≡◌, List, [], ◌∷◌, ◌++◌, refl, sym, ap, ◌∙◌, append_assoc}
use Rattle.chi_core.specs.declared.target.CStep.{CStep}
use Rattle.chi_core.specs.declared.target.CStep.TheVariants as step
use Rattle.chi_core.specs.declared.target.CTarget.{CTarget}
use Rattle.chi_code.specs.Aims.{step_indexes, indexes_of}

pub steps_snoc : (xs : List CStep) (s : CStep) → step_indexes (xs ++ s ∷ []) ≡ step_indexes xs ++ step_indexes (s ∷ [])
steps_snoc [] s = refl
steps_snoc (step.Index e ∷ xs) s = ap (λ l. e ∷ l) (steps_snoc xs s)
steps_snoc (step.Part number ∷ xs) s = steps_snoc xs s

append_nil : {A : Type 0} (xs : List A) → xs ++ [] ≡ xs
append_nil [] = refl
append_nil (x ∷ xs) = ap (λ l. x ∷ l) (append_nil xs)

pub targets_snoc : (xs : List CTarget) (t : CTarget) → indexes_of (xs ++ t ∷ []) ≡ indexes_of xs ++ step_indexes t.steps
targets_snoc [] t = append_nil (step_indexes t.steps)
targets_snoc (x ∷ xs) t = ap (λ l. step_indexes x.steps ++ l) (targets_snoc xs t) ∙ sym (append_assoc (step_indexes x.steps) (indexes_of xs) (step_indexes t.steps))
