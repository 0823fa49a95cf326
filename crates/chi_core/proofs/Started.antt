-- What each kind of element starts.
use Rattle.std.proofs.Common.{◌≡◌, ℕ, List, Option, map, ap, ◌∙◌}
use Rattle.chi_core.specs.declared.expression.CExpr.{CExpr}
use Rattle.chi_core.specs.declared.program.ProcDef.{ProcDef}
use Rattle.chi_core.specs.declared.element.CElem.{CElem, CElem-F, out-CElem, fold_out-CElem, map-CElem}
use Rattle.chi_core.specs.declared.element.CElem.TheVariants as elem
use Rattle.chi_core.specs.declared.target.CTarget.{CTarget}
use Rattle.chi_core.specs.Answer.{View, then_do, wanted, through}
use Rattle.chi_core.specs.Reading.{elements_of}
use Rattle.chi_core.specs.Variables.{Variables}
use Rattle.chi_core.specs.Evaluation.{Evaluates}
use Rattle.chi_core.specs.Starting.{Started, Starts, starts, starts_step, makes, unwound}

module _ (value_in : Variables → Evaluates) (processes : List ProcDef) (s : Started) (view : View) where
  starts_out : (x : CElem) (layer : CElem-F CElem) → out-CElem x ≡ layer
      → starts value_in processes x s view ≡ starts_step value_in processes (map-CElem _ _ (starts value_in processes) layer) s view
  unfolding starts
  starts_out x layer h =
      ap (λ f. f s view) (fold_out-CElem (Starts value_in processes) (starts_step value_in processes) x)
      ∙ ap (λ o. starts_step value_in processes (map-CElem _ _ (starts value_in processes) o) s view) h

  pub starts_make : (x : CElem) (target : Option CTarget) (process : ℕ) (arguments : List CExpr) → x ≡ elem.Make target process arguments
      → starts value_in processes x s view ≡ makes value_in processes target process arguments s view
  starts_make x target process arguments e =
      ap (λ x. starts value_in processes x s view) e
      ∙ starts_out (elem.Make target process arguments) _ (elem.outs-Make target process arguments)

  pub starts_unwind : (x : CElem) (slots : List ℕ) (over : CExpr) (elements : List CElem) → x ≡ elem.Unwind slots over elements
      → starts value_in processes x s view
      ≡ then_do (value_in s.variables over view) (λ x now.
      then_do (wanted (elements_of x) now) (λ xs.
      through (unwound value_in processes slots (map (starts value_in processes) elements)) xs s))
  starts_unwind x slots over elements e =
      ap (λ x. starts value_in processes x s view) e
      ∙ starts_out (elem.Unwind slots over elements) _ (elem.outs-Unwind slots over elements)
