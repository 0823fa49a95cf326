-- What each kind of alternative opens, and each kind of element starts, with its parts as lists.
use Rattle.std.proofs.Common.{◌≡◌, ℕ, ℤ, List, Option, map, sym, ◌∙◌}
use Rattle.chi_core.specs.declared.communication.CComm.{CComm}
use Rattle.chi_core.specs.declared.element.CElem.{CElem}
use Rattle.chi_core.specs.declared.element.CElem.TheVariants as elem
use Rattle.chi_core.specs.declared.expression.CExpr.{CExpr}
use Rattle.chi_core.specs.declared.program.ProcDef.{ProcDef}
use Rattle.chi_core.specs.declared.statement.CAlt.{CAlt}
use Rattle.chi_core.specs.declared.statement.CAlt.TheVariants as alt
use Rattle.chi_core.specs.declared.statement.CStat.{CStat}
use Rattle.chi_core.specs.declared.target.CTarget.{CTarget}
use Rattle.chi_core.specs.declared.view.View.{View}
use Rattle.chi_core.specs.Evaluation.{Evaluates}
use Rattle.chi_core.specs.Opening.{Opening, opens, guarded, unwinds}
use Rattle.chi_core.specs.Starting.{Started, starts, makes}
use Rattle.chi_core.specs.Variables.{Variables}
use Rattle.chi_core.proofs.Opened.{opens_guarded, opens_unwind}
use Rattle.chi_core.proofs.Started.{starts_make, starts_unwind}
use Rattle.chi_plain_open.specs.Drafts.{starts_unwound}

module _ (value_in : Variables → Evaluates) (clock : ℤ) (names : List ℕ) (o : Opening) (view : View) (x : CAlt) where
  pub guarded_is : (guard : Option CExpr) (communication : CComm) (body now : List CStat) → x ≡ alt.Guarded guard communication body → now ≡ body
      → opens value_in clock x names o view ≡ guarded value_in clock guard names communication now o view
  guarded_is guard communication body now e same =
      opens_guarded value_in clock names o view x guard communication body e ∙ (λ k. guarded value_in clock guard names communication (sym same k) o view)

  pub unwinds_is : (slots slots_now : List ℕ) (over : CExpr) (alternatives now : List CAlt) → x ≡ alt.Unwind slots over alternatives → slots_now ≡ slots → now ≡ alternatives
      → opens value_in clock x names o view ≡ unwinds value_in clock slots_now over (map (opens value_in clock) now) names o view
  unwinds_is slots slots_now over alternatives now e same alike =
      opens_unwind value_in clock names o view x slots over alternatives e
      ∙ (λ k. unwinds value_in clock (sym same k) over (map (opens value_in clock) (sym alike k)) names o view)

module _ (value_in : Variables → Evaluates) (processes : List ProcDef) (s : Started) (view : View) (x : CElem) where
  pub makes_is : (target : Option CTarget) (process : ℕ) (arguments now : List CExpr) → x ≡ elem.Make target process arguments → now ≡ arguments
      → starts value_in processes x s view ≡ makes value_in processes target process now s view
  makes_is target process arguments now e same =
      starts_make value_in processes s view x target process arguments e ∙ (λ k. makes value_in processes target process (sym same k) s view)

  pub starts_unwound_is : (slots slots_now : List ℕ) (over : CExpr) (elements now : List CElem) → x ≡ elem.Unwind slots over elements → slots_now ≡ slots → now ≡ elements
      → starts value_in processes x s view ≡ starts_unwound value_in processes slots_now over (map (starts value_in processes) now) s view
  starts_unwound_is slots slots_now over elements now e same alike =
      starts_unwind value_in processes s view x slots over elements e
      ∙ (λ k. starts_unwound value_in processes (sym same k) over (map (starts value_in processes) (sym alike k)) s view)
