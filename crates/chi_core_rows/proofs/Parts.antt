-- What alternatives and elements that are written out open and start.
use Rattle.std.proofs.Common.{◌≡◌, ℕ, ℤ, List, Option, map, refl}
use Rattle.chi_core.specs.declared.expression.CExpr.{CExpr}
use Rattle.chi_core.specs.declared.statement.CStat.{CStat}
use Rattle.chi_core.specs.declared.statement.CAlt.{CAlt}
use Rattle.chi_core.specs.declared.statement.CAlt.TheVariants as alternative
use Rattle.chi_core.specs.declared.communication.CComm.{CComm}
use Rattle.chi_core.specs.declared.element.CElem.{CElem}
use Rattle.chi_core.specs.declared.element.CElem.TheVariants as elem
use Rattle.chi_core.specs.declared.target.CTarget.{CTarget}
use Rattle.chi_core.specs.declared.program.ProcDef.{ProcDef}
use Rattle.chi_core.specs.declared.view.View.{View}
use Rattle.chi_core.specs.Answer.{then_do, wanted, through}
use Rattle.chi_core.specs.Reading.{elements_of}
use Rattle.chi_core.specs.Variables.{Variables}
use Rattle.chi_core.specs.Evaluation.{Evaluates}
use Rattle.chi_core.specs.Opening.{Opening, opens, guarded, unwinds}
use Rattle.chi_core.specs.Starting.{Started, starts, makes, unwound}
use Rattle.chi_core.proofs.Opened.{opens_guarded, opens_unwind}
use Rattle.chi_core.proofs.Started.{starts_make, starts_unwind}

module _ (value_in : Variables → Evaluates) (clock : ℤ) (names : List ℕ) (o : Opening) (view : View) where
  pub guarded_opens : (guard : Option CExpr) (communication : CComm) (body : List CStat)
      → opens value_in clock (alternative.Guarded guard communication body) names o view ≡ guarded value_in clock guard names communication body o view
  guarded_opens guard communication body = opens_guarded value_in clock names o view (alternative.Guarded guard communication body) guard communication body refl

  pub unwind_opens : (slots : List ℕ) (over : CExpr) (alternatives : List CAlt)
      → opens value_in clock (alternative.Unwind slots over alternatives) names o view ≡ unwinds value_in clock slots over (map (opens value_in clock) alternatives) names o view
  unwind_opens slots over alternatives = opens_unwind value_in clock names o view (alternative.Unwind slots over alternatives) slots over alternatives refl

module _ (value_in : Variables → Evaluates) (processes : List ProcDef) (s : Started) (view : View) where
  pub make_starts : (target : Option CTarget) (process : ℕ) (arguments : List CExpr)
      → starts value_in processes (elem.Make target process arguments) s view ≡ makes value_in processes target process arguments s view
  make_starts target process arguments = starts_make value_in processes s view (elem.Make target process arguments) target process arguments refl

  pub unwind_starts : (slots : List ℕ) (over : CExpr) (elements : List CElem)
      → starts value_in processes (elem.Unwind slots over elements) s view
      ≡ then_do (value_in s.variables over view) (λ x now.
      then_do (wanted (elements_of x) now) (λ xs.
      through (unwound value_in processes slots (map (starts value_in processes) elements)) xs s))
  unwind_starts slots over elements = starts_unwind value_in processes s view (elem.Unwind slots over elements) slots over elements refl

pub ruleset parts = (guarded_opens, unwind_opens, make_starts, unwind_starts)
