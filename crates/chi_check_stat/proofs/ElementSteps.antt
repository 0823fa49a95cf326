-- Private to proofs. What each construct comes to, over plain values.
use Rattle.std.proofs.Common.{◌≡◌, ℕ, Bool, true, not, List, [], ◌∷◌, ◌++◌, map, length, Option, Some, None, refl, sym, ap, ◌∙◌}
use Rattle.std.specs.Prelude.{if◌then◌else◌}
use Rattle.chi_token.specs.declared.place.Place.{Place}
use Rattle.chi_tree.specs.declared.expr.Expr.{Expr}
use Rattle.chi_tree.specs.declared.type_tree.TypeTree.{TypeTree}
use Rattle.chi_tree.specs.declared.type_tree.Name.{Name}
use Rattle.chi_tree.specs.declared.statement.Alternative.{Alternative, Alternative-F, map-Alternative, out-Alternative, fold_out-Alternative}
use Rattle.chi_tree.specs.declared.statement.Alternative.TheVariants as alternative
use Rattle.chi_tree.specs.declared.statement.Branch.{Branch, out-Branch, fold_out-Branch}
use Rattle.chi_tree.specs.declared.statement.Communication.{Communication}
use Rattle.chi_tree.specs.declared.statement.Element.{Element, Element-F, map-Element, out-Element, fold_out-Element}
use Rattle.chi_tree.specs.declared.statement.Element.TheVariants as element
use Rattle.chi_tree.specs.declared.statement.Statement.{Statement, Statement-F, map-Statement, out-Statement, fold_out-Statement}
use Rattle.chi_tree.specs.declared.statement.Statement.TheVariants as statement
use Rattle.chi_tree.specs.declared.statement.Step.{Step, out-Step, fold_out-Step}
use Rattle.chi_tree.specs.declared.statement.Target.{Target}
use Rattle.chi_tree.specs.declared.statement.Variable.{Variable}
use Rattle.chi_tree.specs.declared.statement.Walk.{Walk}
use Rattle.chi_core.specs.declared.element.CElem.{CElem}
use Rattle.chi_core.specs.declared.statement.Branch.{Branch as CBranch}
use Rattle.chi_core.specs.declared.statement.CAlt.{CAlt}
use Rattle.chi_core.specs.declared.statement.CStat.{CStat}
use Rattle.chi_core.specs.declared.statement.CStat.TheVariants as core
use Rattle.chi_check_types.specs.declared.fault.Fault.{Fault}
use Rattle.chi_check_types.specs.Faults.{first_of, are_none}
use Rattle.chi_check_types.proofs.Firsts.{first_of_none, first_of_append}
use Rattle.chi_check_types.proofs.Ruled.{faults_unless}
use Rattle.chi_check_stat_rules.specs.declared.home.Home.{Home}
use Rattle.chi_check_stat_rules.specs.Endings.{loop_rule}
use Rattle.chi_check_stat_rules.specs.Homes.{running_rule}
use Rattle.chi_check_stat_lines.specs.declared.state.Binder.TheVariants as binder
use Rattle.chi_check_stat_lines.specs.declared.state.State.{State}
use Rattle.chi_check_stat_lines.specs.Stated.{Stated, in_turn, one}
use Rattle.chi_check_stat_lines.specs.States.{cut}
use Rattle.chi_check_stat_lines.specs.Declarations.{walk_in}
use Rattle.chi_check_stat_lines.specs.Lines.{element_in}
use Rattle.chi_check_stat.specs.Statements.{starting, unwound}
use Rattle.chi_check_stat.proofs.Folds.{element_is}

module _ (home : Home) (x : Element) (s : State) where
  pub next_make : (target : Option Target) (name : Name) (arguments : List Expr) → x ≡ element.Make target name arguments → (starting home x s).next ≡ s
  next_make target name arguments h = ap (λ (t : Stated State (List CElem)). t.next) (element_is home x (Element-F.Make target name arguments) s (ap out-Element h ∙ element.outs-Make target name arguments))

  pub made_make : (target : Option Target) (name : Name) (arguments : List Expr) → x ≡ element.Make target name arguments → (starting home x s).made ≡ one (element_in home s.names target name arguments).made
  made_make target name arguments h = ap (λ (t : Stated State (List CElem)). t.made) (element_is home x (Element-F.Make target name arguments) s (ap out-Element h ∙ element.outs-Make target name arguments))

  pub noted_make : (kept : Option Fault) (target : Option Target) (name : Name) (arguments : List Expr) → x ≡ element.Make target name arguments → first_of kept (starting home x s).faults ≡ first_of kept (element_in home s.names target name arguments).faults
  noted_make kept target name arguments h = ap (λ (t : Stated State (List CElem)). first_of kept t.faults) (element_is home x (Element-F.Make target name arguments) s (ap out-Element h ∙ element.outs-Make target name arguments))

  pub next_unwind : (place : Place) (walk : Walk) (elements : List Element) → x ≡ element.Unwind place walk elements → (starting home x s).next ≡ cut (length s.names) (in_turn (map (starting home) elements) (walk_in home binder.Unwind walk s).next).next
  next_unwind place walk elements h = ap (λ (t : Stated State (List CElem)). t.next) (element_is home x (Element-F.Unwind place walk elements) s (ap out-Element h ∙ element.outs-Unwind place walk elements))

  pub made_unwind : (place : Place) (walk : Walk) (elements : List Element) → x ≡ element.Unwind place walk elements → (starting home x s).made ≡ unwound (walk_in home binder.Unwind walk s).made (in_turn (map (starting home) elements) (walk_in home binder.Unwind walk s).next).made
  made_unwind place walk elements h = ap (λ (t : Stated State (List CElem)). t.made) (element_is home x (Element-F.Unwind place walk elements) s (ap out-Element h ∙ element.outs-Unwind place walk elements))

  pub noted_unwind : (kept : Option Fault) (place : Place) (walk : Walk) (elements : List Element) → x ≡ element.Unwind place walk elements → first_of kept (starting home x s).faults ≡ first_of (first_of kept (walk_in home binder.Unwind walk s).faults) (in_turn (map (starting home) elements) (walk_in home binder.Unwind walk s).next).faults
  noted_unwind kept place walk elements h = ap (λ (t : Stated State (List CElem)). first_of kept t.faults) (element_is home x (Element-F.Unwind place walk elements) s (ap out-Element h ∙ element.outs-Unwind place walk elements)) ∙ first_of_append kept _ _
