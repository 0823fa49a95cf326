-- Private to proofs. What each construct comes to, over plain values.
use Rattle.std.proofs.Common.{◌≡◌, ℕ, Bool, true, not, List, [], ◌∷◌, ◌++◌, map, length, Option, Some, None, refl, sym, ap, ◌∙◌}
use Rattle.std.specs.Prelude.{if◌then◌else◌}
use Rattle.chi_token.specs.declared.place.Place.{Place}
use Rattle.chi_tree.specs.declared.expr.Expr.{Expr}
use Rattle.chi_tree.specs.declared.type_tree.TypeTree.{TypeTree}
use Rattle.chi_tree.specs.declared.type_tree.Name.{Name}
use Rattle.chi_tree.specs.declared.statement.Alternative.{Alternative, Alternative-F, map-Alternative, out-Alternative, fold_out-Alternative}
use Rattle.chi_tree.specs.declared.statement.Alternative.TheVariants as alternative
use Rattle.chi_tree.specs.declared.statement.Branch.{Branch, out-Branch, fold_out-Branch}
use Rattle.chi_tree.specs.declared.statement.Communication.{Communication}
use Rattle.chi_tree.specs.declared.statement.Element.{Element, Element-F, map-Element, out-Element, fold_out-Element}
use Rattle.chi_tree.specs.declared.statement.Element.TheVariants as element
use Rattle.chi_tree.specs.declared.statement.Statement.{Statement, Statement-F, map-Statement, out-Statement, fold_out-Statement}
use Rattle.chi_tree.specs.declared.statement.Statement.TheVariants as statement
use Rattle.chi_tree.specs.declared.statement.Step.{Step, out-Step, fold_out-Step}
use Rattle.chi_tree.specs.declared.statement.Target.{Target}
use Rattle.chi_tree.specs.declared.statement.Variable.{Variable}
use Rattle.chi_tree.specs.declared.statement.Walk.{Walk}
use Rattle.chi_core.specs.declared.element.CElem.{CElem}
use Rattle.chi_core.specs.declared.statement.Branch.{Branch as CBranch}
use Rattle.chi_core.specs.declared.statement.CAlt.{CAlt}
use Rattle.chi_core.specs.declared.statement.CStat.{CStat}
use Rattle.chi_core.specs.declared.statement.CStat.TheVariants as core
use Rattle.chi_check_types.specs.declared.fault.Fault.{Fault}
use Rattle.chi_check_types.specs.Faults.{first_of, are_none}
use Rattle.chi_check_types.proofs.Firsts.{first_of_none, first_of_append}
use Rattle.chi_check_types.proofs.Ruled.{faults_unless}
use Rattle.chi_check_stat_rules.specs.declared.home.Home.{Home}
use Rattle.chi_check_stat_rules.specs.Endings.{loop_rule}
use Rattle.chi_check_stat_rules.specs.Homes.{running_rule}
use Rattle.chi_check_stat_lines.specs.declared.state.Binder.TheVariants as binder
use Rattle.chi_check_stat_lines.specs.declared.state.State.{State}
use Rattle.chi_check_stat_lines.specs.Stated.{Turn, in_turn}
use Rattle.chi_check_stat_lines.specs.States.{Going}
use Rattle.chi_check_stat.specs.Statements.{element_step, starting, statement_step, branch_step, alternative_step, step_step, stating, stepping, branching, offering}

module _ (home : Home) where
  pub statement_is : (x : Statement) (o : Statement-F Alternative Statement Branch Step) (loop : Bool) (s : State) → out-Statement x ≡ o
      → stating home x loop s ≡ statement_step home (map-Statement Alternative Statement Branch Step (Going CAlt) (Going CStat) (Going CBranch) (Going CStat) (offering home) (stating home) (branching home) (stepping home) o) loop s
  unfolding stating stepping branching offering
  statement_is x o loop s h = ap (λ (g : Going CStat). g loop s) (fold_out-Statement (Going CAlt) (Going CStat) (Going CBranch) (Going CStat) (alternative_step home) (statement_step home) (branch_step home) (step_step home) x
      ∙ ap (λ o. statement_step home (map-Statement Alternative Statement Branch Step (Going CAlt) (Going CStat) (Going CBranch) (Going CStat) (offering home) (stating home) (branching home) (stepping home) o)) h)

  pub alternative_is : (x : Alternative) (o : Alternative-F Alternative Statement Branch Step) (loop : Bool) (s : State) → out-Alternative x ≡ o
      → offering home x loop s ≡ alternative_step home (map-Alternative Alternative Statement Branch Step (Going CAlt) (Going CStat) (Going CBranch) (Going CStat) (offering home) (stating home) (branching home) (stepping home) o) loop s
  unfolding stating stepping branching offering
  alternative_is x o loop s h = ap (λ (g : Going CAlt). g loop s) (fold_out-Alternative (Going CAlt) (Going CStat) (Going CBranch) (Going CStat) (alternative_step home) (statement_step home) (branch_step home) (step_step home) x
      ∙ ap (λ o. alternative_step home (map-Alternative Alternative Statement Branch Step (Going CAlt) (Going CStat) (Going CBranch) (Going CStat) (offering home) (stating home) (branching home) (stepping home) o)) h)

  pub branch_is : (x : Branch) (loop : Bool) (s : State) → branching home x loop s ≡ branch_step home (record { condition = (out-Branch x).condition; block = map (stepping home) (out-Branch x).block }) loop s
  unfolding stating stepping branching offering
  branch_is x loop s = ap (λ (g : Going CBranch). g loop s) (fold_out-Branch (Going CAlt) (Going CStat) (Going CBranch) (Going CStat) (alternative_step home) (statement_step home) (branch_step home) (step_step home) x)

  -- a step is its statement
  pub step_is : (x : Step) (loop : Bool) (s : State) → stepping home x loop s ≡ stating home (out-Step x).statement loop s
  unfolding stating stepping branching offering
  step_is x loop s = ap (λ (g : Going CStat). g loop s) (fold_out-Step (Going CAlt) (Going CStat) (Going CBranch) (Going CStat) (alternative_step home) (statement_step home) (branch_step home) (step_step home) x)

  pub element_is : (x : Element) (o : Element-F Element) (s : State) → out-Element x ≡ o → starting home x s ≡ element_step home (map-Element Element (Turn State CElem) (starting home) o) s
  element_is x o s h = ap (λ (g : Turn State CElem). g s) (fold_out-Element (Turn State CElem) (element_step home) x ∙ ap (λ o. element_step home (map-Element Element (Turn State CElem) (starting home) o)) h)
