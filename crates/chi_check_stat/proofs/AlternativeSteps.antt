-- Private to proofs. What each construct comes to, over plain values.
use Rattle.std.proofs.Common.{◌≡◌, ℕ, Bool, true, not, List, [], ◌∷◌, ◌++◌, map, length, Option, Some, None, refl, sym, ap, ◌∙◌}
use Rattle.std.specs.Prelude.{if◌then◌else◌}
use Rattle.chi_token.specs.declared.place.Place.{Place}
use Rattle.chi_tree.specs.declared.expr.Expr.{Expr}
use Rattle.chi_tree.specs.declared.type_tree.TypeTree.{TypeTree}
use Rattle.chi_tree.specs.declared.type_tree.Name.{Name}
use Rattle.chi_tree.specs.declared.statement.Alternative.{Alternative, Alternative-F, map-Alternative, out-Alternative, fold_out-Alternative}
use Rattle.chi_tree.specs.declared.statement.Alternative.TheVariants as alternative
use Rattle.chi_tree.specs.declared.statement.Branch.{Branch, out-Branch, fold_out-Branch}
use Rattle.chi_tree.specs.declared.statement.Communication.{Communication}
use Rattle.chi_tree.specs.declared.statement.Element.{Element, Element-F, map-Element, out-Element, fold_out-Element}
use Rattle.chi_tree.specs.declared.statement.Element.TheVariants as element
use Rattle.chi_tree.specs.declared.statement.Statement.{Statement, Statement-F, map-Statement, out-Statement, fold_out-Statement}
use Rattle.chi_tree.specs.declared.statement.Statement.TheVariants as statement
use Rattle.chi_tree.specs.declared.statement.Step.{Step, out-Step, fold_out-Step}
use Rattle.chi_tree.specs.declared.statement.Target.{Target}
use Rattle.chi_tree.specs.declared.statement.Variable.{Variable}
use Rattle.chi_tree.specs.declared.statement.Walk.{Walk}
use Rattle.chi_core.specs.declared.element.CElem.{CElem}
use Rattle.chi_core.specs.declared.statement.Branch.{Branch as CBranch}
use Rattle.chi_core.specs.declared.statement.CAlt.{CAlt}
use Rattle.chi_core.specs.declared.statement.CStat.{CStat}
use Rattle.chi_core.specs.declared.statement.CStat.TheVariants as core
use Rattle.chi_check_types.specs.declared.fault.Fault.{Fault}
use Rattle.chi_check_types.specs.Faults.{first_of, are_none}
use Rattle.chi_check_types.proofs.Firsts.{first_of_none, first_of_append}
use Rattle.chi_check_types.proofs.Ruled.{faults_unless}
use Rattle.chi_check_stat_rules.specs.declared.home.Home.{Home}
use Rattle.chi_check_stat_rules.specs.Endings.{loop_rule}
use Rattle.chi_check_stat_rules.specs.Homes.{running_rule}
use Rattle.chi_check_stat_lines.specs.declared.state.Binder.TheVariants as binder
use Rattle.chi_check_stat_lines.specs.declared.state.State.{State}
use Rattle.chi_check_stat_lines.specs.Stated.{Stated, in_turn}
use Rattle.chi_check_stat_lines.specs.States.{cut, block}
use Rattle.chi_check_stat_lines.specs.Values.{test_in, guard_in}
use Rattle.chi_check_stat_lines.specs.Declarations.{walk_in}
use Rattle.chi_check_stat_lines.specs.Lines.{communication_in}
use Rattle.chi_check_stat_lines.specs.Blocks.{branched, guarded, offered}
use Rattle.chi_check_stat.specs.Statements.{stepping, branching, offering, stepping_in, offering_in}
use Rattle.chi_check_stat_lines.proofs.Turns.{turns, blocks}
use Rattle.chi_check_stat.proofs.Folds.{alternative_is, branch_is}

module _ (home : Home) (x : Alternative) (loop : Bool) (s : State) where
  pub next_guarded : (guard : Option Expr) (c : Communication) (inner : List Step) → x ≡ alternative.Guarded guard c inner → (offering home x loop s).next ≡ (block (map (stepping_in home loop) inner) s).next
  next_guarded guard c inner h = ap (λ (t : Stated State (List CAlt)). t.next) (alternative_is home x (Alternative-F.Guarded guard c inner) loop s (ap out-Alternative h ∙ alternative.outs-Guarded guard c inner)) ∙ ap (λ (u : Stated State (List CStat)). u.next) (blocks loop (stepping home) inner s)

  pub made_guarded : (guard : Option Expr) (c : Communication) (inner : List Step) → x ≡ alternative.Guarded guard c inner → (offering home x loop s).made ≡ guarded (guard_in home s.names guard).made (communication_in home s.names c).made (block (map (stepping_in home loop) inner) s).made
  made_guarded guard c inner h = ap (λ (t : Stated State (List CAlt)). t.made) (alternative_is home x (Alternative-F.Guarded guard c inner) loop s (ap out-Alternative h ∙ alternative.outs-Guarded guard c inner)) ∙ ap (λ (u : Stated State (List CStat)). guarded (guard_in home s.names guard).made (communication_in home s.names c).made u.made) (blocks loop (stepping home) inner s)

  pub noted_guarded : (kept : Option Fault) (guard : Option Expr) (c : Communication) (inner : List Step) → x ≡ alternative.Guarded guard c inner → first_of kept (offering home x loop s).faults ≡ first_of (first_of (first_of kept (guard_in home s.names guard).faults) (communication_in home s.names c).faults) (block (map (stepping_in home loop) inner) s).faults
  noted_guarded kept guard c inner h = ap (λ (t : Stated State (List CAlt)). first_of kept t.faults) (alternative_is home x (Alternative-F.Guarded guard c inner) loop s (ap out-Alternative h ∙ alternative.outs-Guarded guard c inner)) ∙ ap (λ (u : Stated State (List CStat)). first_of kept ((guard_in home s.names guard).faults ++ (communication_in home s.names c).faults ++ u.faults)) (blocks loop (stepping home) inner s) ∙ first_of_append kept _ _ ∙ ap (λ k. first_of k (block (map (stepping_in home loop) inner) s).faults) (first_of_append kept (guard_in home s.names guard).faults (communication_in home s.names c).faults)

  pub next_unwind : (place : Place) (walk : Walk) (alternatives : List Alternative) → x ≡ alternative.Unwind place walk alternatives → (offering home x loop s).next ≡ cut (length s.names) (in_turn (map (offering_in home loop) alternatives) (walk_in home binder.Unwind walk s).next).next
  next_unwind place walk alternatives h = ap (λ (t : Stated State (List CAlt)). t.next) (alternative_is home x (Alternative-F.Unwind place walk alternatives) loop s (ap out-Alternative h ∙ alternative.outs-Unwind place walk alternatives)) ∙ ap (λ (u : Stated State (List CAlt)). cut (length s.names) u.next) (turns loop (offering home) alternatives (walk_in home binder.Unwind walk s).next)

  pub made_unwind : (place : Place) (walk : Walk) (alternatives : List Alternative) → x ≡ alternative.Unwind place walk alternatives → (offering home x loop s).made ≡ offered (walk_in home binder.Unwind walk s).made (in_turn (map (offering_in home loop) alternatives) (walk_in home binder.Unwind walk s).next).made
  made_unwind place walk alternatives h = ap (λ (t : Stated State (List CAlt)). t.made) (alternative_is home x (Alternative-F.Unwind place walk alternatives) loop s (ap out-Alternative h ∙ alternative.outs-Unwind place walk alternatives)) ∙ ap (λ (u : Stated State (List CAlt)). offered (walk_in home binder.Unwind walk s).made u.made) (turns loop (offering home) alternatives (walk_in home binder.Unwind walk s).next)

  pub noted_unwind : (kept : Option Fault) (place : Place) (walk : Walk) (alternatives : List Alternative) → x ≡ alternative.Unwind place walk alternatives → first_of kept (offering home x loop s).faults ≡ first_of (first_of kept (walk_in home binder.Unwind walk s).faults) (in_turn (map (offering_in home loop) alternatives) (walk_in home binder.Unwind walk s).next).faults
  noted_unwind kept place walk alternatives h = ap (λ (t : Stated State (List CAlt)). first_of kept t.faults) (alternative_is home x (Alternative-F.Unwind place walk alternatives) loop s (ap out-Alternative h ∙ alternative.outs-Unwind place walk alternatives)) ∙ ap (λ (u : Stated State (List CAlt)). first_of kept ((walk_in home binder.Unwind walk s).faults ++ u.faults)) (turns loop (offering home) alternatives (walk_in home binder.Unwind walk s).next) ∙ first_of_append kept _ _

module _ (home : Home) (x : Branch) (loop : Bool) (s : State) where
  pub next_branch : (branching home x loop s).next ≡ (block (map (stepping_in home loop) (out-Branch x).block) s).next
  next_branch = ap (λ (t : Stated State (List CBranch)). t.next) (branch_is home x loop s) ∙ ap (λ (u : Stated State (List CStat)). u.next) (blocks loop (stepping home) (out-Branch x).block s)

  pub made_branch : (branching home x loop s).made ≡ branched (test_in home s.names (out-Branch x).condition).made (block (map (stepping_in home loop) (out-Branch x).block) s).made
  made_branch = ap (λ (t : Stated State (List CBranch)). t.made) (branch_is home x loop s) ∙ ap (λ (u : Stated State (List CStat)). branched (test_in home s.names (out-Branch x).condition).made u.made) (blocks loop (stepping home) (out-Branch x).block s)

  pub noted_branch : (kept : Option Fault) → first_of kept (branching home x loop s).faults ≡ first_of (first_of kept (test_in home s.names (out-Branch x).condition).faults) (block (map (stepping_in home loop) (out-Branch x).block) s).faults
  noted_branch kept = ap (λ (t : Stated State (List CBranch)). first_of kept t.faults) (branch_is home x loop s) ∙ ap (λ (u : Stated State (List CStat)). first_of kept ((test_in home s.names (out-Branch x).condition).faults ++ u.faults)) (blocks loop (stepping home) (out-Branch x).block s) ∙ first_of_append kept _ _
