-- Private to proofs. What each construct comes to, over plain values.
use Rattle.std.proofs.Common.{◌≡◌, ℕ, Bool, true, not, List, [], ◌∷◌, ◌++◌, map, length, Option, Some, None, refl, sym, ap, ◌∙◌}
use Rattle.std.specs.Prelude.{if◌then◌else◌}
use Rattle.chi_token.specs.declared.place.Place.{Place}
use Rattle.chi_tree.specs.declared.expr.Expr.{Expr}
use Rattle.chi_tree.specs.declared.type_tree.TypeTree.{TypeTree}
use Rattle.chi_tree.specs.declared.type_tree.Name.{Name}
use Rattle.chi_tree.specs.declared.statement.Alternative.{Alternative, Alternative-F, map-Alternative, out-Alternative, fold_out-Alternative}
use Rattle.chi_tree.specs.declared.statement.Alternative.TheVariants as alternative
use Rattle.chi_tree.specs.declared.statement.Branch.{Branch, out-Branch, fold_out-Branch}
use Rattle.chi_tree.specs.declared.statement.Communication.{Communication}
use Rattle.chi_tree.specs.declared.statement.Element.{Element, Element-F, map-Element, out-Element, fold_out-Element}
use Rattle.chi_tree.specs.declared.statement.Element.TheVariants as element
use Rattle.chi_tree.specs.declared.statement.Statement.{Statement, Statement-F, map-Statement, out-Statement, fold_out-Statement}
use Rattle.chi_tree.specs.declared.statement.Statement.TheVariants as statement
use Rattle.chi_tree.specs.declared.statement.Step.{Step, out-Step, fold_out-Step}
use Rattle.chi_tree.specs.declared.statement.Target.{Target}
use Rattle.chi_tree.specs.declared.statement.Variable.{Variable}
use Rattle.chi_tree.specs.declared.statement.Walk.{Walk}
use Rattle.chi_core.specs.declared.element.CElem.{CElem}
use Rattle.chi_core.specs.declared.statement.Branch.{Branch as CBranch}
use Rattle.chi_core.specs.declared.statement.CAlt.{CAlt}
use Rattle.chi_core.specs.declared.statement.CStat.{CStat}
use Rattle.chi_core.specs.declared.statement.CStat.TheVariants as core
use Rattle.chi_check_types.specs.declared.fault.Fault.{Fault}
use Rattle.chi_check_types.specs.Faults.{first_of, are_none}
use Rattle.chi_check_types.proofs.Firsts.{first_of_none, first_of_append}
use Rattle.chi_check_types.proofs.Ruled.{faults_unless}
use Rattle.chi_check_stat_rules.specs.declared.home.Home.{Home}
use Rattle.chi_check_stat_rules.specs.Endings.{loop_rule}
use Rattle.chi_check_stat_rules.specs.Homes.{running_rule}
use Rattle.chi_check_stat_lines.specs.declared.state.Binder.TheVariants as binder
use Rattle.chi_check_stat_lines.specs.declared.state.State.{State}
use Rattle.chi_check_stat_lines.specs.Stated.{Stated, in_turn, one}
use Rattle.chi_check_stat_lines.specs.States.{cut, block, each_in}
use Rattle.chi_check_stat_lines.specs.Values.{assignment_in, test_in}
use Rattle.chi_check_stat_lines.specs.Declarations.{walk_in, declaration_in}
use Rattle.chi_check_stat_lines.specs.Lines.{communicating, return_in, exit_in, finish_in, write_in}
use Rattle.chi_check_stat_lines.specs.Blocks.{offers, runs, starts, chosen, looped, walked}
use Rattle.chi_check_stat.specs.Statements.{starting, stating, stepping, branching, offering, stepping_in, branching_in, offering_in}
use Rattle.chi_check_stat_lines.proofs.Held.{held_made, one_unless}
use Rattle.chi_check_stat_lines.proofs.Turns.{turns, blocks}
use Rattle.chi_check_stat.proofs.Folds.{statement_is}

module _ (home : Home) (x : Statement) (loop : Bool) (s : State) where
  pub next_declare : (tree : TypeTree) (variables : List Variable) → x ≡ statement.Declare tree variables → (stating home x loop s).next ≡ (declaration_in home tree variables s).next
  next_declare tree variables h = ap (λ (t : Stated State (List CStat)). t.next) (statement_is home x (Statement-F.Declare tree variables) loop s (ap out-Statement h ∙ statement.outs-Declare tree variables))

  pub made_declare : (tree : TypeTree) (variables : List Variable) → x ≡ statement.Declare tree variables → (stating home x loop s).made ≡ (declaration_in home tree variables s).made
  made_declare tree variables h = ap (λ (t : Stated State (List CStat)). t.made) (statement_is home x (Statement-F.Declare tree variables) loop s (ap out-Statement h ∙ statement.outs-Declare tree variables))

  pub noted_declare : (kept : Option Fault) (tree : TypeTree) (variables : List Variable) → x ≡ statement.Declare tree variables → first_of kept (stating home x loop s).faults ≡ first_of kept (declaration_in home tree variables s).faults
  noted_declare kept tree variables h = ap (λ (t : Stated State (List CStat)). first_of kept t.faults) (statement_is home x (Statement-F.Declare tree variables) loop s (ap out-Statement h ∙ statement.outs-Declare tree variables))

  pub next_assign : (targets : List Target) (equals : Place) (values : List Expr) → x ≡ statement.Assign targets equals values → (stating home x loop s).next ≡ s
  next_assign targets equals values h = ap (λ (t : Stated State (List CStat)). t.next) (statement_is home x (Statement-F.Assign targets equals values) loop s (ap out-Statement h ∙ statement.outs-Assign targets equals values))

  pub made_assign : (targets : List Target) (equals : Place) (values : List Expr) → x ≡ statement.Assign targets equals values → (stating home x loop s).made ≡ one (assignment_in home s.names targets equals values).made
  made_assign targets equals values h = ap (λ (t : Stated State (List CStat)). t.made) (statement_is home x (Statement-F.Assign targets equals values) loop s (ap out-Statement h ∙ statement.outs-Assign targets equals values))

  pub noted_assign : (kept : Option Fault) (targets : List Target) (equals : Place) (values : List Expr) → x ≡ statement.Assign targets equals values → first_of kept (stating home x loop s).faults ≡ first_of kept (assignment_in home s.names targets equals values).faults
  noted_assign kept targets equals values h = ap (λ (t : Stated State (List CStat)). first_of kept t.faults) (statement_is home x (Statement-F.Assign targets equals values) loop s (ap out-Statement h ∙ statement.outs-Assign targets equals values))

  pub next_communicate : (c : Communication) → x ≡ statement.Communicate c → (stating home x loop s).next ≡ s
  next_communicate c h = ap (λ (t : Stated State (List CStat)). t.next) (statement_is home x (Statement-F.Communicate c) loop s (ap out-Statement h ∙ statement.outs-Communicate c))

  pub made_communicate : (c : Communication) → x ≡ statement.Communicate c → (stating home x loop s).made ≡ one (communicating home s.names c).made
  made_communicate c h = ap (λ (t : Stated State (List CStat)). t.made) (statement_is home x (Statement-F.Communicate c) loop s (ap out-Statement h ∙ statement.outs-Communicate c))

  pub noted_communicate : (kept : Option Fault) (c : Communication) → x ≡ statement.Communicate c → first_of kept (stating home x loop s).faults ≡ first_of kept (communicating home s.names c).faults
  noted_communicate kept c h = ap (λ (t : Stated State (List CStat)). first_of kept t.faults) (statement_is home x (Statement-F.Communicate c) loop s (ap out-Statement h ∙ statement.outs-Communicate c))

  pub next_return : (place : Place) (value : Expr) → x ≡ statement.Return place value → (stating home x loop s).next ≡ s
  next_return place value h = ap (λ (t : Stated State (List CStat)). t.next) (statement_is home x (Statement-F.Return place value) loop s (ap out-Statement h ∙ statement.outs-Return place value))

  pub made_return : (place : Place) (value : Expr) → x ≡ statement.Return place value → (stating home x loop s).made ≡ one (return_in home s.names place value).made
  made_return place value h = ap (λ (t : Stated State (List CStat)). t.made) (statement_is home x (Statement-F.Return place value) loop s (ap out-Statement h ∙ statement.outs-Return place value))

  pub noted_return : (kept : Option Fault) (place : Place) (value : Expr) → x ≡ statement.Return place value → first_of kept (stating home x loop s).faults ≡ first_of kept (return_in home s.names place value).faults
  noted_return kept place value h = ap (λ (t : Stated State (List CStat)). first_of kept t.faults) (statement_is home x (Statement-F.Return place value) loop s (ap out-Statement h ∙ statement.outs-Return place value))

  pub next_exit : (place : Place) (value : Option Expr) → x ≡ statement.Exit place value → (stating home x loop s).next ≡ s
  next_exit place value h = ap (λ (t : Stated State (List CStat)). t.next) (statement_is home x (Statement-F.Exit place value) loop s (ap out-Statement h ∙ statement.outs-Exit place value))

  pub made_exit : (place : Place) (value : Option Expr) → x ≡ statement.Exit place value → (stating home x loop s).made ≡ one (exit_in home s.names place value).made
  made_exit place value h = ap (λ (t : Stated State (List CStat)). t.made) (statement_is home x (Statement-F.Exit place value) loop s (ap out-Statement h ∙ statement.outs-Exit place value))

  pub noted_exit : (kept : Option Fault) (place : Place) (value : Option Expr) → x ≡ statement.Exit place value → first_of kept (stating home x loop s).faults ≡ first_of kept (exit_in home s.names place value).faults
  noted_exit kept place value h = ap (λ (t : Stated State (List CStat)). first_of kept t.faults) (statement_is home x (Statement-F.Exit place value) loop s (ap out-Statement h ∙ statement.outs-Exit place value))

  pub next_finish : (place : Place) (instances : List Expr) → x ≡ statement.Finish place instances → (stating home x loop s).next ≡ s
  next_finish place instances h = ap (λ (t : Stated State (List CStat)). t.next) (statement_is home x (Statement-F.Finish place instances) loop s (ap out-Statement h ∙ statement.outs-Finish place instances))

  pub made_finish : (place : Place) (instances : List Expr) → x ≡ statement.Finish place instances → (stating home x loop s).made ≡ one (finish_in home s.names place instances).made
  made_finish place instances h = ap (λ (t : Stated State (List CStat)). t.made) (statement_is home x (Statement-F.Finish place instances) loop s (ap out-Statement h ∙ statement.outs-Finish place instances))

  pub noted_finish : (kept : Option Fault) (place : Place) (instances : List Expr) → x ≡ statement.Finish place instances → first_of kept (stating home x loop s).faults ≡ first_of kept (finish_in home s.names place instances).faults
  noted_finish kept place instances h = ap (λ (t : Stated State (List CStat)). first_of kept t.faults) (statement_is home x (Statement-F.Finish place instances) loop s (ap out-Statement h ∙ statement.outs-Finish place instances))

  pub next_write : (place : Place) (ends_line : Bool) (format : List ℕ) (format_place : Place) (values : List Expr) → x ≡ statement.Write place ends_line format format_place values → (stating home x loop s).next ≡ s
  next_write place ends_line format format_place values h = ap (λ (t : Stated State (List CStat)). t.next) (statement_is home x (Statement-F.Write place ends_line format format_place values) loop s (ap out-Statement h ∙ statement.outs-Write place ends_line format format_place values))

  pub made_write : (place : Place) (ends_line : Bool) (format : List ℕ) (format_place : Place) (values : List Expr) → x ≡ statement.Write place ends_line format format_place values → (stating home x loop s).made ≡ one (write_in home s.names place ends_line format format_place values).made
  made_write place ends_line format format_place values h = ap (λ (t : Stated State (List CStat)). t.made) (statement_is home x (Statement-F.Write place ends_line format format_place values) loop s (ap out-Statement h ∙ statement.outs-Write place ends_line format format_place values))

  pub noted_write : (kept : Option Fault) (place : Place) (ends_line : Bool) (format : List ℕ) (format_place : Place) (values : List Expr) → x ≡ statement.Write place ends_line format format_place values → first_of kept (stating home x loop s).faults ≡ first_of kept (write_in home s.names place ends_line format format_place values).faults
  noted_write kept place ends_line format format_place values h = ap (λ (t : Stated State (List CStat)). first_of kept t.faults) (statement_is home x (Statement-F.Write place ends_line format format_place values) loop s (ap out-Statement h ∙ statement.outs-Write place ends_line format format_place values))

  pub next_pass : (place : Place) → x ≡ statement.Pass place → (stating home x loop s).next ≡ s
  next_pass place h = ap (λ (t : Stated State (List CStat)). t.next) (statement_is home x (Statement-F.Pass place) loop s (ap out-Statement h ∙ statement.outs-Pass place))

  pub made_pass : (place : Place) → x ≡ statement.Pass place → (stating home x loop s).made ≡ one (Some (core.Pass place.line))
  made_pass place h = ap (λ (t : Stated State (List CStat)). t.made) (statement_is home x (Statement-F.Pass place) loop s (ap out-Statement h ∙ statement.outs-Pass place))

  pub noted_pass : (kept : Option Fault) (place : Place) → x ≡ statement.Pass place → first_of kept (stating home x loop s).faults ≡ kept
  noted_pass kept place h = ap (λ (t : Stated State (List CStat)). first_of kept t.faults) (statement_is home x (Statement-F.Pass place) loop s (ap out-Statement h ∙ statement.outs-Pass place)) ∙ first_of_none kept [] refl

  pub next_break : (place : Place) → x ≡ statement.Break place → (stating home x loop s).next ≡ s
  next_break place h = ap (λ (t : Stated State (List CStat)). t.next) (statement_is home x (Statement-F.Break place) loop s (ap out-Statement h ∙ statement.outs-Break place))

  pub made_break : (place : Place) → x ≡ statement.Break place → (stating home x loop s).made ≡ (if not (are_none (loop_rule loop place)) then None else one (Some (core.Break place.line)))
  made_break place h = ap (λ (t : Stated State (List CStat)). t.made) (statement_is home x (Statement-F.Break place) loop s (ap out-Statement h ∙ statement.outs-Break place)) ∙ one_unless (loop_rule loop place) (core.Break place.line)

  pub noted_break : (kept : Option Fault) (place : Place) → x ≡ statement.Break place → first_of kept (stating home x loop s).faults ≡ first_of kept (loop_rule loop place)
  noted_break kept place h = ap (λ (t : Stated State (List CStat)). first_of kept t.faults) (statement_is home x (Statement-F.Break place) loop s (ap out-Statement h ∙ statement.outs-Break place)) ∙ ap (first_of kept) (faults_unless (loop_rule loop place) (core.Break place.line))

  pub next_continue : (place : Place) → x ≡ statement.Continue place → (stating home x loop s).next ≡ s
  next_continue place h = ap (λ (t : Stated State (List CStat)). t.next) (statement_is home x (Statement-F.Continue place) loop s (ap out-Statement h ∙ statement.outs-Continue place))

  pub made_continue : (place : Place) → x ≡ statement.Continue place → (stating home x loop s).made ≡ (if not (are_none (loop_rule loop place)) then None else one (Some (core.Continue place.line)))
  made_continue place h = ap (λ (t : Stated State (List CStat)). t.made) (statement_is home x (Statement-F.Continue place) loop s (ap out-Statement h ∙ statement.outs-Continue place)) ∙ one_unless (loop_rule loop place) (core.Continue place.line)

  pub noted_continue : (kept : Option Fault) (place : Place) → x ≡ statement.Continue place → first_of kept (stating home x loop s).faults ≡ first_of kept (loop_rule loop place)
  noted_continue kept place h = ap (λ (t : Stated State (List CStat)). first_of kept t.faults) (statement_is home x (Statement-F.Continue place) loop s (ap out-Statement h ∙ statement.outs-Continue place)) ∙ ap (first_of kept) (faults_unless (loop_rule loop place) (core.Continue place.line))

  pub next_select : (place : Place) (alternatives : List Alternative) → x ≡ statement.Select place alternatives → (stating home x loop s).next ≡ (in_turn (map (offering_in home loop) alternatives) s).next
  next_select place alternatives h = ap (λ (t : Stated State (List CStat)). t.next) (statement_is home x (Statement-F.Select place alternatives) loop s (ap out-Statement h ∙ statement.outs-Select place alternatives)) ∙ ap (λ (t : Stated State (List CAlt)). t.next) (turns loop (offering home) alternatives s)

  pub made_select : (place : Place) (alternatives : List Alternative) → x ≡ statement.Select place alternatives → (stating home x loop s).made ≡ (if not (are_none (running_rule home place)) then None else offers place.line (in_turn (map (offering_in home loop) alternatives) s).made)
  made_select place alternatives h = ap (λ (t : Stated State (List CStat)). t.made) (statement_is home x (Statement-F.Select place alternatives) loop s (ap out-Statement h ∙ statement.outs-Select place alternatives)) ∙ ap (λ (t : Stated State (List CAlt)). if are_none (running_rule home place) then offers place.line t.made else None) (turns loop (offering home) alternatives s) ∙ held_made (running_rule home place) (offers place.line (in_turn (map (offering_in home loop) alternatives) s).made)

  pub noted_select : (kept : Option Fault) (place : Place) (alternatives : List Alternative) → x ≡ statement.Select place alternatives → first_of kept (stating home x loop s).faults ≡ first_of (first_of kept (running_rule home place)) (in_turn (map (offering_in home loop) alternatives) s).faults
  noted_select kept place alternatives h = ap (λ (t : Stated State (List CStat)). first_of kept t.faults) (statement_is home x (Statement-F.Select place alternatives) loop s (ap out-Statement h ∙ statement.outs-Select place alternatives)) ∙ ap (λ (t : Stated State (List CAlt)). first_of kept (running_rule home place ++ t.faults)) (turns loop (offering home) alternatives s) ∙ first_of_append kept _ _

  pub next_if : (place : Place) (branches : List Branch) (otherwise : List Step) → x ≡ statement.If place branches otherwise → (stating home x loop s).next ≡ (block (map (stepping_in home loop) otherwise) (in_turn (map (branching_in home loop) branches) s).next).next
  next_if place branches otherwise h = ap (λ (t : Stated State (List CStat)). t.next) (statement_is home x (Statement-F.If place branches otherwise) loop s (ap out-Statement h ∙ statement.outs-If place branches otherwise)) ∙ ap (λ (t : Stated State (List CBranch)). (block (each_in loop (map (stepping home) otherwise)) t.next).next) (turns loop (branching home) branches s) ∙ ap (λ (u : Stated State (List CStat)). (u).next) (blocks loop (stepping home) otherwise (in_turn (map (branching_in home loop) branches) s).next)

  pub made_if : (place : Place) (branches : List Branch) (otherwise : List Step) → x ≡ statement.If place branches otherwise → (stating home x loop s).made ≡ chosen place.line (in_turn (map (branching_in home loop) branches) s).made (block (map (stepping_in home loop) otherwise) (in_turn (map (branching_in home loop) branches) s).next).made
  made_if place branches otherwise h = ap (λ (t : Stated State (List CStat)). t.made) (statement_is home x (Statement-F.If place branches otherwise) loop s (ap out-Statement h ∙ statement.outs-If place branches otherwise)) ∙ ap (λ (t : Stated State (List CBranch)). chosen place.line (t).made (block (each_in loop (map (stepping home) otherwise)) t.next).made) (turns loop (branching home) branches s) ∙ ap (λ (u : Stated State (List CStat)). chosen place.line ((in_turn (map (branching_in home loop) branches) s)).made (u).made) (blocks loop (stepping home) otherwise (in_turn (map (branching_in home loop) branches) s).next)

  pub noted_if : (kept : Option Fault) (place : Place) (branches : List Branch) (otherwise : List Step) → x ≡ statement.If place branches otherwise → first_of kept (stating home x loop s).faults ≡ first_of (first_of kept (in_turn (map (branching_in home loop) branches) s).faults) (block (map (stepping_in home loop) otherwise) (in_turn (map (branching_in home loop) branches) s).next).faults
  noted_if kept place branches otherwise h = ap (λ (t : Stated State (List CStat)). first_of kept t.faults) (statement_is home x (Statement-F.If place branches otherwise) loop s (ap out-Statement h ∙ statement.outs-If place branches otherwise)) ∙ ap (λ (t : Stated State (List CBranch)). first_of kept ((t).faults ++ (block (each_in loop (map (stepping home) otherwise)) t.next).faults)) (turns loop (branching home) branches s) ∙ ap (λ (u : Stated State (List CStat)). first_of kept (((in_turn (map (branching_in home loop) branches) s)).faults ++ (u).faults)) (blocks loop (stepping home) otherwise (in_turn (map (branching_in home loop) branches) s).next) ∙ first_of_append kept _ _

  pub next_while : (place : Place) (test : Expr) (inner : List Step) → x ≡ statement.While place test inner → (stating home x loop s).next ≡ (block (map (stepping_in home true) inner) s).next
  next_while place test inner h = ap (λ (t : Stated State (List CStat)). t.next) (statement_is home x (Statement-F.While place test inner) loop s (ap out-Statement h ∙ statement.outs-While place test inner)) ∙ ap (λ (u : Stated State (List CStat)). u.next) (blocks true (stepping home) inner s)

  pub made_while : (place : Place) (test : Expr) (inner : List Step) → x ≡ statement.While place test inner → (stating home x loop s).made ≡ looped place.line (test_in home s.names test).made (block (map (stepping_in home true) inner) s).made
  made_while place test inner h = ap (λ (t : Stated State (List CStat)). t.made) (statement_is home x (Statement-F.While place test inner) loop s (ap out-Statement h ∙ statement.outs-While place test inner)) ∙ ap (λ (u : Stated State (List CStat)). looped place.line (test_in home s.names test).made u.made) (blocks true (stepping home) inner s)

  pub noted_while : (kept : Option Fault) (place : Place) (test : Expr) (inner : List Step) → x ≡ statement.While place test inner → first_of kept (stating home x loop s).faults ≡ first_of (first_of kept (test_in home s.names test).faults) (block (map (stepping_in home true) inner) s).faults
  noted_while kept place test inner h = ap (λ (t : Stated State (List CStat)). first_of kept t.faults) (statement_is home x (Statement-F.While place test inner) loop s (ap out-Statement h ∙ statement.outs-While place test inner)) ∙ ap (λ (u : Stated State (List CStat)). first_of kept ((test_in home s.names test).faults ++ u.faults)) (blocks true (stepping home) inner s) ∙ first_of_append kept _ _

  pub next_for : (place : Place) (walk : Walk) (inner : List Step) → x ≡ statement.For place walk inner → (stating home x loop s).next ≡ cut (length s.names) (in_turn (map (stepping_in home true) inner) (walk_in home binder.Variable walk s).next).next
  next_for place walk inner h = ap (λ (t : Stated State (List CStat)). t.next) (statement_is home x (Statement-F.For place walk inner) loop s (ap out-Statement h ∙ statement.outs-For place walk inner)) ∙ ap (λ (u : Stated State (List CStat)). cut (length s.names) u.next) (turns true (stepping home) inner (walk_in home binder.Variable walk s).next)

  pub made_for : (place : Place) (walk : Walk) (inner : List Step) → x ≡ statement.For place walk inner → (stating home x loop s).made ≡ walked place.line (walk_in home binder.Variable walk s).made (in_turn (map (stepping_in home true) inner) (walk_in home binder.Variable walk s).next).made
  made_for place walk inner h = ap (λ (t : Stated State (List CStat)). t.made) (statement_is home x (Statement-F.For place walk inner) loop s (ap out-Statement h ∙ statement.outs-For place walk inner)) ∙ ap (λ (u : Stated State (List CStat)). walked place.line (walk_in home binder.Variable walk s).made u.made) (turns true (stepping home) inner (walk_in home binder.Variable walk s).next)

  pub noted_for : (kept : Option Fault) (place : Place) (walk : Walk) (inner : List Step) → x ≡ statement.For place walk inner → first_of kept (stating home x loop s).faults ≡ first_of (first_of kept (walk_in home binder.Variable walk s).faults) (in_turn (map (stepping_in home true) inner) (walk_in home binder.Variable walk s).next).faults
  noted_for kept place walk inner h = ap (λ (t : Stated State (List CStat)). first_of kept t.faults) (statement_is home x (Statement-F.For place walk inner) loop s (ap out-Statement h ∙ statement.outs-For place walk inner)) ∙ ap (λ (u : Stated State (List CStat)). first_of kept ((walk_in home binder.Variable walk s).faults ++ u.faults)) (turns true (stepping home) inner (walk_in home binder.Variable walk s).next) ∙ first_of_append kept _ _

  pub next_run : (place : Place) (elements : List Element) → x ≡ statement.Run place elements → (stating home x loop s).next ≡ (in_turn (map (starting home) elements) s).next
  next_run place elements h = ap (λ (t : Stated State (List CStat)). t.next) (statement_is home x (Statement-F.Run place elements) loop s (ap out-Statement h ∙ statement.outs-Run place elements))

  pub made_run : (place : Place) (elements : List Element) → x ≡ statement.Run place elements → (stating home x loop s).made ≡ (if not (are_none (running_rule home place)) then None else runs place.line (in_turn (map (starting home) elements) s).made)
  made_run place elements h = ap (λ (t : Stated State (List CStat)). t.made) (statement_is home x (Statement-F.Run place elements) loop s (ap out-Statement h ∙ statement.outs-Run place elements)) ∙ held_made (running_rule home place) (runs place.line (in_turn (map (starting home) elements) s).made)

  pub noted_run : (kept : Option Fault) (place : Place) (elements : List Element) → x ≡ statement.Run place elements → first_of kept (stating home x loop s).faults ≡ first_of (first_of kept (running_rule home place)) (in_turn (map (starting home) elements) s).faults
  noted_run kept place elements h = ap (λ (t : Stated State (List CStat)). first_of kept t.faults) (statement_is home x (Statement-F.Run place elements) loop s (ap out-Statement h ∙ statement.outs-Run place elements)) ∙ first_of_append kept _ _

  pub next_start : (place : Place) (elements : List Element) → x ≡ statement.Start place elements → (stating home x loop s).next ≡ (in_turn (map (starting home) elements) s).next
  next_start place elements h = ap (λ (t : Stated State (List CStat)). t.next) (statement_is home x (Statement-F.Start place elements) loop s (ap out-Statement h ∙ statement.outs-Start place elements))

  pub made_start : (place : Place) (elements : List Element) → x ≡ statement.Start place elements → (stating home x loop s).made ≡ (if not (are_none (running_rule home place)) then None else starts place.line (in_turn (map (starting home) elements) s).made)
  made_start place elements h = ap (λ (t : Stated State (List CStat)). t.made) (statement_is home x (Statement-F.Start place elements) loop s (ap out-Statement h ∙ statement.outs-Start place elements)) ∙ held_made (running_rule home place) (starts place.line (in_turn (map (starting home) elements) s).made)

  pub noted_start : (kept : Option Fault) (place : Place) (elements : List Element) → x ≡ statement.Start place elements → first_of kept (stating home x loop s).faults ≡ first_of (first_of kept (running_rule home place)) (in_turn (map (starting home) elements) s).faults
  noted_start kept place elements h = ap (λ (t : Stated State (List CStat)). first_of kept t.faults) (statement_is home x (Statement-F.Start place elements) loop s (ap out-Statement h ∙ statement.outs-Start place elements)) ∙ first_of_append kept _ _
