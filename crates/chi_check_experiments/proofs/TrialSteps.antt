-- Private to proofs. What each statement of an experiment comes to, over plain values.
use Rattle.std.proofs.Common.{◌≡◌, ℕ, Bool, true, List, [], ◌++◌, map, length, Option, Some, None, refl, ap, ◌∙◌}
use Rattle.chi_token.specs.declared.place.Place.{Place}
use Rattle.chi_tree.specs.declared.expr.Expr.{Expr}
use Rattle.chi_tree.specs.declared.type_tree.TypeTree.{TypeTree}
use Rattle.chi_tree.specs.declared.statement.Alternative.{Alternative}
use Rattle.chi_tree.specs.declared.statement.Branch.{Branch, out-Branch}
use Rattle.chi_tree.specs.declared.statement.Communication.{Communication}
use Rattle.chi_tree.specs.declared.statement.Element.{Element}
use Rattle.chi_tree.specs.declared.statement.Statement.{Statement, Statement-F, out-Statement}
use Rattle.chi_tree.specs.declared.statement.Statement.TheVariants as statement
use Rattle.chi_tree.specs.declared.statement.Step.{Step}
use Rattle.chi_tree.specs.declared.statement.Target.{Target}
use Rattle.chi_tree.specs.declared.statement.Variable.{Variable}
use Rattle.chi_tree.specs.declared.statement.Walk.{Walk}
use Rattle.chi_core.specs.declared.experiment.XBranch.{XBranch}
use Rattle.chi_core.specs.declared.experiment.XStat.{XStat}
use Rattle.chi_core.specs.declared.experiment.XStat.TheVariants as trial
use Rattle.chi_core.specs.declared.statement.CStat.TheVariants as core
use Rattle.chi_check_types.specs.declared.fault.Fault.{Fault}
use Rattle.chi_check_types.specs.declared.rules.TheConstants.{IN_EXPERIMENT}
use Rattle.chi_check_types.specs.Faults.{first_of}
use Rattle.chi_check_types.specs.Typed.{broken_if, unless}
use Rattle.chi_check_types.proofs.Firsts.{first_of_none, first_of_append}
use Rattle.chi_check_types.proofs.Ruled.{faults_unless}
use Rattle.chi_check_stat_rules.specs.declared.home.Home.TheVariants.{Experiment}
use Rattle.chi_check_stat_rules.specs.Endings.{loop_rule}
use Rattle.chi_check_stat_lines.specs.declared.state.Binder.TheVariants as binder
use Rattle.chi_check_stat_lines.specs.declared.state.State.{State}
use Rattle.chi_check_stat_lines.specs.Stated.{Stated, in_turn, one}
use Rattle.chi_check_stat_lines.specs.States.{cut, block, each_in}
use Rattle.chi_check_stat_lines.specs.Values.{test_in}
use Rattle.chi_check_stat_lines.specs.Declarations.{walk_in}
use Rattle.chi_check_stat_lines.specs.Lines.{communicating, return_in, exit_in, finish_in, write_in}
use Rattle.chi_check_stat_lines.proofs.Turns.{turns, blocks}
use Rattle.chi_check_experiments.specs.Experiments.{lined, assignment_tried, declaration_tried, chosen, looped, walked, branched, stating_tried, trying, branch_tried, trying_in, branch_tried_in}
use Rattle.chi_check_experiments.proofs.TrialFolds.{trial_is, branch_is}

module _ (x : Statement) (loop : Bool) (s : State) where
  pub next_declare : (tree : TypeTree) (variables : List Variable) → x ≡ statement.Declare tree variables → (stating_tried x loop s).next ≡ (declaration_tried tree variables s).next
  next_declare tree variables h = ap (λ (t : Stated State (List XStat)). t.next) (trial_is x (Statement-F.Declare tree variables) loop s (ap out-Statement h ∙ statement.outs-Declare tree variables))

  pub made_declare : (tree : TypeTree) (variables : List Variable) → x ≡ statement.Declare tree variables → (stating_tried x loop s).made ≡ (declaration_tried tree variables s).made
  made_declare tree variables h = ap (λ (t : Stated State (List XStat)). t.made) (trial_is x (Statement-F.Declare tree variables) loop s (ap out-Statement h ∙ statement.outs-Declare tree variables))

  pub noted_declare : (kept : Option Fault) (tree : TypeTree) (variables : List Variable) → x ≡ statement.Declare tree variables → first_of kept (stating_tried x loop s).faults ≡ first_of kept (declaration_tried tree variables s).faults
  noted_declare kept tree variables h = ap (λ (t : Stated State (List XStat)). first_of kept t.faults) (trial_is x (Statement-F.Declare tree variables) loop s (ap out-Statement h ∙ statement.outs-Declare tree variables))

  pub next_assign : (targets : List Target) (equals : Place) (values : List Expr) → x ≡ statement.Assign targets equals values → (stating_tried x loop s).next ≡ s
  next_assign targets equals values h = ap (λ (t : Stated State (List XStat)). t.next) (trial_is x (Statement-F.Assign targets equals values) loop s (ap out-Statement h ∙ statement.outs-Assign targets equals values))

  pub made_assign : (targets : List Target) (equals : Place) (values : List Expr) → x ≡ statement.Assign targets equals values → (stating_tried x loop s).made ≡ one (assignment_tried s.names targets equals values).made
  made_assign targets equals values h = ap (λ (t : Stated State (List XStat)). t.made) (trial_is x (Statement-F.Assign targets equals values) loop s (ap out-Statement h ∙ statement.outs-Assign targets equals values))

  pub noted_assign : (kept : Option Fault) (targets : List Target) (equals : Place) (values : List Expr) → x ≡ statement.Assign targets equals values → first_of kept (stating_tried x loop s).faults ≡ first_of kept (assignment_tried s.names targets equals values).faults
  noted_assign kept targets equals values h = ap (λ (t : Stated State (List XStat)). first_of kept t.faults) (trial_is x (Statement-F.Assign targets equals values) loop s (ap out-Statement h ∙ statement.outs-Assign targets equals values))

  pub next_communicate : (c : Communication) → x ≡ statement.Communicate c → (stating_tried x loop s).next ≡ s
  next_communicate c h = ap (λ (t : Stated State (List XStat)). t.next) (trial_is x (Statement-F.Communicate c) loop s (ap out-Statement h ∙ statement.outs-Communicate c))

  pub made_communicate : (c : Communication) → x ≡ statement.Communicate c → (stating_tried x loop s).made ≡ one (lined (communicating Experiment s.names c)).made
  made_communicate c h = ap (λ (t : Stated State (List XStat)). t.made) (trial_is x (Statement-F.Communicate c) loop s (ap out-Statement h ∙ statement.outs-Communicate c))

  pub noted_communicate : (kept : Option Fault) (c : Communication) → x ≡ statement.Communicate c → first_of kept (stating_tried x loop s).faults ≡ first_of kept (communicating Experiment s.names c).faults
  noted_communicate kept c h = ap (λ (t : Stated State (List XStat)). first_of kept t.faults) (trial_is x (Statement-F.Communicate c) loop s (ap out-Statement h ∙ statement.outs-Communicate c))

  pub next_return : (place : Place) (value : Expr) → x ≡ statement.Return place value → (stating_tried x loop s).next ≡ s
  next_return place value h = ap (λ (t : Stated State (List XStat)). t.next) (trial_is x (Statement-F.Return place value) loop s (ap out-Statement h ∙ statement.outs-Return place value))

  pub made_return : (place : Place) (value : Expr) → x ≡ statement.Return place value → (stating_tried x loop s).made ≡ one (lined (return_in Experiment s.names place value)).made
  made_return place value h = ap (λ (t : Stated State (List XStat)). t.made) (trial_is x (Statement-F.Return place value) loop s (ap out-Statement h ∙ statement.outs-Return place value))

  pub noted_return : (kept : Option Fault) (place : Place) (value : Expr) → x ≡ statement.Return place value → first_of kept (stating_tried x loop s).faults ≡ first_of kept (return_in Experiment s.names place value).faults
  noted_return kept place value h = ap (λ (t : Stated State (List XStat)). first_of kept t.faults) (trial_is x (Statement-F.Return place value) loop s (ap out-Statement h ∙ statement.outs-Return place value))

  pub next_exit : (place : Place) (value : Option Expr) → x ≡ statement.Exit place value → (stating_tried x loop s).next ≡ s
  next_exit place value h = ap (λ (t : Stated State (List XStat)). t.next) (trial_is x (Statement-F.Exit place value) loop s (ap out-Statement h ∙ statement.outs-Exit place value))

  pub made_exit : (place : Place) (value : Option Expr) → x ≡ statement.Exit place value → (stating_tried x loop s).made ≡ one (lined (exit_in Experiment s.names place value)).made
  made_exit place value h = ap (λ (t : Stated State (List XStat)). t.made) (trial_is x (Statement-F.Exit place value) loop s (ap out-Statement h ∙ statement.outs-Exit place value))

  pub noted_exit : (kept : Option Fault) (place : Place) (value : Option Expr) → x ≡ statement.Exit place value → first_of kept (stating_tried x loop s).faults ≡ first_of kept (exit_in Experiment s.names place value).faults
  noted_exit kept place value h = ap (λ (t : Stated State (List XStat)). first_of kept t.faults) (trial_is x (Statement-F.Exit place value) loop s (ap out-Statement h ∙ statement.outs-Exit place value))

  pub next_finish : (place : Place) (instances : List Expr) → x ≡ statement.Finish place instances → (stating_tried x loop s).next ≡ s
  next_finish place instances h = ap (λ (t : Stated State (List XStat)). t.next) (trial_is x (Statement-F.Finish place instances) loop s (ap out-Statement h ∙ statement.outs-Finish place instances))

  pub made_finish : (place : Place) (instances : List Expr) → x ≡ statement.Finish place instances → (stating_tried x loop s).made ≡ one (lined (finish_in Experiment s.names place instances)).made
  made_finish place instances h = ap (λ (t : Stated State (List XStat)). t.made) (trial_is x (Statement-F.Finish place instances) loop s (ap out-Statement h ∙ statement.outs-Finish place instances))

  pub noted_finish : (kept : Option Fault) (place : Place) (instances : List Expr) → x ≡ statement.Finish place instances → first_of kept (stating_tried x loop s).faults ≡ first_of kept (finish_in Experiment s.names place instances).faults
  noted_finish kept place instances h = ap (λ (t : Stated State (List XStat)). first_of kept t.faults) (trial_is x (Statement-F.Finish place instances) loop s (ap out-Statement h ∙ statement.outs-Finish place instances))

  pub next_write : (place : Place) (ends_line : Bool) (format : List ℕ) (format_place : Place) (values : List Expr) → x ≡ statement.Write place ends_line format format_place values → (stating_tried x loop s).next ≡ s
  next_write place ends_line format format_place values h = ap (λ (t : Stated State (List XStat)). t.next) (trial_is x (Statement-F.Write place ends_line format format_place values) loop s (ap out-Statement h ∙ statement.outs-Write place ends_line format format_place values))

  pub made_write : (place : Place) (ends_line : Bool) (format : List ℕ) (format_place : Place) (values : List Expr) → x ≡ statement.Write place ends_line format format_place values → (stating_tried x loop s).made ≡ one (lined (write_in Experiment s.names place ends_line format format_place values)).made
  made_write place ends_line format format_place values h = ap (λ (t : Stated State (List XStat)). t.made) (trial_is x (Statement-F.Write place ends_line format format_place values) loop s (ap out-Statement h ∙ statement.outs-Write place ends_line format format_place values))

  pub noted_write : (kept : Option Fault) (place : Place) (ends_line : Bool) (format : List ℕ) (format_place : Place) (values : List Expr) → x ≡ statement.Write place ends_line format format_place values → first_of kept (stating_tried x loop s).faults ≡ first_of kept (write_in Experiment s.names place ends_line format format_place values).faults
  noted_write kept place ends_line format format_place values h = ap (λ (t : Stated State (List XStat)). first_of kept t.faults) (trial_is x (Statement-F.Write place ends_line format format_place values) loop s (ap out-Statement h ∙ statement.outs-Write place ends_line format format_place values))

  pub next_pass : (place : Place) → x ≡ statement.Pass place → (stating_tried x loop s).next ≡ s
  next_pass place h = ap (λ (t : Stated State (List XStat)). t.next) (trial_is x (Statement-F.Pass place) loop s (ap out-Statement h ∙ statement.outs-Pass place))

  pub made_pass : (place : Place) → x ≡ statement.Pass place → (stating_tried x loop s).made ≡ one (Some (trial.Line (core.Pass place.line)))
  made_pass place h = ap (λ (t : Stated State (List XStat)). t.made) (trial_is x (Statement-F.Pass place) loop s (ap out-Statement h ∙ statement.outs-Pass place))

  pub noted_pass : (kept : Option Fault) (place : Place) → x ≡ statement.Pass place → first_of kept (stating_tried x loop s).faults ≡ kept
  noted_pass kept place h = ap (λ (t : Stated State (List XStat)). first_of kept t.faults) (trial_is x (Statement-F.Pass place) loop s (ap out-Statement h ∙ statement.outs-Pass place)) ∙ first_of_none kept [] refl

  pub next_break : (place : Place) → x ≡ statement.Break place → (stating_tried x loop s).next ≡ s
  next_break place h = ap (λ (t : Stated State (List XStat)). t.next) (trial_is x (Statement-F.Break place) loop s (ap out-Statement h ∙ statement.outs-Break place))

  pub made_break : (place : Place) → x ≡ statement.Break place → (stating_tried x loop s).made ≡ one (lined (unless (loop_rule loop place) (core.Break place.line))).made
  made_break place h = ap (λ (t : Stated State (List XStat)). t.made) (trial_is x (Statement-F.Break place) loop s (ap out-Statement h ∙ statement.outs-Break place))

  pub noted_break : (kept : Option Fault) (place : Place) → x ≡ statement.Break place → first_of kept (stating_tried x loop s).faults ≡ first_of kept (loop_rule loop place)
  noted_break kept place h = ap (λ (t : Stated State (List XStat)). first_of kept t.faults) (trial_is x (Statement-F.Break place) loop s (ap out-Statement h ∙ statement.outs-Break place)) ∙ ap (first_of kept) (faults_unless (loop_rule loop place) (core.Break place.line))

  pub next_continue : (place : Place) → x ≡ statement.Continue place → (stating_tried x loop s).next ≡ s
  next_continue place h = ap (λ (t : Stated State (List XStat)). t.next) (trial_is x (Statement-F.Continue place) loop s (ap out-Statement h ∙ statement.outs-Continue place))

  pub made_continue : (place : Place) → x ≡ statement.Continue place → (stating_tried x loop s).made ≡ one (lined (unless (loop_rule loop place) (core.Continue place.line))).made
  made_continue place h = ap (λ (t : Stated State (List XStat)). t.made) (trial_is x (Statement-F.Continue place) loop s (ap out-Statement h ∙ statement.outs-Continue place))

  pub noted_continue : (kept : Option Fault) (place : Place) → x ≡ statement.Continue place → first_of kept (stating_tried x loop s).faults ≡ first_of kept (loop_rule loop place)
  noted_continue kept place h = ap (λ (t : Stated State (List XStat)). first_of kept t.faults) (trial_is x (Statement-F.Continue place) loop s (ap out-Statement h ∙ statement.outs-Continue place)) ∙ ap (first_of kept) (faults_unless (loop_rule loop place) (core.Continue place.line))

  pub next_select : (place : Place) (alternatives : List Alternative) → x ≡ statement.Select place alternatives → (stating_tried x loop s).next ≡ s
  next_select place alternatives h = ap (λ (t : Stated State (List XStat)). t.next) (trial_is x (Statement-F.Select place alternatives) loop s (ap out-Statement h ∙ statement.outs-Select place alternatives))

  pub made_select : (place : Place) (alternatives : List Alternative) → x ≡ statement.Select place alternatives → (stating_tried x loop s).made ≡ None
  made_select place alternatives h = ap (λ (t : Stated State (List XStat)). t.made) (trial_is x (Statement-F.Select place alternatives) loop s (ap out-Statement h ∙ statement.outs-Select place alternatives))

  pub noted_select : (kept : Option Fault) (place : Place) (alternatives : List Alternative) → x ≡ statement.Select place alternatives → first_of kept (stating_tried x loop s).faults ≡ first_of kept (broken_if true IN_EXPERIMENT place)
  noted_select kept place alternatives h = ap (λ (t : Stated State (List XStat)). first_of kept t.faults) (trial_is x (Statement-F.Select place alternatives) loop s (ap out-Statement h ∙ statement.outs-Select place alternatives))

  pub next_run : (place : Place) (elements : List Element) → x ≡ statement.Run place elements → (stating_tried x loop s).next ≡ s
  next_run place elements h = ap (λ (t : Stated State (List XStat)). t.next) (trial_is x (Statement-F.Run place elements) loop s (ap out-Statement h ∙ statement.outs-Run place elements))

  pub made_run : (place : Place) (elements : List Element) → x ≡ statement.Run place elements → (stating_tried x loop s).made ≡ None
  made_run place elements h = ap (λ (t : Stated State (List XStat)). t.made) (trial_is x (Statement-F.Run place elements) loop s (ap out-Statement h ∙ statement.outs-Run place elements))

  pub noted_run : (kept : Option Fault) (place : Place) (elements : List Element) → x ≡ statement.Run place elements → first_of kept (stating_tried x loop s).faults ≡ first_of kept (broken_if true IN_EXPERIMENT place)
  noted_run kept place elements h = ap (λ (t : Stated State (List XStat)). first_of kept t.faults) (trial_is x (Statement-F.Run place elements) loop s (ap out-Statement h ∙ statement.outs-Run place elements))

  pub next_start : (place : Place) (elements : List Element) → x ≡ statement.Start place elements → (stating_tried x loop s).next ≡ s
  next_start place elements h = ap (λ (t : Stated State (List XStat)). t.next) (trial_is x (Statement-F.Start place elements) loop s (ap out-Statement h ∙ statement.outs-Start place elements))

  pub made_start : (place : Place) (elements : List Element) → x ≡ statement.Start place elements → (stating_tried x loop s).made ≡ None
  made_start place elements h = ap (λ (t : Stated State (List XStat)). t.made) (trial_is x (Statement-F.Start place elements) loop s (ap out-Statement h ∙ statement.outs-Start place elements))

  pub noted_start : (kept : Option Fault) (place : Place) (elements : List Element) → x ≡ statement.Start place elements → first_of kept (stating_tried x loop s).faults ≡ first_of kept (broken_if true IN_EXPERIMENT place)
  noted_start kept place elements h = ap (λ (t : Stated State (List XStat)). first_of kept t.faults) (trial_is x (Statement-F.Start place elements) loop s (ap out-Statement h ∙ statement.outs-Start place elements))

  pub next_if : (place : Place) (branches : List Branch) (otherwise : List Step) → x ≡ statement.If place branches otherwise → (stating_tried x loop s).next ≡ (block (map (trying_in loop) otherwise) (in_turn (map (branch_tried_in loop) branches) s).next).next
  next_if place branches otherwise h = ap (λ (t : Stated State (List XStat)). t.next) (trial_is x (Statement-F.If place branches otherwise) loop s (ap out-Statement h ∙ statement.outs-If place branches otherwise)) ∙ ap (λ (t : Stated State (List XBranch)). (block (each_in loop (map trying otherwise)) t.next).next) (turns loop branch_tried branches s) ∙ ap (λ (u : Stated State (List XStat)). u.next) (blocks loop trying otherwise (in_turn (map (branch_tried_in loop) branches) s).next)

  pub made_if : (place : Place) (branches : List Branch) (otherwise : List Step) → x ≡ statement.If place branches otherwise → (stating_tried x loop s).made ≡ chosen place.line (in_turn (map (branch_tried_in loop) branches) s).made (block (map (trying_in loop) otherwise) (in_turn (map (branch_tried_in loop) branches) s).next).made
  made_if place branches otherwise h = ap (λ (t : Stated State (List XStat)). t.made) (trial_is x (Statement-F.If place branches otherwise) loop s (ap out-Statement h ∙ statement.outs-If place branches otherwise)) ∙ ap (λ (t : Stated State (List XBranch)). chosen place.line t.made (block (each_in loop (map trying otherwise)) t.next).made) (turns loop branch_tried branches s) ∙ ap (λ (u : Stated State (List XStat)). chosen place.line (in_turn (map (branch_tried_in loop) branches) s).made u.made) (blocks loop trying otherwise (in_turn (map (branch_tried_in loop) branches) s).next)

  pub noted_if : (kept : Option Fault) (place : Place) (branches : List Branch) (otherwise : List Step) → x ≡ statement.If place branches otherwise → first_of kept (stating_tried x loop s).faults ≡ first_of (first_of kept (in_turn (map (branch_tried_in loop) branches) s).faults) (block (map (trying_in loop) otherwise) (in_turn (map (branch_tried_in loop) branches) s).next).faults
  noted_if kept place branches otherwise h = ap (λ (t : Stated State (List XStat)). first_of kept t.faults) (trial_is x (Statement-F.If place branches otherwise) loop s (ap out-Statement h ∙ statement.outs-If place branches otherwise)) ∙ ap (λ (t : Stated State (List XBranch)). first_of kept (t.faults ++ (block (each_in loop (map trying otherwise)) t.next).faults)) (turns loop branch_tried branches s) ∙ ap (λ (u : Stated State (List XStat)). first_of kept ((in_turn (map (branch_tried_in loop) branches) s).faults ++ u.faults)) (blocks loop trying otherwise (in_turn (map (branch_tried_in loop) branches) s).next) ∙ first_of_append kept _ _

  pub next_while : (place : Place) (test : Expr) (inner : List Step) → x ≡ statement.While place test inner → (stating_tried x loop s).next ≡ (block (map (trying_in true) inner) s).next
  next_while place test inner h = ap (λ (t : Stated State (List XStat)). t.next) (trial_is x (Statement-F.While place test inner) loop s (ap out-Statement h ∙ statement.outs-While place test inner)) ∙ ap (λ (u : Stated State (List XStat)). u.next) (blocks true trying inner s)

  pub made_while : (place : Place) (test : Expr) (inner : List Step) → x ≡ statement.While place test inner → (stating_tried x loop s).made ≡ looped place.line (test_in Experiment s.names test).made (block (map (trying_in true) inner) s).made
  made_while place test inner h = ap (λ (t : Stated State (List XStat)). t.made) (trial_is x (Statement-F.While place test inner) loop s (ap out-Statement h ∙ statement.outs-While place test inner)) ∙ ap (λ (u : Stated State (List XStat)). looped place.line (test_in Experiment s.names test).made u.made) (blocks true trying inner s)

  pub noted_while : (kept : Option Fault) (place : Place) (test : Expr) (inner : List Step) → x ≡ statement.While place test inner → first_of kept (stating_tried x loop s).faults ≡ first_of (first_of kept (test_in Experiment s.names test).faults) (block (map (trying_in true) inner) s).faults
  noted_while kept place test inner h = ap (λ (t : Stated State (List XStat)). first_of kept t.faults) (trial_is x (Statement-F.While place test inner) loop s (ap out-Statement h ∙ statement.outs-While place test inner)) ∙ ap (λ (u : Stated State (List XStat)). first_of kept ((test_in Experiment s.names test).faults ++ u.faults)) (blocks true trying inner s) ∙ first_of_append kept _ _

  pub next_for : (place : Place) (walk : Walk) (inner : List Step) → x ≡ statement.For place walk inner → (stating_tried x loop s).next ≡ cut (length s.names) (in_turn (map (trying_in true) inner) (walk_in Experiment binder.Variable walk s).next).next
  next_for place walk inner h = ap (λ (t : Stated State (List XStat)). t.next) (trial_is x (Statement-F.For place walk inner) loop s (ap out-Statement h ∙ statement.outs-For place walk inner)) ∙ ap (λ (u : Stated State (List XStat)). cut (length s.names) u.next) (turns true trying inner (walk_in Experiment binder.Variable walk s).next)

  pub made_for : (place : Place) (walk : Walk) (inner : List Step) → x ≡ statement.For place walk inner → (stating_tried x loop s).made ≡ walked place.line (walk_in Experiment binder.Variable walk s).made (in_turn (map (trying_in true) inner) (walk_in Experiment binder.Variable walk s).next).made
  made_for place walk inner h = ap (λ (t : Stated State (List XStat)). t.made) (trial_is x (Statement-F.For place walk inner) loop s (ap out-Statement h ∙ statement.outs-For place walk inner)) ∙ ap (λ (u : Stated State (List XStat)). walked place.line (walk_in Experiment binder.Variable walk s).made u.made) (turns true trying inner (walk_in Experiment binder.Variable walk s).next)

  pub noted_for : (kept : Option Fault) (place : Place) (walk : Walk) (inner : List Step) → x ≡ statement.For place walk inner → first_of kept (stating_tried x loop s).faults ≡ first_of (first_of kept (walk_in Experiment binder.Variable walk s).faults) (in_turn (map (trying_in true) inner) (walk_in Experiment binder.Variable walk s).next).faults
  noted_for kept place walk inner h = ap (λ (t : Stated State (List XStat)). first_of kept t.faults) (trial_is x (Statement-F.For place walk inner) loop s (ap out-Statement h ∙ statement.outs-For place walk inner)) ∙ ap (λ (u : Stated State (List XStat)). first_of kept ((walk_in Experiment binder.Variable walk s).faults ++ u.faults)) (turns true trying inner (walk_in Experiment binder.Variable walk s).next) ∙ first_of_append kept _ _

module _ (b : Branch) (loop : Bool) (s : State) where
  pub next_branch : (branch_tried b loop s).next ≡ (block (map (trying_in loop) (out-Branch b).block) s).next
  next_branch = ap (λ (t : Stated State (List XBranch)). t.next) (branch_is b loop s) ∙ ap (λ (u : Stated State (List XStat)). u.next) (blocks loop trying (out-Branch b).block s)

  pub made_branch : (branch_tried b loop s).made ≡ branched (test_in Experiment s.names (out-Branch b).condition).made (block (map (trying_in loop) (out-Branch b).block) s).made
  made_branch = ap (λ (t : Stated State (List XBranch)). t.made) (branch_is b loop s) ∙ ap (λ (u : Stated State (List XStat)). branched (test_in Experiment s.names (out-Branch b).condition).made u.made) (blocks loop trying (out-Branch b).block s)

  pub noted_branch : (kept : Option Fault) → first_of kept (branch_tried b loop s).faults ≡ first_of (first_of kept (test_in Experiment s.names (out-Branch b).condition).faults) (block (map (trying_in loop) (out-Branch b).block) s).faults
  noted_branch kept = ap (λ (t : Stated State (List XBranch)). first_of kept t.faults) (branch_is b loop s) ∙ ap (λ (u : Stated State (List XStat)). first_of kept ((test_in Experiment s.names (out-Branch b).condition).faults ++ u.faults)) (blocks loop trying (out-Branch b).block s) ∙ first_of_append kept _ _
