-- The broken rules of an experiment's statements, in the order in which they are met, and what they come to where there
-- are none.
use Rattle.std.specs.Prelude.{ℕ, Bool, true, List, [], ◌∷◌, ◌++◌, map, Option, Some, None, option_map}
use Rattle.chi_token.specs.declared.place.Place.{Place}
use Rattle.chi_tree.specs.declared.expr.Entry.{Entry}
use Rattle.chi_tree.specs.declared.expr.Expr.{Expr, Expr-F, out-Expr}
use Rattle.chi_tree.specs.declared.expr.Link.{Link}
use Rattle.chi_tree.specs.declared.expr.Postfix.{Postfix}
use Rattle.chi_tree.specs.declared.statement.Alternative.{Alternative-F}
use Rattle.chi_tree.specs.declared.statement.Branch.{Branch, Branch-F, fold-Branch}
use Rattle.chi_tree.specs.declared.statement.Initial.{Initial}
use Rattle.chi_tree.specs.declared.statement.Statement.{Statement, Statement-F, fold-Statement}
use Rattle.chi_tree.specs.declared.statement.Step.{Step, Step-F, fold-Step}
use Rattle.chi_tree.specs.declared.statement.Target.{Target}
use Rattle.chi_tree.specs.declared.statement.Variable.{Variable}
use Rattle.chi_tree.specs.declared.type_tree.Formal.{Formal}
use Rattle.chi_tree.specs.declared.type_tree.Name.{Name}
use Rattle.chi_tree.specs.declared.type_tree.TypeTree.{TypeTree}
use Rattle.chi_core.specs.declared.experiment.XBranch.{XBranch}
use Rattle.chi_core.specs.declared.experiment.XStat.{XStat}
use Rattle.chi_core.specs.declared.experiment.XStat.TheVariants as trial
use Rattle.chi_core.specs.declared.expression.CExpr.{CExpr}
use Rattle.chi_core.specs.declared.statement.CStat.{CStat}
use Rattle.chi_core.specs.declared.statement.CStat.TheVariants as statement
use Rattle.chi_check_types.specs.declared.meant.Meant.{Meant}
use Rattle.chi_check_types.specs.declared.rules.TheConstants.{IN_EXPERIMENT}
use Rattle.chi_check_types.specs.Names.{Names, known_in}
use Rattle.chi_check_types.specs.Typed.{Typed, after, unless, refused}
use Rattle.chi_check_expr.specs.Typing.{reading}
use Rattle.chi_check_stat_rules.specs.declared.home.Home.TheVariants.{Experiment}
use Rattle.chi_check_stat_rules.specs.declared.parts.Modelled.{Modelled}
use Rattle.chi_check_stat_rules.specs.declared.parts.ModelRun.{ModelRun}
use Rattle.chi_check_stat_rules.specs.Endings.{loop_rule}
use Rattle.chi_check_stat_rules.specs.Homes.{site_of, local_rule}
use Rattle.chi_check_stat_rules.specs.ModelRuns.{model_known, run_of, assigned_run, initial_run}
use Rattle.chi_check_stat_rules.specs.Places.{type_place}
use Rattle.chi_check_stat_lines.specs.declared.state.Binder.TheVariants as binder
use Rattle.chi_check_stat_lines.specs.declared.state.Opened.{Opened}
use Rattle.chi_check_stat_lines.specs.declared.state.State.{State}
use Rattle.chi_check_stat_lines.specs.Stated.{Stated, Turn, both, in_turn, alone, preceded, held_by, one}
use Rattle.chi_check_stat_lines.specs.States.{next_slot, new_name_rule, with_variable, closed, block, Going, each_in}
use Rattle.chi_check_stat_lines.specs.Values.{made_of, all_faults, values_in, test_in, target_in, assignment_in}
use Rattle.chi_check_stat_lines.specs.Declarations.{declared, walk_in}
use Rattle.chi_check_stat_lines.specs.Lines.{communicating, write_in, return_in, exit_in, finish_in}

-- ---- statements without blocks

abbrev pub lined : Typed CStat → Typed XStat
lined t = record { faults = t.faults; made = option_map trial.Line t.made }

abbrev pub all_lined : Stated State (List CStat) → Stated State (List XStat)
all_lined t = record { next = t.next; faults = t.faults; made = option_map (map trial.Line) t.made }

-- ---- calls of models

-- a model that is called, and with what
pub record ModelCall : Type 0 where
  pub name : Name
  pub model : Option Modelled
  pub arguments : List Expr

abbrev pub call_with : Name → List Expr → Option Modelled → ModelCall
call_with name arguments model = record { name = name; model = model; arguments = arguments }

abbrev pub model_call_step : Names → Expr-F Expr Postfix TypeTree Entry Link Formal → Option ModelCall
model_call_step names (Expr-F.Call name arguments) = option_map (call_with name arguments) (model_known (known_in names name.text))
model_call_step names _ = None

-- the whole value is a call of a model
abbrev pub model_call : Names → Expr → Option ModelCall
model_call names e = model_call_step names (out-Expr e)

abbrev pub run_called : Names → ModelCall → Typed ModelRun
run_called names c =
    let given = values_in Experiment names c.arguments in
    after (all_faults given) (run_of c.name.place c.model (map made_of given))

-- ---- assignments

abbrev pub call_alone : Names → List Target → List Expr → Option (Target × ModelCall)
call_alone names (t ∷ []) (e ∷ []) = option_map (λ c. (t, c)) (model_call names e)
call_alone names _ _ = None

abbrev pub run_assigned : Names → Place → Target → ModelCall → Typed XStat
run_assigned names equals t c =
    let to = target_in Experiment names t in
    let r = run_called names c in
    after (to.faults ++ r.faults) (assigned_run t.name.place.line equals to.made r.made)

abbrev pub assigning : Names → List Target → Place → List Expr → Option (Target × ModelCall) → Typed XStat
assigning names targets equals values None = lined (assignment_in Experiment names targets equals values)
assigning names targets equals values (Some call) = run_assigned names equals call.0 call.1

abbrev pub assignment_tried : Names → List Target → Place → List Expr → Typed XStat
assignment_tried names targets equals values = assigning names targets equals values (call_alone names targets values)

-- ---- declarations

-- the `=`, and the model that is called
abbrev pub initial_call : Names → Option Initial → Option (Place × ModelCall)
initial_call names None = None
initial_call names (Some initial) = option_map (λ c. (initial.equals, c)) (model_call names initial.value)

abbrev pub run_declared : ℕ → Option Meant → Variable → Place × ModelCall → Turn State XStat
run_declared line meant v call s =
    let r = run_called s.names call.1 in
    let first = initial_run line (next_slot s) call.0 (option_map (λ m. m.ty) meant) r.made in
    held_by (new_name_rule s.names v.name) (record {
      next = with_variable binder.Variable v.name (option_map (λ m. m.ty) meant) s;
      faults = r.faults ++ first.faults;
      made = one first.made;
    })

abbrev pub declaring : ℕ → Option Meant → Variable → Option (Place × ModelCall) → Turn State XStat
declaring line meant v None s = all_lined (declared Experiment line meant v s)
declaring line meant v (Some call) s = run_declared line meant v call s

abbrev pub variable_tried : ℕ → Option Meant → Variable → Turn State XStat
variable_tried line meant v s = declaring line meant v (initial_call s.names v.initial) s

abbrev pub declaration_tried : TypeTree → List Variable → Turn State XStat
declaration_tried tree variables s =
    let t = reading (site_of Experiment) s.names tree true in
    let place = type_place tree in
    preceded t.faults (held_by (local_rule Experiment place (option_map (λ m. m.ty) t.made)) (in_turn (map (variable_tried place.line t.made) variables) s))

-- ---- statements of what their parts come to

abbrev pub chosen : ℕ → Option (List XBranch) → Option (List XStat) → Option (List XStat)
chosen line = both (λ branches otherwise. trial.If line branches otherwise ∷ [])

abbrev pub looped : ℕ → Option CExpr → Option (List XStat) → Option (List XStat)
looped line = both (λ test inner. trial.While line test inner ∷ [])

abbrev pub walked : ℕ → Option Opened → Option (List XStat) → Option (List XStat)
walked line = both (λ w inner. trial.For line w.slots w.container inner ∷ [])

abbrev pub branched : Option CExpr → Option (List XStat) → Option (List XBranch)
branched = both (λ test inner. record { test = test; block = inner } ∷ [])

-- ---- statements

-- What communicates, selects, starts, waits or exits breaks a rule at its first token, whatever else it breaks.
abbrev pub trial_step : Statement-F (Unit {0}) (Going XStat) (Going XBranch) (Going XStat) → Going XStat
trial_step (Statement-F.Declare tree variables) loop s = declaration_tried tree variables s
trial_step (Statement-F.Assign targets equals values) loop s = alone s (assignment_tried s.names targets equals values)
trial_step (Statement-F.Communicate c) loop s = alone s (lined (communicating Experiment s.names c))
trial_step (Statement-F.Pass place) loop s = alone s (lined (unless [] (statement.Pass place.line)))
trial_step (Statement-F.Break place) loop s = alone s (lined (unless (loop_rule loop place) (statement.Break place.line)))
trial_step (Statement-F.Continue place) loop s = alone s (lined (unless (loop_rule loop place) (statement.Continue place.line)))
trial_step (Statement-F.Select place alternatives) loop s = alone s (refused IN_EXPERIMENT place)
trial_step (Statement-F.If place branches otherwise) loop s =
    let first = in_turn (each_in loop branches) s in
    let last = block (each_in loop otherwise) first.next in
    record { next = last.next; faults = first.faults ++ last.faults; made = chosen place.line first.made last.made }
trial_step (Statement-F.While place test inner) loop s =
    let t = test_in Experiment s.names test in
    let b = block (each_in true inner) s in
    record { next = b.next; faults = t.faults ++ b.faults; made = looped place.line t.made b.made }
trial_step (Statement-F.For place walk inner) loop s =
    let w = walk_in Experiment binder.Variable walk s in
    let b = in_turn (each_in true inner) w.next in
    closed s (record { next = b.next; faults = w.faults ++ b.faults; made = walked place.line w.made b.made })
trial_step (Statement-F.Return place value) loop s = alone s (lined (return_in Experiment s.names place value))
trial_step (Statement-F.Exit place value) loop s = alone s (lined (exit_in Experiment s.names place value))
trial_step (Statement-F.Run place elements) loop s = alone s (refused IN_EXPERIMENT place)
trial_step (Statement-F.Start place elements) loop s = alone s (refused IN_EXPERIMENT place)
trial_step (Statement-F.Finish place instances) loop s = alone s (lined (finish_in Experiment s.names place instances))
trial_step (Statement-F.Write place ends_line format format_place values) loop s =
    alone s (lined (write_in Experiment s.names place ends_line format format_place values))

abbrev pub trial_branch : Branch-F (Unit {0}) (Going XStat) (Going XBranch) (Going XStat) → Going XBranch
trial_branch b loop s =
    let t = test_in Experiment s.names b.condition in
    let inner = block (each_in loop b.block) s in
    record { next = inner.next; faults = t.faults ++ inner.faults; made = branched t.made inner.made }

-- no experiment has alternatives
abbrev pub no_alternative : Alternative-F (Unit {0}) (Going XStat) (Going XBranch) (Going XStat) → Unit {0}
no_alternative a = tt

abbrev pub trial_inner : Step-F (Unit {0}) (Going XStat) (Going XBranch) (Going XStat) → Going XStat
trial_inner step = step.statement

unfoldable pub stating_tried : Statement → Going XStat
stating_tried = fold-Statement (Unit {0}) (Going XStat) (Going XBranch) (Going XStat) no_alternative trial_step trial_branch trial_inner

unfoldable pub trying : Step → Going XStat
trying = fold-Step (Unit {0}) (Going XStat) (Going XBranch) (Going XStat) no_alternative trial_step trial_branch trial_inner

unfoldable pub branch_tried : Branch → Going XBranch
branch_tried = fold-Branch (Unit {0}) (Going XStat) (Going XBranch) (Going XStat) no_alternative trial_step trial_branch trial_inner

-- each where a loop stands around it or not
abbrev pub trying_in : Bool → Step → Turn State XStat
trying_in loop step = trying step loop

abbrev pub branch_tried_in : Bool → Branch → Turn State XBranch
branch_tried_in loop b = branch_tried b loop

abbrev pub trying_all : Bool → List Step → Turn State XStat
trying_all loop steps = in_turn (map (trying_in loop) steps)
