-- Private to proofs. Statements of experiments come to something where no rule is broken, and leave names that have types: by induction on their trees.
use Rattle.std.proofs.Common.{◌≡◌, ℕ, nat_eq, length, Bool, true, not, List, [], ◌∷◌, ◌++◌, map, Option, Some, None, refl, sym, subst}
use Rattle.std.proofs.lemmas.Bool.{and_parts}
use Rattle.std.specs.Prelude.{option_map, is_some}
use Rattle.chi_token.specs.declared.place.Place.{Place}
use Rattle.chi_tree.specs.declared.expr.Entry.{Entry}
use Rattle.chi_tree.specs.declared.expr.Expr.{Expr, Expr-F, out-Expr}
use Rattle.chi_tree.specs.declared.expr.Link.{Link}
use Rattle.chi_tree.specs.declared.expr.Postfix.{Postfix}
use Rattle.chi_tree.specs.declared.statement.Alternative.{Alternative}
use Rattle.chi_tree.specs.declared.statement.Branch.{Branch, Branch-F, map-Branch, roll-Branch}
use Rattle.chi_tree.specs.declared.statement.Statement.{Statement, Statement-F, map-Statement, roll-Statement}
use Rattle.chi_tree.specs.declared.statement.Step.{Step, roll-Step, ind-Step}
use Rattle.chi_tree.specs.declared.statement.Target.{Target}
use Rattle.chi_tree.specs.declared.statement.Variable.{Variable}
use Rattle.chi_tree.specs.declared.type_tree.Formal.{Formal}
use Rattle.chi_tree.specs.declared.type_tree.TypeTree.{TypeTree}
use Rattle.chi_types.specs.declared.ty.Ty.{Ty}
use Rattle.chi_core.specs.declared.experiment.XStat.{XStat}
use Rattle.chi_core.specs.declared.experiment.XStat.TheVariants as trial
use Rattle.chi_core.specs.declared.statement.CStat.{CStat}
use Rattle.chi_core.specs.declared.statement.CStat.TheVariants as statement
use Rattle.chi_check_types.specs.declared.fault.Fault.{Fault}
use Rattle.chi_check_types.specs.declared.known.Known.{Known}
use Rattle.chi_check_types.specs.declared.known.Known.TheVariants as known
use Rattle.chi_check_types.specs.declared.meant.Made.{Made}
use Rattle.chi_check_types.specs.declared.meant.Meant.{Meant}
use Rattle.chi_check_types.specs.declared.rules.TheConstants.{INITIAL_VALUE, ASSIGNED_VALUE, CALL_ARGUMENTS, IN_EXPERIMENT, MODEL_CALL}
use Rattle.chi_check_types.specs.Names.{Names, known_in}
use Rattle.chi_check_types.specs.Typed.{Typed, unless, refused}
use Rattle.chi_check_expr_rules.specs.Conversions.{passed}
use Rattle.chi_check_expr_rules.specs.Nodes.{all_made, barred}
use Rattle.chi_check_expr.specs.Typing.{reading}
use Rattle.chi_check_expr.proofs.Kept.{Good}
use Rattle.chi_check_expr.proofs.Nodes.{left_nil, right_nil, cons_nil}
use Rattle.chi_check.specs.Below.chi_check_stat_rules.specs.declared.home.Home.TheVariants.{Experiment}
use Rattle.chi_check.specs.Below.chi_check_stat_rules.specs.declared.parts.Modelled.{Modelled}
use Rattle.chi_check.specs.Below.chi_check_stat_rules.specs.Endings.{loop_rule}
use Rattle.chi_check.specs.Below.chi_check_stat_rules.specs.Homes.{site_of, local_rule}
use Rattle.chi_check.specs.Below.chi_check_stat_rules.specs.ModelRuns.{model_known, may_run, model_rule, model_run, ran, arguments_of, run_of, run_at, first_run, initial_run}
use Rattle.chi_check.specs.Below.chi_check_stat_rules.specs.Places.{type_place}
use Rattle.chi_check.specs.Below.chi_check_stat_lines.specs.declared.state.Binder.TheVariants as binder
use Rattle.chi_check.specs.Below.chi_check_stat_lines.specs.declared.state.State.{State}
use Rattle.chi_check.specs.Below.chi_check_stat_lines.specs.Stated.{Stated, in_turn, alone, preceded, held_by, one}
use Rattle.chi_check.specs.Below.chi_check_stat_lines.specs.States.{next_slot, new_name_rule, with_variable, block, Going, each_in}
use Rattle.chi_check.specs.Below.chi_check_stat_lines.specs.Values.{made_of, all_faults, values_in, target_in, assignment_in, test_in}
use Rattle.chi_check.specs.Below.chi_check_stat_lines.specs.Declarations.{declared, walk_in}
use Rattle.chi_check.specs.Below.chi_check_stat_lines.specs.Lines.{communicating, return_in, exit_in, finish_in, write_in}
use Rattle.chi_check.specs.Below.chi_check_experiments.specs.Experiments.{lined, ModelCall, call_with, model_call_step, model_call, run_called, call_alone, run_assigned, assigning, assignment_tried, initial_call, declaring, variable_tried, declaration_tried, walked, stating_tried, trying, branch_tried, trying_in, trying_all}
use Rattle.chi_check_laws.proofs.Bindings.{declared_keeps, fine_takes, fine_holds}
use Rattle.chi_check_laws.proofs.Conversions.{some_is, mapped}
use Rattle.chi_check_laws.proofs.Entries.{Entries, known_entry}
use Rattle.chi_check_laws.proofs.Lines.{return_in_whole, exit_in_whole, finish_in_whole, write_in_whole}
use Rattle.chi_check_laws.proofs.MadeCommunications.{communicating_whole, of_all_whole}
use Rattle.chi_check_laws.proofs.MadeValues.{all_made_comes, values_come, target_whole, test_whole, assignment_whole}
use Rattle.chi_check_laws.proofs.ProgramTurns.{Leaves, Keeps, turns_keep, each_keeps, FineState, held_leaves, preceded_leaves, alone_leaves, closed_leaves, WholeGoing, block_keeps, each_going}
use Rattle.chi_check_laws.proofs.Shaped.{Fine, Shaped, reading_shaped}
use Rattle.chi_check_laws.proofs.TrialRuns.{alone_call, first_call}
use Rattle.chi_check_laws.proofs.TrialTrees.{of_statement, of_branch, statement_rolled, branch_rolled, step_rolled}
use Rattle.chi_check_laws.proofs.Turns.{unbroken, not_false}
use Rattle.chi_check_laws.proofs.WholeHeaders.{Comes, WholeTyped, EachComes, refused_whole, unless_whole, barred_whole, of_two_whole, mapped_comes, both_comes}

-- ---- calls of models

barred_none : {A : Type 0} (fs : List Fault) (t : Typed A) → (barred fs t).faults ≡ [] → fs ≡ []
barred_none [] t e = refl
barred_none (f ∷ fs) t e = absurd (cons_nil _ _ e)

no_exit : (exit : Option Ty) → exit ≡ None → is_some exit ≡ true → ⊥
no_exit None is e = cc
no_exit (Some t) is e = cc

module _ (place : Place) (os : List (Option Made)) (given : EachComes os) where
  ran_whole : (m : Modelled) (exit : Option Ty) → m.exit ≡ exit → WholeTyped (barred (model_rule place m) (ran m.number exit (arguments_of place m.params os)))
  ran_whole m None is = λ e.
      let none = barred_none (model_rule place m) (ran m.number None (arguments_of place m.params os)) e in
      let both = and_parts _ _ (not_false (may_run m) (unbroken (not (may_run m)) MODEL_CALL place none)) in
      absurd (no_exit m.exit is both.0)
  ran_whole m (Some exit) is =
      let arguments = arguments_of place m.params os in
      barred_whole (model_rule place m) (ran m.number (Some exit) arguments) (λ e. mapped_comes (model_run m.number exit) arguments.made
      (of_all_whole CALL_ARGUMENTS place (nat_eq (length os) (length m.params)) (λ ms. passed ms m.params) (all_made os) (all_made_comes os given) e))

  run_whole : (o : Option Modelled) → Comes o → WholeTyped (run_of place o os)
  run_whole None c = absurd c
  run_whole (Some m) c = ran_whole m m.exit refl

known_comes : (o : Option Known) → ((k : Known) → o ≡ Some k → Fine k) → (x : Option Modelled) → model_known o ≡ Some x → Comes x
known_comes None f x e = absurd (cc)
known_comes (Some (known.Model number params exit)) f x e = subst Comes (some_is _ x e) tt
known_comes (Some (known.Untyped k)) f x e = absurd (f (known.Untyped k) refl)
known_comes (Some _) f x e = absurd (cc)

module _ (names : Names) (fine : Entries Fine names) where
  step_comes : (layer : Expr-F Expr Postfix TypeTree Entry Link Formal) (c : ModelCall) → model_call_step names layer ≡ Some c → Comes c.model
  step_comes (Expr-F.Call name arguments) c e =
      let f = mapped (call_with name arguments) (model_known (known_in names name.text)) c e in
      subst (λ (c : ModelCall). Comes c.model) f.2 (known_comes (known_in names name.text) (λ k found. known_entry Fine names name.text k fine found) f.0 f.1)
  step_comes _ c e = absurd (cc)

  called_whole : (e : Expr) (c : ModelCall) → model_call names e ≡ Some c → WholeTyped (run_called names c)
  called_whole e c is none =
      let given = values_in Experiment names c.arguments in
      run_whole c.name.place (map made_of given) (values_come Experiment names fine c.arguments (left_nil (all_faults given) _ none)) c.model (step_comes (out-Expr e) c is) (right_nil (all_faults given) _ none)

  -- ---- assignments

  lined_whole : (t : Typed CStat) → WholeTyped t → WholeTyped (lined t)
  lined_whole t w e = mapped_comes trial.Line t.made (w e)

  stored_whole : (equals : Place) (t : Target) (e : Expr) (c : ModelCall) → model_call names e ≡ Some c → WholeTyped (run_assigned names equals t c)
  stored_whole equals t e c is none =
      let to = target_in Experiment names t in
      let r = run_called names c in
      let parts = left_nil (to.faults ++ r.faults) _ none in
      of_two_whole ASSIGNED_VALUE equals (run_at t.name.place.line) to.made r.made (target_whole Experiment names fine t (left_nil to.faults r.faults parts)) (called_whole e c is (right_nil to.faults r.faults parts)) (right_nil (to.faults ++ r.faults) _ none)

  assigning_whole : (targets : List Target) (equals : Place) (values : List Expr) (o : Option (Target × ModelCall)) → call_alone names targets values ≡ o → WholeTyped (assigning names targets equals values o)
  assigning_whole targets equals values None is = lined_whole (assignment_in Experiment names targets equals values) (assignment_whole Experiment names fine targets equals values)
  assigning_whole targets equals values (Some c) is =
      let call = alone_call names targets values c is in
      stored_whole equals c.0 call.0 c.1 call.1

  tried_whole : (targets : List Target) (equals : Place) (values : List Expr) → WholeTyped (assignment_tried names targets equals values)
  tried_whole targets equals values = assigning_whole targets equals values (call_alone names targets values) refl

-- ---- declarations

module _ (line : ℕ) (m : Meant) (shaped : Shaped m) (v : Variable) (s : State) (fine : FineState s) where
  declaring_leaves : (o : Option (Place × ModelCall)) → initial_call s.names v.initial ≡ o → Leaves FineState (declaring line (Some m) v o s)
  declaring_leaves None is = λ e.
      let k = declared_keeps Experiment FineState (λ s fine. fine) line m shaped (fine_takes binder.Variable m.ty) v s fine e in
      (mapped_comes (map trial.Line) (declared Experiment line (Some m) v s).made k.0, k.1)
  declaring_leaves (Some call) is =
      let r = run_called s.names call.1 in
      let first = initial_run line (next_slot s) call.0 (Some m.ty) r.made in
      let inner : Stated State (List XStat) = record { next = with_variable binder.Variable v.name (Some m.ty) s; faults = r.faults ++ first.faults; made = one first.made } in
      let c = first_call s.names v.initial call is in
      held_leaves FineState (new_name_rule s.names v.name) inner (λ e. (
        mapped_comes (λ x. x ∷ []) first.made (of_two_whole INITIAL_VALUE call.0 (first_run line (next_slot s)) (Some m.ty) r.made tt (called_whole s.names fine c.0 call.1 c.1 (left_nil r.faults first.faults e)) (right_nil r.faults first.faults e)),
        fine_takes binder.Variable m.ty v.name s fine,
      ))

variable_keeps : (line : ℕ) (m : Meant) → Shaped m → (v : Variable) → Keeps FineState (variable_tried line (Some m) v)
variable_keeps line m shaped v s fine = declaring_leaves line m shaped v s fine (initial_call s.names v.initial) refl

typed_leaves : (place : Place) (variables : List Variable) (s : State) → FineState s → (fs : List Fault) (o : Option Meant) → Good Shaped fs o
    → Leaves FineState (preceded fs (held_by (local_rule Experiment place (option_map (λ m. m.ty) o)) (in_turn (map (variable_tried place.line o) variables) s)))
typed_leaves place variables s fine fs None g = λ e. absurd (g (left_nil fs _ e))
typed_leaves place variables s fine fs (Some m) g =
    let inner = in_turn (map (variable_tried place.line (Some m)) variables) s in
    preceded_leaves FineState fs (held_by (local_rule Experiment place (Some m.ty)) inner) (held_leaves FineState (local_rule Experiment place (Some m.ty)) inner
    (turns_keep FineState (map (variable_tried place.line (Some m)) variables) (each_keeps FineState (variable_tried place.line (Some m)) (variable_keeps place.line m g.1) variables) s fine))

declaration_keeps : (tree : TypeTree) (variables : List Variable) → Keeps FineState (declaration_tried tree variables)
declaration_keeps tree variables s fine =
    let t = reading (site_of Experiment) s.names tree true in
    typed_leaves (type_place tree) variables s fine t.faults t.made (reading_shaped (site_of Experiment) s.names fine tree true)

refused_leaves : (place : Place) (s : State) → FineState s → Leaves FineState (alone {A = XStat} s (refused IN_EXPERIMENT place))
refused_leaves place s p = alone_leaves FineState {B = XStat} s (refused IN_EXPERIMENT place) p (refused_whole IN_EXPERIMENT place)

-- ---- each form, over parts that come to something

abbrev PA : Alternative → Type 0
PA x = Unit {0}

abbrev PS : Statement → Type 0
PS x = WholeGoing FineState (stating_tried x)

abbrev PB : Branch → Type 0
PB x = WholeGoing FineState (branch_tried x)

abbrev PT : Step → Type 0
PT x = WholeGoing FineState (trying x)

abbrev XA : Type 0
XA = (x : Alternative) × PA x

abbrev XS : Type 0
XS = (x : Statement) × PS x

abbrev XB : Type 0
XB = (x : Branch) × PB x

abbrev XT : Type 0
XT = (x : Step) × PT x

abbrev steps_of : List XT → List (Going XStat)
steps_of inner = map trying (map (λ x. x.0) inner)

branch_whole : (y : Branch-F XA XS XB XT) → WholeGoing FineState (of_branch (map-Branch XA XS XB XT Alternative Statement Branch Step (λ x. x.0) (λ x. x.0) (λ x. x.0) (λ x. x.0) y))
branch_whole y loop s p e =
    let t = test_in Experiment s.names y.condition in
    let inner = block (each_in loop (steps_of y.block)) s in
    let rest = block_keeps FineState (fine_holds Experiment).closes (each_in loop (steps_of y.block)) (each_going FineState trying y.block loop) s p (right_nil t.faults inner.faults e) in
    (both_comes (λ test inner. record { test = test; block = inner } ∷ []) t.made inner.made (test_whole Experiment s.names p y.condition (left_nil t.faults inner.faults e)) rest.0, rest.1)

statement_whole : (y : Statement-F XA XS XB XT) → WholeGoing FineState (of_statement (map-Statement XA XS XB XT Alternative Statement Branch Step (λ x. x.0) (λ x. x.0) (λ x. x.0) (λ x. x.0) y))
statement_whole (Statement-F.Declare tree variables) loop s p = declaration_keeps tree variables s p
statement_whole (Statement-F.Assign targets equals values) loop s p = alone_leaves FineState s (assignment_tried s.names targets equals values) p (tried_whole s.names p targets equals values)
statement_whole (Statement-F.Communicate c) loop s p = alone_leaves FineState s (lined (communicating Experiment s.names c)) p (lined_whole s.names p (communicating Experiment s.names c) (communicating_whole Experiment s.names p c))
statement_whole (Statement-F.Pass place) loop s p = alone_leaves FineState s (lined (unless [] (statement.Pass place.line))) p (λ e. tt)
statement_whole (Statement-F.Break place) loop s p =
    let t = unless (loop_rule loop place) (statement.Break place.line) in
    alone_leaves FineState s (lined t) p (lined_whole s.names p t (unless_whole (loop_rule loop place) (statement.Break place.line)))
statement_whole (Statement-F.Continue place) loop s p =
    let t = unless (loop_rule loop place) (statement.Continue place.line) in
    alone_leaves FineState s (lined t) p (lined_whole s.names p t (unless_whole (loop_rule loop place) (statement.Continue place.line)))
statement_whole (Statement-F.Select place alternatives) loop s p = refused_leaves place s p
statement_whole (Statement-F.If place branches otherwise) loop s p = λ e.
    let turns = each_in loop (map branch_tried (map (λ x. x.0) branches)) in
    let first = in_turn turns s in
    let last = block (each_in loop (steps_of otherwise)) first.next in
    let one = turns_keep FineState turns (each_going FineState branch_tried branches loop) s p (left_nil first.faults last.faults e) in
    let rest = block_keeps FineState (fine_holds Experiment).closes (each_in loop (steps_of otherwise)) (each_going FineState trying otherwise loop) first.next one.1 (right_nil first.faults last.faults e) in
    (both_comes (λ branches otherwise. trial.If place.line branches otherwise ∷ []) first.made last.made one.0 rest.0, rest.1)
statement_whole (Statement-F.While place test inner) loop s p = λ e.
    let t = test_in Experiment s.names test in
    let b = block (each_in true (steps_of inner)) s in
    let rest = block_keeps FineState (fine_holds Experiment).closes (each_in true (steps_of inner)) (each_going FineState trying inner true) s p (right_nil t.faults b.faults e) in
    (both_comes (λ test inner. trial.While place.line test inner ∷ []) t.made b.made (test_whole Experiment s.names p test (left_nil t.faults b.faults e)) rest.0, rest.1)
statement_whole (Statement-F.For place walk inner) loop s p =
    let w = walk_in Experiment binder.Variable walk s in
    let turns = each_in true (steps_of inner) in
    let b = in_turn turns w.next in
    closed_leaves FineState (fine_holds Experiment).closes s (record { next = b.next; faults = w.faults ++ b.faults; made = walked place.line w.made b.made }) p (λ e.
    let first = (fine_holds Experiment).walks binder.Variable walk s p (left_nil w.faults b.faults e) in
    let rest = turns_keep FineState turns (each_going FineState trying inner true) w.next first.1 (right_nil w.faults b.faults e) in
    (both_comes (λ w inner. trial.For place.line w.slots w.container inner ∷ []) w.made b.made first.0 rest.0, rest.1))
statement_whole (Statement-F.Return place value) loop s p = alone_leaves FineState s (lined (return_in Experiment s.names place value)) p (lined_whole s.names p (return_in Experiment s.names place value) (return_in_whole Experiment tt s.names p place value))
statement_whole (Statement-F.Exit place value) loop s p = alone_leaves FineState s (lined (exit_in Experiment s.names place value)) p (lined_whole s.names p (exit_in Experiment s.names place value) (exit_in_whole Experiment tt s.names p place value))
statement_whole (Statement-F.Run place elements) loop s p = refused_leaves place s p
statement_whole (Statement-F.Start place elements) loop s p = refused_leaves place s p
statement_whole (Statement-F.Finish place instances) loop s p =
    alone_leaves FineState s (lined (finish_in Experiment s.names place instances)) p (lined_whole s.names p (finish_in Experiment s.names place instances) (finish_in_whole Experiment tt s.names p place instances))
statement_whole (Statement-F.Write place ends_line format format_place values) loop s p =
    let t = write_in Experiment s.names place ends_line format format_place values in
    alone_leaves FineState s (lined t) p (lined_whole s.names p t (write_in_whole Experiment tt s.names p place ends_line format format_place values))

-- ---- the induction

trying_whole : (x : Step) → WholeGoing FineState (trying x)
trying_whole = ind-Step PA PS PB PT
    (λ x y h. tt)
    (λ x y h. subst (λ x. PS (roll-Statement x)) h (subst (WholeGoing FineState) (sym (statement_rolled _)) (statement_whole y)))
    (λ x y h. subst (λ x. PB (roll-Branch x)) h (subst (WholeGoing FineState) (sym (branch_rolled _)) (branch_whole y)))
    (λ x y h. subst (λ x. PT (roll-Step x)) h (subst (WholeGoing FineState) (sym (step_rolled _)) y.statement.1))

-- a body
pub trials_keep : (loop : Bool) (steps : List Step) → Keeps FineState (trying_all loop steps)
trials_keep loop steps = turns_keep FineState (map (trying_in loop) steps) (each_keeps FineState (trying_in loop) (λ x. trying_whole x loop) steps)
