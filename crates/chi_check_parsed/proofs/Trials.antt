-- What the checker makes of the experiments of a short source has short text literals.
use Rattle.std.proofs.Common.{◌≡◌, ℕ, Bool, true, false, ◌++◌, List, [], ◌∷◌, map, Option, Some, None, sym, ap, subst, ◌∙◌}
use Rattle.std.specs.Prelude.{option_map}
use Rattle.chi_token.specs.declared.place.Place.{Place}
use Rattle.chi_token.specs.declared.token.Token.TheVariants as token
use Rattle.chi_token.specs.declared.sign.Sign.TheVariants as sign
use Rattle.chi_token.specs.declared.keyword.Keyword.TheVariants as keyword
use Rattle.chi_tree.specs.declared.expr.Expr.{Expr}
use Rattle.chi_tree.specs.declared.statement.Alternative.{Alternative, fold-Alternative}
use Rattle.chi_tree.specs.declared.statement.Branch.{Branch, fold-roll-Branch}
use Rattle.chi_tree.specs.declared.statement.Statement.{Statement, Statement-F, map-Statement, out-Statement, fold_out-Statement}
use Rattle.chi_tree.specs.declared.statement.Statement.TheVariants as statement
use Rattle.chi_tree.specs.declared.statement.Step.{Step, fold-roll-Step}
use Rattle.chi_tree.specs.declared.statement.Target.{Target}
use Rattle.chi_tree.specs.declared.statement.Variable.{Variable}
use Rattle.chi_tree.specs.declared.type_tree.TypeTree.{TypeTree}
use Rattle.chi_tree.specs.Statements.{step}
use Rattle.chi_tree_spell.specs.Words.{all, each_after, separated}
use Rattle.chi_tree_spell.specs.Expressions.{spelled_expr, spelled_type}
use Rattle.chi_tree_spell.specs.Statements as spell
use Rattle.chi_tree_spell.specs.Statements.{spelled_exprs, spelled_target, spelled_variable, spelled_statement, spelled_step, spelled_branch, spelled_walk, semicolon_if}
use Rattle.chi_tree_laws.specs.Levels as level
use Rattle.chi_tree_laws.specs.Expressions.{FormedType, FormedExpr, FormedExprs}
use Rattle.chi_tree_laws.specs.Statements as formed
use Rattle.chi_tree_laws.specs.Statements.{FormedTargets, FormedVariable, FormedVariables, FormedBlock, FormedInner, FormedStatement, FormedBranches}
use Rattle.chi_core.specs.declared.experiment.XBranch.{XBranch, out-roll-XBranch}
use Rattle.chi_core.specs.declared.experiment.XStat.{XStat}
use Rattle.chi_core.specs.declared.experiment.XStat.TheVariants as trial
use Rattle.chi_core.specs.declared.expression.CExpr.{CExpr}
use Rattle.chi_core.specs.declared.statement.CStat.{CStat}
use Rattle.chi_core.specs.declared.statement.CStat.TheVariants as made
use Rattle.chi_check_types.specs.declared.meant.Meant.{Meant}
use Rattle.chi_check_types.specs.Names.{Names}
use Rattle.chi_check_types.specs.Typed.{Typed, unless}
use Rattle.chi_check_expr.specs.Typing.{reading}
use Rattle.chi_check_expr.proofs.Kept.{Each, IfGiven}
use Rattle.chi_check_laws.specs.Below.chi_check_stat_rules.specs.declared.home.Home.TheVariants as home
use Rattle.chi_check_laws.specs.Below.chi_check_stat_rules.specs.declared.parts.Aim.{Aim}
use Rattle.chi_check_laws.specs.Below.chi_check_stat_rules.specs.Endings.{loop_rule}
use Rattle.chi_check_laws.specs.Below.chi_check_stat_rules.specs.Homes.{site_of, local_rule}
use Rattle.chi_check_laws.specs.Below.chi_check_stat_rules.specs.ModelRuns.{initial_run}
use Rattle.chi_check_laws.specs.Below.chi_check_stat_rules.specs.Places.{type_place}
use Rattle.chi_check_laws.specs.Below.chi_check_stat_lines.specs.declared.state.Binder.TheVariants as binder
use Rattle.chi_check_laws.specs.Below.chi_check_stat_lines.specs.declared.state.Opened.{Opened}
use Rattle.chi_check_laws.specs.Below.chi_check_stat_lines.specs.declared.state.State.{State}
use Rattle.chi_check_laws.specs.Below.chi_check_stat_lines.specs.Stated.{in_turn, alone, one}
use Rattle.chi_check_laws.specs.Below.chi_check_stat_lines.specs.States.{next_slot, new_name_rule, with_variable, block, Going, each_in}
use Rattle.chi_check_laws.specs.Below.chi_check_stat_lines.specs.Values.{made_of, test_in, target_in, assignment_in}
use Rattle.chi_check_laws.specs.Below.chi_check_stat_lines.specs.Declarations.{declared, walk_in}
use Rattle.chi_check_laws.specs.Below.chi_check_stat_lines.specs.Lines.{communicating, return_in, exit_in, finish_in, write_in}
use Rattle.chi_check_laws.specs.Below.chi_check_experiments.specs.Experiments.{lined, ModelCall, model_call, run_called, call_alone, assigning, assignment_tried, initial_call, declaring, variable_tried, declaration_tried, no_alternative, trial_step, trial_branch, trial_inner, stating_tried, trying, branch_tried, trying_in, trying_all}
use Rattle.chi_check_laws.proofs.Layers.{statement_short}
use Rattle.chi_check_laws.proofs.TrialLayers.{trial_short, branch_short}
use Rattle.chi_check_laws.specs.Trials.{trial_texts, branch_texts}
use Rattle.chi_check_parsed.proofs.Tokens.{AllFit, fit_left, fit_right}
use Rattle.chi_check_parsed.proofs.Short.{on_map, unless_on, Short, SizesShort, both_true}
use Rattle.chi_check_parsed.proofs.Lines.{AimShort, StatementShort, all_mapped}
use Rattle.chi_check_parsed.proofs.Parts.{TurnShort, OpenShort, both_on, one_of, held_on, turns_short, after_each, test_short, walk_short, communicating_short, after_targets, assignment_short, declared_short, write_short, return_short, exit_short, finish_short}
use Rattle.chi_check_parsed.proofs.Trees.{type_short}
use Rattle.chi_check_parsed.proofs.Blocks.{GoesShort, in_turn_short, alone_short, statement_tokens, spelled_is, step_spelled, branch_spelled, else_fits}
use Rattle.chi_check_parsed.proofs.ModelRuns.{TrialShort, TrialBranchShort, assigned_run_on, initial_run_on, CallShort, called_short, call_short, calls_short}

-- ---- statements that functions have too

line_short : (s : CStat) → StatementShort s → TrialShort (trial.Line s)
line_short s h = trial_short _ _ (trial.outs-Line s) ∙ h

lines_short : (xs : List CStat) → Each StatementShort xs → Each TrialShort (map trial.Line xs)
lines_short [] h = tt
lines_short (x ∷ xs) h = (line_short x h.0, lines_short xs h.1)

lined_short : (t : Typed CStat) → IfGiven StatementShort t.made → IfGiven TrialShort (lined t).made
lined_short t h = on_map StatementShort TrialShort trial.Line t.made line_short h

-- alone
alone_lined : (s : State) (t : Typed CStat) → IfGiven StatementShort t.made → IfGiven (Each TrialShort) (alone s (lined t)).made
alone_lined s t h = alone_short TrialShort s (lined t) (lined_short t h)

-- ---- assignments

module _ (names : Names) where
  abbrev AssignedShort : Target × ModelCall → Type 0
  AssignedShort call = IfGiven AimShort (target_in home.Experiment names call.0).made × CallShort names call.1

  call_alone_short : (ts : List Target) (es : List Expr) → Each (IfGiven AimShort) (map made_of (map (target_in home.Experiment names) ts)) → Each (λ e. IfGiven (CallShort names) (model_call names e)) es
      → IfGiven AssignedShort (call_alone names ts es)
  call_alone_short [] es h k = tt
  call_alone_short (t ∷ []) [] h k = tt
  call_alone_short (t ∷ []) (e ∷ []) h k = on_map (CallShort names) AssignedShort (λ c. (t, c)) (model_call names e) (λ c l. (h.0, l)) k.0
  call_alone_short (t ∷ []) (e ∷ f ∷ es) h k = tt
  call_alone_short (t ∷ u ∷ ts) es h k = tt

  assigning_short : (ts : List Target) (equals : Place) (es : List Expr) (call : Option (Target × ModelCall)) → IfGiven AssignedShort call → IfGiven StatementShort (assignment_in home.Experiment names ts equals es).made
      → IfGiven TrialShort (assigning names ts equals es call).made
  assigning_short ts equals es None h k = lined_short (assignment_in home.Experiment names ts equals es) k
  assigning_short ts equals es (Some call) h k =
      assigned_run_on call.0.name.place.line equals (target_in home.Experiment names call.0).made (run_called names call.1).made h.0 (called_short names call.1 h.1)

  tried_assignment_short : (d : ℕ) (ts : List Target) (equals : Place) (es : List Expr) → FormedTargets d ts → FormedExprs d es
      → AllFit (separated (token.Sign sign.Comma) (map spelled_target ts) ++ token.Sign sign.Assign ∷ spelled_exprs es) → IfGiven TrialShort (assignment_tried names ts equals es).made
  tried_assignment_short d ts equals es f g fit =
      let own = fit_left (separated (token.Sign sign.Comma) (map spelled_target ts)) (token.Sign sign.Assign ∷ spelled_exprs es) fit in
      let rest = fit_right (separated (token.Sign sign.Comma) (map spelled_target ts)) (token.Sign sign.Assign ∷ spelled_exprs es) fit in
      let targets = after_targets home.Experiment names d ts f (after_each (token.Sign sign.Comma) tt (map spelled_target ts) own) in
      let calls = calls_short names d es g (after_each (token.Sign sign.Comma) tt (map spelled_expr es) rest.1) in
      assigning_short ts equals es (call_alone names ts es) (call_alone_short ts es targets calls) (assignment_short home.Experiment names d ts equals es f g fit)

-- ---- declarations

abbrev FirstShort : Names → Place × ModelCall → Type 0
FirstShort names call = CallShort names call.1

first_short : (names : Names) (d : ℕ) (v : Variable) → FormedVariable d v → AllFit (spelled_variable v) → IfGiven (FirstShort names) (initial_call names v.initial)
first_short names _ _ formed.bare fit = tt
first_short names _ _ (formed.with_value {d = d} {place = place} {e = e} f) fit =
    on_map (CallShort names) (FirstShort names) (λ c. (place, c)) (model_call names e) (λ c h. h) (call_short names level.Expr d e f fit.1.1)

declaring_short : (line : ℕ) (m : Option Meant) (v : Variable) (call : Option (Place × ModelCall)) (s : State) → IfGiven (FirstShort s.names) call → IfGiven (Each StatementShort) (declared home.Experiment line m v s).made
    → IfGiven (Each TrialShort) (declaring line m v call s).made
declaring_short line m v None s h k = on_map (Each StatementShort) (Each TrialShort) (map trial.Line) (declared home.Experiment line m v s).made lines_short k
declaring_short line m v (Some call) s h k =
    let t = option_map (λ m. m.ty) m in
    let r = run_called s.names call.1 in
    let first = initial_run line (next_slot s) call.0 t r.made in
    held_on (Each TrialShort) (new_name_rule s.names v.name) (record { next = with_variable binder.Variable v.name t s; faults = r.faults ++ first.faults; made = one first.made })
    (one_of TrialShort first.made (initial_run_on line (next_slot s) call.0 t r.made (called_short s.names call.1 h)))

variable_short : (line : ℕ) (m : Option Meant) (d : ℕ) (v : Variable) → FormedVariable d v → IfGiven SizesShort m → AllFit (spelled_variable v) → TurnShort TrialShort (variable_tried line m v)
variable_short line m d v f h fit s = declaring_short line m v (initial_call s.names v.initial) s (first_short s.names d v f fit) (declared_short home.Experiment line m d v f h fit s)

after_variables : (line : ℕ) (m : Option Meant) (d : ℕ) (vs : List Variable) → FormedVariables d vs → IfGiven SizesShort m → AllFit (each_after (token.Sign sign.Comma) (map spelled_variable vs)) → Each (TurnShort TrialShort) (map (variable_tried line m) vs)
after_variables line m _ _ (formed.one_variable {d = d} {v = v} f) h fit = (variable_short line m d v f h (fit_left (spelled_variable v) _ fit.1), tt)
after_variables line m _ _ (formed.variables {d = d} {v = v} {more = vs} f fs) h fit = (variable_short line m d v f h (fit_left (spelled_variable v) _ fit.1), after_variables line m d vs fs h (fit_right (spelled_variable v) _ fit.1))

tried_declaration_short : (d : ℕ) (t : TypeTree) (vs : List Variable) → FormedType d t → FormedVariables d vs → AllFit (spelled_type t ++ separated (token.Sign sign.Comma) (map spelled_variable vs)) → TurnShort TrialShort (declaration_tried t vs)
tried_declaration_short d t vs f g fit s =
    let m = (reading (site_of home.Experiment) s.names t true).made in
    let sizes = type_short (site_of home.Experiment) s.names d t f (fit_left (spelled_type t) _ fit) true in
    held_on (Each TrialShort) (local_rule home.Experiment (type_place t) (option_map (λ m. m.ty) m)) (in_turn (map (variable_tried (type_place t).line m) vs) s)
    (turns_short TrialShort (map (variable_tried (type_place t).line m) vs) (after_variables (type_place t).line m d vs g sizes (after_each (token.Sign sign.Comma) tt (map spelled_variable vs) (fit_right (spelled_type t) _ fit))) s)

-- ---- what statements with blocks come to

choose_short : (line : ℕ) (bs : List XBranch) (xs : List XStat) → Each TrialBranchShort bs → Each TrialShort xs → TrialShort (trial.If line bs xs)
choose_short line bs xs h k = trial_short _ _ (trial.outs-If line bs xs) ∙ both_true _ _ (all_mapped branch_texts bs h) (all_mapped trial_texts xs k)

while_short : (line : ℕ) (e : CExpr) (xs : List XStat) → Short e → Each TrialShort xs → TrialShort (trial.While line e xs)
while_short line e xs h k = trial_short _ _ (trial.outs-While line e xs) ∙ both_true _ _ h (all_mapped trial_texts xs k)

for_short : (line : ℕ) (o : Opened) (xs : List XStat) → OpenShort o → Each TrialShort xs → TrialShort (trial.For line o.slots o.container xs)
for_short line o xs h k = trial_short _ _ (trial.outs-For line o.slots o.container xs) ∙ both_true _ _ h (all_mapped trial_texts xs k)

branch_made : (e : CExpr) (xs : List XStat) → Short e → Each TrialShort xs → TrialBranchShort (record { test = e; block = xs })
branch_made e xs h k = branch_short _ _ (out-roll-XBranch _) ∙ both_true _ _ h (all_mapped trial_texts xs k)

-- ---- by the outermost layers

abbrev TriesShort : Statement → Type 0
TriesShort x = AllFit (spelled_statement x) → GoesShort TrialShort (stating_tried x)

abbrev untried : Alternative → Unit {0}
untried = fold-Alternative (Unit {0}) (Going XStat) (Going XBranch) (Going XStat) no_alternative trial_step trial_branch trial_inner

abbrev statement_made : Statement-F Alternative Statement Branch Step → Going XStat
statement_made o = trial_step (map-Statement Alternative Statement Branch Step (Unit {0}) (Going XStat) (Going XBranch) (Going XStat) untried stating_tried branch_tried trying o)

stating_is : (x : Statement) (o : Statement-F Alternative Statement Branch Step) → out-Statement x ≡ o → stating_tried x ≡ statement_made o
unfolding stating_tried trying branch_tried
stating_is x o h = fold_out-Statement (Unit {0}) (Going XStat) (Going XBranch) (Going XStat) no_alternative trial_step trial_branch trial_inner x ∙ ap statement_made h

at_statement : (x : Statement) (o : Statement-F Alternative Statement Branch Step) → out-Statement x ≡ o → (AllFit (statement_tokens home.Experiment o) → GoesShort TrialShort (statement_made o)) → TriesShort x
at_statement x o h k fit = subst (GoesShort TrialShort) (sym (stating_is x o h)) (k (subst AllFit (spelled_is home.Experiment x o h) fit))

trying_is : (s : Statement) (semicolon : Bool) → trying (step s semicolon) ≡ stating_tried s
unfolding stating_tried trying branch_tried
trying_is s semicolon = fold-roll-Step (Unit {0}) (Going XStat) (Going XBranch) (Going XStat) no_alternative trial_step trial_branch trial_inner (record { statement = s; semicolon = semicolon })

step_short : (s : Statement) (semicolon : Bool) → TriesShort s → AllFit (spelled_step (step s semicolon)) → GoesShort TrialShort (trying (step s semicolon))
step_short s semicolon h fit = subst (GoesShort TrialShort) (sym (trying_is s semicolon)) (h (fit_left (spelled_statement s) (semicolon_if semicolon) (subst AllFit (step_spelled home.Experiment s semicolon) fit)))

branch_is : (e : Expr) (xs : List Step) → branch_tried (formed.branch e xs) ≡ trial_branch (record { condition = e; block = map trying xs })
unfolding stating_tried trying branch_tried
branch_is e xs = fold-roll-Branch (Unit {0}) (Going XStat) (Going XBranch) (Going XStat) no_alternative trial_step trial_branch trial_inner (record { condition = e; block = xs })

branch_chooses : (d : ℕ) (e : Expr) (xs : List Step) → FormedExpr level.Expr d e → (AllFit (all (map spelled_step xs)) → Each (GoesShort TrialShort) (map trying xs))
    → AllFit (spelled_branch (formed.branch e xs)) → GoesShort TrialBranchShort (branch_tried (formed.branch e xs))
branch_chooses d e xs f inner fit =
    let own = subst AllFit (branch_spelled home.Experiment e xs) fit in
    let rest = fit_right (spelled_expr e) (token.Sign sign.Colon ∷ all (map spelled_step xs)) own in
    subst (GoesShort TrialBranchShort) (sym (branch_is e xs)) (λ loop s.
    both_on Short (Each TrialShort) (Each TrialBranchShort) (λ test inner. record { test = test; block = inner } ∷ []) (test_in home.Experiment s.names e).made (block (each_in loop (map trying xs)) s).made (λ e xs h k. (branch_made e xs h k, tt))
    (test_short home.Experiment s.names d e f (fit_left (spelled_expr e) _ own)) (in_turn_short TrialShort loop (map trying xs) (inner rest.1) s))

-- ---- all statements

mutual
  block_short : (b d : ℕ) (xs : List Step) → FormedBlock b d xs → AllFit (all (map spelled_step xs)) → Each (GoesShort TrialShort) (map trying xs)
  block_short _ _ _ (formed.last {ends = ends} {semicolon = semicolon} {b = b} {d = d} {s = s} f) fit = (step_short s semicolon (statement_tries ends b d s f) (fit_left (spelled_step (step s semicolon)) _ fit), tt)
  block_short _ _ _ (formed.next {ends = ends} {b = b} {d = d} {s = s} {more = more} f fs) fit =
      (step_short s true (statement_tries ends b d s f) (fit_left (spelled_step (step s true)) _ fit), block_short b d more fs (fit_right (spelled_step (step s true)) _ fit))
  block_short _ _ _ (formed.after_end {b = b} {d = d} {s = s} {more = more} f fs) fit =
      (step_short s false (statement_tries true b d s f) (fit_left (spelled_step (step s false)) _ fit), block_short b d more fs (fit_right (spelled_step (step s false)) _ fit))

  inner_short : (b d : ℕ) (xs : List Step) → FormedInner b d xs → AllFit (all (map spelled_step xs)) → Each (GoesShort TrialShort) (map trying xs)
  inner_short _ _ _ (formed.inner {b = b} {d = d} {block = xs} f) fit = block_short b d xs f fit

  statement_tries : (ends : Bool) (b d : ℕ) (x : Statement) → FormedStatement ends b d x → TriesShort x
  statement_tries _ _ _ _ (formed.declare {d = d} {t = t} {vs = vs} f g) = at_statement _ _ (statement.outs-Declare t vs) (λ fit loop. tried_declaration_short d t vs f g fit)
  statement_tries _ _ _ _ (formed.assign {d = d} {ts = ts} {place = place} {e = e} {es = es} f g) = at_statement _ _ (statement.outs-Assign ts place (e ∷ es)) (λ fit loop s. alone_short TrialShort s (assignment_tried s.names ts place (e ∷ es)) (tried_assignment_short s.names d ts place (e ∷ es) f g fit))
  statement_tries _ _ _ _ (formed.communicate {d = d} {c = c} f) = at_statement _ _ (statement.outs-Communicate c) (λ fit loop s. alone_lined s (communicating home.Experiment s.names c) (communicating_short home.Experiment s.names d c f fit))
  statement_tries _ _ _ _ (formed.pass {place = place}) = at_statement _ _ (statement.outs-Pass place) (λ fit loop s. alone_lined s (unless [] (made.Pass place.line)) (statement_short _ _ (made.outs-Pass place.line)))
  statement_tries _ _ _ _ (formed.leave {place = place}) = at_statement _ _ (statement.outs-Break place) (λ fit loop s. alone_lined s (unless (loop_rule loop place) (made.Break place.line)) (unless_on StatementShort (loop_rule loop place) (made.Break place.line) (statement_short _ _ (made.outs-Break place.line))))
  statement_tries _ _ _ _ (formed.continue {place = place}) = at_statement _ _ (statement.outs-Continue place) (λ fit loop s. alone_lined s (unless (loop_rule loop place) (made.Continue place.line)) (unless_on StatementShort (loop_rule loop place) (made.Continue place.line) (statement_short _ _ (made.outs-Continue place.line))))
  statement_tries _ _ _ _ (formed.select {place = place} {xs = xs} f) = at_statement _ _ (statement.outs-Select place xs) (λ fit loop s. tt)
  statement_tries _ _ _ _ (formed.if_branches {b = b} {d = d} {place = place} {bs = bs} f) = at_statement _ _ (statement.outs-If place bs []) (λ fit loop s.
      let chosen = separated (token.Word keyword.ElifWord) (map spelled_branch bs) in
      let front = fit_left (chosen ++ []) (token.Word keyword.EndWord ∷ []) fit.1 in
      let first = branches_choose b d bs f (after_each (token.Word keyword.ElifWord) tt (map spelled_branch bs) (fit_left chosen [] front)) in
      both_on (Each TrialBranchShort) (Each TrialShort) (Each TrialShort) (λ bs xs. trial.If place.line bs xs ∷ []) (in_turn (each_in loop (map branch_tried bs)) s).made (Some []) (λ bs xs h k. (choose_short place.line bs xs h k, tt))
      (in_turn_short TrialBranchShort loop (map branch_tried bs) first s) tt)
  statement_tries _ _ _ _ (formed.if_else {b = b} {d = d} {place = place} {bs = bs} {block = xs} f g) = at_statement _ _ (statement.outs-If place bs xs) (λ fit loop s.
      let chosen = separated (token.Word keyword.ElifWord) (map spelled_branch bs) in
      let otherwise = spell.else_tokens (map spelled_step xs) in
      let front = fit_left (chosen ++ otherwise) (token.Word keyword.EndWord ∷ []) fit.1 in
      let first = branches_choose b d bs f (after_each (token.Word keyword.ElifWord) tt (map spelled_branch bs) (fit_left chosen otherwise front)) in
      let last = inner_short b d xs g (else_fits home.Experiment xs (fit_right chosen otherwise front)) in
      let turn = in_turn (each_in loop (map branch_tried bs)) s in
      both_on (Each TrialBranchShort) (Each TrialShort) (Each TrialShort) (λ bs xs. trial.If place.line bs xs ∷ []) turn.made (block (each_in loop (map trying xs)) turn.next).made (λ bs xs h k. (choose_short place.line bs xs h k, tt))
      (in_turn_short TrialBranchShort loop (map branch_tried bs) first s) (in_turn_short TrialShort loop (map trying xs) last turn.next))
  statement_tries _ _ _ _ (formed.while {b = b} {d = d} {place = place} {e = e} {block = xs} f g) = at_statement _ _ (statement.outs-While place e xs) (λ fit loop s.
      let rest = fit_right (spelled_expr e) _ fit.1 in
      let inner = inner_short b d xs g (fit_left (all (map spelled_step xs)) _ rest.1) in
      both_on Short (Each TrialShort) (Each TrialShort) (λ test inner. trial.While place.line test inner ∷ []) (test_in home.Experiment s.names e).made (block (each_in true (map trying xs)) s).made (λ e xs h k. (while_short place.line e xs h k, tt))
      (test_short home.Experiment s.names d e f (fit_left (spelled_expr e) _ fit.1)) (in_turn_short TrialShort true (map trying xs) inner s))
  statement_tries _ _ _ _ (formed.for_each {b = b} {d = d} {place = place} {walk = walk} {block = xs} f g) = at_statement _ _ (statement.outs-For place walk xs) (λ fit loop s.
      let rest = fit_right (spelled_walk walk) _ fit.1 in
      let inner = inner_short b d xs g (fit_left (all (map spelled_step xs)) _ rest.1) in
      let w = walk_in home.Experiment binder.Variable walk s in
      both_on OpenShort (Each TrialShort) (Each TrialShort) (λ w inner. trial.For place.line w.slots w.container inner ∷ []) w.made (in_turn (each_in true (map trying xs)) w.next).made (λ o xs h k. (for_short place.line o xs h k, tt))
      (walk_short home.Experiment binder.Variable d walk f (fit_left (spelled_walk walk) _ fit.1) s) (in_turn_short TrialShort true (map trying xs) inner w.next))
  statement_tries _ _ _ _ (formed.return {d = d} {place = place} {e = e} f) = at_statement _ _ (statement.outs-Return place e) (λ fit loop s. alone_lined s (return_in home.Experiment s.names place e) (return_short home.Experiment s.names place d e f fit.1))
  statement_tries _ _ _ _ (formed.exit {d = d} {place = place} {e = e} f) = at_statement _ _ (statement.outs-Exit place e) (λ fit loop s. alone_lined s (exit_in home.Experiment s.names place e) (exit_short home.Experiment s.names place d e f fit.1))
  statement_tries _ _ _ _ (formed.run {place = place} {es = es} f) = at_statement _ _ (statement.outs-Run place es) (λ fit loop s. tt)
  statement_tries _ _ _ _ (formed.start {place = place} {es = es} f) = at_statement _ _ (statement.outs-Start place es) (λ fit loop s. tt)
  statement_tries _ _ _ _ (formed.finish {d = d} {place = place} {e = e} {es = es} f) = at_statement _ _ (statement.outs-Finish place (e ∷ es)) (λ fit loop s. alone_lined s (finish_in home.Experiment s.names place (e ∷ es)) (finish_short home.Experiment s.names place d (e ∷ es) f fit.1))
  statement_tries _ _ _ _ (formed.write {d = d} {place = place} {line = line} {text = text} {at = at} {es = es} f) = at_statement _ _ (statement.outs-Write place line text at es) (λ fit loop s.
      alone_lined s (write_in home.Experiment s.names place line text at es) (write_short home.Experiment s.names place line text at d es f (fit_left (each_after (token.Sign sign.Comma) (map spelled_expr es)) _ fit.1.1.1)))

  branches_choose : (b d : ℕ) (xs : List Branch) → FormedBranches b d xs → AllFit (each_after (token.Word keyword.ElifWord) (map spelled_branch xs)) → Each (GoesShort TrialBranchShort) (map branch_tried xs)
  branches_choose _ _ _ (formed.one_branch {b = b} {d = d} {e = e} {block = xs} f g) fit = (branch_chooses d e xs f (inner_short b d xs g) (fit_left (spelled_branch (formed.branch e xs)) _ fit.1), tt)
  branches_choose _ _ _ (formed.branches {b = b} {d = d} {e = e} {block = xs} {more = more} f g fs) fit =
      (branch_chooses d e xs f (inner_short b d xs g) (fit_left (spelled_branch (formed.branch e xs)) _ fit.1), branches_choose b d more fs (fit_right (spelled_branch (formed.branch e xs)) _ fit.1))

-- ---- bodies

trying_each : (loop : Bool) (xs : List Step) → Each (GoesShort TrialShort) (map trying xs) → Each (TurnShort TrialShort) (map (trying_in loop) xs)
trying_each loop [] h = tt
trying_each loop (x ∷ xs) h = (h.0 loop, trying_each loop xs h.1)

pub trials_short : (b d : ℕ) (xs : List Step) → FormedInner b d xs → AllFit (all (map spelled_step xs)) → (loop : Bool) → TurnShort TrialShort (trying_all loop xs)
trials_short b d xs f fit loop = turns_short TrialShort (map (trying_in loop) xs) (trying_each loop xs (inner_short b d xs f fit))
