-- What calls of models come to is the same without places, but for their lines.
use Rattle.std.proofs.Common.{◌≡◌, ℕ, List, [], ◌∷◌, ◌++◌, map, length, Option, Some, None, refl, ap, sym, ◌∙◌}
use Rattle.std.specs.Prelude.{nat_eq, not, option_map}
use Rattle.chi_token.specs.declared.place.Place.{Place}
use Rattle.chi_tree.specs.declared.expr.Entry.{Entry}
use Rattle.chi_tree.specs.declared.expr.Expr.{Expr, Expr-F, out-Expr, map-Expr, fold_out-Expr}
use Rattle.chi_tree.specs.declared.expr.Expr.TheVariants as expr
use Rattle.chi_tree.specs.declared.expr.Link.{Link}
use Rattle.chi_tree.specs.declared.expr.Postfix.{Postfix}
use Rattle.chi_tree.specs.declared.statement.Initial.{Initial}
use Rattle.chi_tree.specs.declared.statement.Target.{Target}
use Rattle.chi_tree.specs.declared.type_tree.Formal.{Formal}
use Rattle.chi_tree.specs.declared.type_tree.TypeTree.{TypeTree}
use Rattle.chi_tree.specs.View.{nowhere}
use Rattle.chi_tree_laws.specs.Unplaced.{unplaced_name, expr_without, postfix_without, type_without, entry_without, link_without, formal_without, unplaced_expr, unplaced_postfix, unplaced_type, unplaced_entry, unplaced_link, unplaced_formal}
use Rattle.chi_tree_laws.specs.UnplacedStatements.{unplaced_initial, unplaced_target}
use Rattle.chi_types.specs.declared.ty.Ty.{Ty, out-Ty}
use Rattle.chi_types.specs.Fits.{fits, widens}
use Rattle.chi_core.specs.declared.expression.CExpr.{CExpr}
use Rattle.chi_core.specs.declared.target.CTarget.{CTarget}
use Rattle.chi_check_types.specs.declared.meant.Made.{Made}
use Rattle.chi_check_types.specs.declared.rules.TheConstants.{INITIAL_VALUE, ASSIGNED_VALUE, CALL_ARGUMENTS, MODEL_CALL}
use Rattle.chi_check_types.specs.Names.{Names, known_in}
use Rattle.chi_check_types.specs.Typed.{Typed, after}
use Rattle.chi_check_expr_rules.specs.Conversions.{passed}
use Rattle.chi_check_expr_rules.specs.Nodes.{all_made}
use Rattle.chi_check.specs.Below.chi_check_stat_rules.specs.declared.home.Home.TheVariants as home
use Rattle.chi_check.specs.Below.chi_check_stat_rules.specs.declared.parts.Aim.{Aim}
use Rattle.chi_check.specs.Below.chi_check_stat_rules.specs.declared.parts.Modelled.{Modelled}
use Rattle.chi_check.specs.Below.chi_check_stat_rules.specs.declared.parts.ModelRun.{ModelRun}
use Rattle.chi_check.specs.Below.chi_check_stat_rules.specs.ModelRuns.{model_known, may_run, model_rule, ran, arguments_of, run_of, run_into, run_at, assigned_run, first_run, initial_run}
use Rattle.chi_check.specs.Below.chi_check_stat_lines.specs.Values.{made_of, all_faults, values_in, target_in}
use Rattle.chi_check.specs.Below.chi_check_experiments.specs.Experiments.{ModelCall, call_with, model_call_step, model_call, run_called, call_alone, run_assigned, initial_call}
use Rattle.chi_check_places.specs.UnplacedTyped.{unplaced_typed}
use Rattle.chi_check_places.proofs.Faults.{faults-append, broken-unplaced, tested, after-both, barred-both, all-unplaced}
use Rattle.chi_check_program_places.specs.Lineless.{lineless_xstat}
use Rattle.chi_check_program_places.proofs.By.{typed_by, mapped, after-by, two-by}
use Rattle.chi_check_program_places.proofs.Values.{faults-all, made-all, values-unplaced, target-unplaced}
use Rattle.chi_check_program_places.proofs.WithoutTrials.{without-RunModel}

-- ---- runs

ran-unplaced : (number : ℕ) (exit : Option Ty) (t : Typed (List CExpr)) → ran number exit (unplaced_typed t) ≡ unplaced_typed (ran number exit t)
ran-unplaced number None t = refl
ran-unplaced number (Some exit) t = refl

arguments-unplaced : (place : Place) (params : List Ty) (ms : List (Option Made)) → arguments_of nowhere params ms ≡ unplaced_typed (arguments_of place params ms)
arguments-unplaced place params ms = all-unplaced CALL_ARGUMENTS place (nat_eq (length ms) (length params)) (λ ms. passed ms params) (all_made ms)

run-unplaced : (place : Place) (m : Option Modelled) (ms : List (Option Made)) → run_of nowhere m ms ≡ unplaced_typed (run_of place m ms)
run-unplaced place None ms = refl
run-unplaced place (Some m) ms =
    let given = arguments_of place m.params ms in
    barred-both (model_rule place m) (ran m.number m.exit given) (broken-unplaced (not (may_run m)) MODEL_CALL place)
    (ap (ran m.number m.exit) (arguments-unplaced place m.params ms) ∙ ran-unplaced m.number m.exit given)

run-into-same : (line : ℕ) (target : CTarget) (t : Ty) (r : ModelRun) → run_into 0 target t r ≡ option_map lineless_xstat (run_into line target t r)
run-into-same line target t r =
    tested (option_map lineless_xstat) (fits r.exit t) (ap Some (sym (without-RunModel line target r.model r.arguments (widens (out-Ty r.exit) (out-Ty t))))) refl

assigned-run-by : (line : ℕ) (equals : Place) (a : Option Aim) (r : Option ModelRun) → assigned_run 0 nowhere a r ≡ typed_by lineless_xstat (assigned_run line equals a r)
assigned-run-by line equals a r = two-by lineless_xstat ASSIGNED_VALUE equals (run_at 0) (run_at line) (λ a r. run-into-same line a.target a.ty r) a r

pub initial-run-by : (line slot : ℕ) (equals : Place) (t : Option Ty) (r : Option ModelRun) → initial_run 0 slot nowhere t r ≡ typed_by lineless_xstat (initial_run line slot equals t r)
initial-run-by line slot equals t r =
    two-by lineless_xstat INITIAL_VALUE equals (first_run 0 slot) (first_run line slot) (λ t r. run-into-same line (record { slot = slot; steps = [] }) t r) t r

-- ---- calls

abbrev pub unplaced_call : ModelCall → ModelCall
unplaced_call c = record { name = unplaced_name c.name; model = c.model; arguments = map unplaced_expr c.arguments }

abbrev unplaced_parts : Expr-F Expr Postfix TypeTree Entry Link Formal → Expr-F Expr Postfix TypeTree Entry Link Formal
unplaced_parts o = map-Expr Expr Postfix TypeTree Entry Link Formal Expr Postfix TypeTree Entry Link Formal unplaced_expr unplaced_postfix unplaced_type unplaced_entry unplaced_link unplaced_formal o

module _ (names : Names) where
  call-such : (o : Expr-F Expr Postfix TypeTree Entry Link Formal) → model_call names (expr_without (unplaced_parts o)) ≡ option_map unplaced_call (model_call_step names o)
  call-such (Expr-F.Call name es) =
      ap (model_call_step names) (expr.outs-Call (unplaced_name name) (map unplaced_expr es))
      ∙ mapped unplaced_call (call_with (unplaced_name name) (map unplaced_expr es)) (call_with name es) (λ m. refl) (model_known (known_in names name.text))
  call-such (Expr-F.Chain e ls) = ap (model_call_step names) (expr.outs-Chain (unplaced_expr e) (map unplaced_link ls))
  call-such (Expr-F.Prefix sign place e) = ap (model_call_step names) (expr.outs-Prefix sign nowhere (unplaced_expr e))
  call-such (Expr-F.Relation e sign place f) = ap (model_call_step names) (expr.outs-Relation (unplaced_expr e) sign nowhere (unplaced_expr f))
  call-such (Expr-F.Power e place f) = ap (model_call_step names) (expr.outs-Power (unplaced_expr e) nowhere (unplaced_expr f))
  call-such (Expr-F.Part e ps) = ap (model_call_step names) (expr.outs-Part (unplaced_expr e) (map unplaced_postfix ps))
  call-such (Expr-F.Int digits place) = ap (model_call_step names) (expr.outs-Int digits nowhere)
  call-such (Expr-F.Real digits place) = ap (model_call_step names) (expr.outs-Real digits nowhere)
  call-such (Expr-F.Text bytes place) = ap (model_call_step names) (expr.outs-Text bytes nowhere)
  call-such (Expr-F.Bool truth place) = ap (model_call_step names) (expr.outs-Bool truth nowhere)
  call-such (Expr-F.Time place) = ap (model_call_step names) (expr.outs-Time nowhere)
  call-such (Expr-F.Named name) = ap (model_call_step names) (expr.outs-Named (unplaced_name name))
  call-such (Expr-F.Cast word place e) = ap (model_call_step names) (expr.outs-Cast word nowhere (unplaced_expr e))
  call-such (Expr-F.Round place e) = ap (model_call_step names) (expr.outs-Round nowhere (unplaced_expr e))
  call-such (Expr-F.TupleOf place es) = ap (model_call_step names) (expr.outs-TupleOf nowhere (map unplaced_expr es))
  call-such (Expr-F.ListOf place es) = ap (model_call_step names) (expr.outs-ListOf nowhere (map unplaced_expr es))
  call-such (Expr-F.SetOf place es) = ap (model_call_step names) (expr.outs-SetOf nowhere (map unplaced_expr es))
  call-such (Expr-F.DictOf place es) = ap (model_call_step names) (expr.outs-DictOf nowhere (map unplaced_entry es))
  call-such (Expr-F.EmptyList place t) = ap (model_call_step names) (expr.outs-EmptyList nowhere (unplaced_type t))
  call-such (Expr-F.EmptySet place t) = ap (model_call_step names) (expr.outs-EmptySet nowhere (unplaced_type t))
  call-such (Expr-F.EmptyDict place t u) = ap (model_call_step names) (expr.outs-EmptyDict nowhere (unplaced_type t) (unplaced_type u))

  call-unplaced : (e : Expr) → model_call names (unplaced_expr e) ≡ option_map unplaced_call (model_call names e)
  call-unplaced e =
      ap (model_call names) (fold_out-Expr Expr Postfix TypeTree Entry Link Formal expr_without postfix_without type_without entry_without link_without formal_without e) ∙ call-such (out-Expr e)

  pub called-unplaced : (c : ModelCall) → run_called names (unplaced_call c) ≡ unplaced_typed (run_called names c)
  called-unplaced c =
      let given = values_in home.Experiment names c.arguments in
      let values = values-unplaced home.Experiment names c.arguments in
      (λ i. after (all_faults (values i)) (run_of nowhere c.model (map made_of (values i))))
      ∙ after-both (all_faults given) (run_of c.name.place c.model (map made_of given)) (faults-all given)
      (ap (run_of nowhere c.model) (made-all given) ∙ run-unplaced c.name.place c.model (map made_of given))

  -- ---- calls that are assigned

  abbrev pub unplaced_assigned : Target × ModelCall → Target × ModelCall
  unplaced_assigned call = (unplaced_target call.0, unplaced_call call.1)

  with-target : (t : Target) (o : Option ModelCall) → option_map (λ c. (unplaced_target t, c)) (option_map unplaced_call o) ≡ option_map unplaced_assigned (option_map (λ c. (t, c)) o)
  with-target t None = refl
  with-target t (Some c) = refl

  pub call-alone-unplaced : (ts : List Target) (es : List Expr) → call_alone names (map unplaced_target ts) (map unplaced_expr es) ≡ option_map unplaced_assigned (call_alone names ts es)
  call-alone-unplaced [] es = refl
  call-alone-unplaced (t ∷ []) [] = refl
  call-alone-unplaced (t ∷ []) (e ∷ []) = ap (option_map (λ c. (unplaced_target t, c))) (call-unplaced e) ∙ with-target t (model_call names e)
  call-alone-unplaced (t ∷ []) (e ∷ f ∷ es) = refl
  call-alone-unplaced (t ∷ u ∷ ts) es = refl

  pub run-assigned-by : (equals : Place) (t : Target) (c : ModelCall) → run_assigned names nowhere (unplaced_target t) (unplaced_call c) ≡ typed_by lineless_xstat (run_assigned names equals t c)
  run-assigned-by equals t c =
      let to = target_in home.Experiment names t in
      let r = run_called names c in
      let line = t.name.place.line in
      (λ i. after ((target-unplaced home.Experiment names t i).faults ++ (called-unplaced c i).faults) (assigned_run 0 nowhere (target-unplaced home.Experiment names t i).made (called-unplaced c i).made))
      ∙ after-by lineless_xstat (to.faults ++ r.faults) (assigned_run line equals to.made r.made) (faults-append to.faults r.faults) (assigned-run-by line equals to.made r.made)

  -- ---- calls that variables begin with

  abbrev pub unplaced_first : Place × ModelCall → Place × ModelCall
  unplaced_first call = (nowhere, unplaced_call call.1)

  with-place : (equals : Place) (o : Option ModelCall) → option_map (λ c. (nowhere, c)) (option_map unplaced_call o) ≡ option_map unplaced_first (option_map (λ c. (equals, c)) o)
  with-place equals None = refl
  with-place equals (Some c) = refl

  pub initial-call-unplaced : (o : Option Initial) → initial_call names (option_map unplaced_initial o) ≡ option_map unplaced_first (initial_call names o)
  initial-call-unplaced None = refl
  initial-call-unplaced (Some initial) = ap (option_map (λ c. (nowhere, c))) (call-unplaced initial.value) ∙ with-place initial.equals (model_call names initial.value)
