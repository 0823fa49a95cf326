-- What expressions and targets come to where they stand is the same without places.
use Rattle.std.proofs.Common.{◌≡◌, List, [], ◌∷◌, ◌++◌, map, Option, Some, None, refl, ap, ◌∙◌}
use Rattle.std.specs.Option.{option_map}
use Rattle.chi_token.specs.declared.place.Place.{Place}
use Rattle.chi_tree.specs.declared.type_tree.TypeTree.{TypeTree}
use Rattle.chi_tree.specs.declared.type_tree.Formal.{Formal}
use Rattle.chi_tree.specs.declared.expr.Expr.{Expr}
use Rattle.chi_tree.specs.declared.expr.Postfix.{Postfix, Postfix-F, out-Postfix}
use Rattle.chi_tree.specs.declared.expr.Entry.{Entry}
use Rattle.chi_tree.specs.declared.expr.Link.{Link}
use Rattle.chi_tree.specs.declared.statement.Target.{Target}
use Rattle.chi_tree.specs.View.{nowhere}
use Rattle.chi_tree_laws.specs.Unplaced.{unplaced_expr, unplaced_postfix}
use Rattle.chi_tree_laws.specs.UnplacedStatements.{unplaced_target}
use Rattle.chi_core.specs.declared.expression.CExpr.{CExpr}
use Rattle.chi_check_types.specs.declared.meant.Made.{Made}
use Rattle.chi_check_types.specs.Names.{Names}
use Rattle.chi_check_types.specs.Typed.{Typed, after}
use Rattle.chi_check.specs.Below.chi_check_stat_rules.specs.declared.home.Home.{Home}
use Rattle.chi_check.specs.Below.chi_check_stat_rules.specs.declared.parts.Aim.{Aim}
use Rattle.chi_check.specs.Below.chi_check_stat_rules.specs.Assignments.{assigned}
use Rattle.chi_check.specs.Below.chi_check_stat_rules.specs.Elements.{instance_target}
use Rattle.chi_check.specs.Below.chi_check_stat_rules.specs.Homes.{site_of}
use Rattle.chi_check.specs.Below.chi_check_stat_rules.specs.Places.{expr_place}
use Rattle.chi_check.specs.Below.chi_check_stat_rules.specs.Targets.{named_target, index_step}
use Rattle.chi_check.specs.Below.chi_check_stat_rules.specs.Values.{condition, finished_one}
use Rattle.chi_check.specs.Below.chi_check_stat_lines.specs.Stated.{both}
use Rattle.chi_check.specs.Below.chi_check_stat_lines.specs.Values.{made_of, all_faults, faults_if, made_if, all_of, if_any, assignment_place, value_in, values_in, test_in, guard_in, instance_in, step_in, steps_in, target_in, assignment_in, goal_in}
use Rattle.chi_check_places.specs.UnplacedTyped.{unplaced_faults, unplaced_typed}
use Rattle.chi_check_places.proofs.Faults.{faults-append, both-faults, after-both}
use Rattle.chi_check_places.proofs.Induction.{typing-unplaced}
use Rattle.chi_check_program_places.specs.Lineless.{lineless_statement}
use Rattle.chi_check_program_places.proofs.By.{typed_by, after-by}
use Rattle.chi_check_program_places.proofs.LineRules.{assigned-by}
use Rattle.chi_check_program_places.proofs.Parts.{named-target-unplaced, index-step-unplaced, field-step-unplaced, instance-target-unplaced, condition-unplaced, finished-unplaced}
use Rattle.chi_check_program_places.proofs.Places.{bare_postfix, unplaced_postfix_parts, expr-nowhere, postfix-out}

-- ---- several parts

module _ {A : Type 0} where
  pub faults-all : (ts : List (Typed A)) → all_faults (map unplaced_typed ts) ≡ unplaced_faults (all_faults ts)
  faults-all [] = refl
  faults-all (t ∷ ts) = both-faults t.faults (all_faults ts) refl (faults-all ts)

  pub made-all : (ts : List (Typed A)) → map made_of (map unplaced_typed ts) ≡ map made_of ts
  made-all [] = refl
  made-all (t ∷ ts) = ap (λ ms. t.made ∷ ms) (made-all ts)

  pub faults-if : (o : Option (Typed A)) → faults_if (option_map unplaced_typed o) ≡ unplaced_faults (faults_if o)
  faults-if None = refl
  faults-if (Some t) = refl

  pub made-if : (o : Option (Typed A)) → made_if (option_map unplaced_typed o) ≡ made_if o
  made-if None = refl
  made-if (Some t) = refl

  pub all-of : (ts : List (Typed A)) → all_of (map unplaced_typed ts) ≡ unplaced_typed (all_of ts)
  all-of [] = refl
  all-of (t ∷ ts) =
      let more = all_of ts in
      (λ i. record { faults = unplaced_faults t.faults ++ (all-of ts i).faults; made = both (λ x xs. x ∷ xs) t.made (all-of ts i).made })
      ∙ (λ i. record { faults = faults-append t.faults more.faults i; made = both (λ x xs. x ∷ xs) t.made more.made })

  pub if-any : (o : Option (Typed A)) → if_any (option_map unplaced_typed o) ≡ unplaced_typed (if_any o)
  if-any None = refl
  if-any (Some t) = refl

-- what comes of a list, or of what may be left out, each part of which is the same without places
module _ {X A : Type 0} (u : X → X) (f : X → Typed A) (same : (x : X) → f (u x) ≡ unplaced_typed (f x)) where
  pub each-same : (xs : List X) → map f (map u xs) ≡ map unplaced_typed (map f xs)
  each-same [] = refl
  each-same (x ∷ xs) = λ i. same x i ∷ each-same xs i

  pub if-same : (o : Option X) → option_map f (option_map u o) ≡ option_map unplaced_typed (option_map f o)
  if-same None = refl
  if-same (Some x) = ap Some (same x)

module _ (home : Home) (names : Names) where
  pub value-unplaced : (e : Expr) → value_in home names (unplaced_expr e) ≡ unplaced_typed (value_in home names e)
  value-unplaced e = typing-unplaced (site_of home) names e

  pub values-unplaced : (es : List Expr) → values_in home names (map unplaced_expr es) ≡ map unplaced_typed (values_in home names es)
  values-unplaced es = each-same unplaced_expr (value_in home names) value-unplaced es

  -- a rule over the value of an expression, at its first token
  placed : (rule : Place → Option Made → Typed CExpr) → ((place : Place) (m : Option Made) → rule nowhere m ≡ unplaced_typed (rule place m)) → (e : Expr)
      → after (value_in home names (unplaced_expr e)).faults (rule (expr_place (unplaced_expr e)) (value_in home names (unplaced_expr e)).made)
      ≡ unplaced_typed (after (value_in home names e).faults (rule (expr_place e) (value_in home names e).made))
  placed rule same e =
      let t = value_in home names e in
      (λ i. after (value-unplaced e i).faults (rule (expr-nowhere e i) (value-unplaced e i).made)) ∙ after-both t.faults (rule (expr_place e) t.made) refl (same (expr_place e) t.made)

  pub test-unplaced : (e : Expr) → test_in home names (unplaced_expr e) ≡ unplaced_typed (test_in home names e)
  test-unplaced e = placed condition condition-unplaced e

  pub instance-unplaced : (e : Expr) → instance_in home names (unplaced_expr e) ≡ unplaced_typed (instance_in home names e)
  instance-unplaced e = placed finished_one finished-unplaced e

  pub guard-unplaced : (o : Option Expr) → guard_in home names (option_map unplaced_expr o) ≡ unplaced_typed (guard_in home names o)
  guard-unplaced o = ap if_any (if-same unplaced_expr (test_in home names) test-unplaced o) ∙ if-any (option_map (test_in home names) o)

  -- ---- targets

  step-of : (name : Place) (a : Option Aim) (o : Postfix-F Expr Postfix TypeTree Entry Link Formal)
      → step_in home names nowhere a (bare_postfix (unplaced_postfix_parts o)) ≡ unplaced_typed (step_in home names name a o)
  step-of name a (Postfix-F.Index place e) =
      let t = value_in home names e in
      (λ i. after (value-unplaced e i).faults (index_step nowhere nowhere a (value-unplaced e i).made))
      ∙ after-both t.faults (index_step name place a t.made) refl (index-step-unplaced name place a t.made)
  step-of name a (Postfix-F.Slice place from upto second by) = refl
  step-of name a (Postfix-F.Field field) = field-step-unplaced field a

  step-unplaced : (name : Place) (a : Option Aim) (p : Postfix) → step_in home names nowhere a (out-Postfix (unplaced_postfix p)) ≡ unplaced_typed (step_in home names name a (out-Postfix p))
  step-unplaced name a p = ap (step_in home names nowhere a) (postfix-out p) ∙ step-of name a (out-Postfix p)

  steps-unplaced : (name : Place) (a : Option Aim) (ps : List Postfix) → steps_in home names nowhere a (map unplaced_postfix ps) ≡ unplaced_typed (steps_in home names name a ps)
  steps-unplaced name a [] = refl
  steps-unplaced name a (p ∷ ps) =
      let first = step_in home names name a (out-Postfix p) in
      (λ i. after (step-unplaced name a p i).faults (steps_in home names nowhere (step-unplaced name a p i).made (map unplaced_postfix ps)))
      ∙ after-both first.faults (steps_in home names name first.made ps) refl (steps-unplaced name first.made ps)

  pub target-unplaced : (t : Target) → target_in home names (unplaced_target t) ≡ unplaced_typed (target_in home names t)
  target-unplaced t =
      let named = named_target names t.name in
      (λ i. after (named-target-unplaced names t.name i).faults (steps_in home names nowhere (named-target-unplaced names t.name i).made (map unplaced_postfix t.steps)))
      ∙ after-both named.faults (steps_in home names t.name.place named.made t.steps) refl (steps-unplaced t.name.place named.made t.steps)

  pub goal-unplaced : (t : Target) → goal_in home names (unplaced_target t) ≡ unplaced_typed (goal_in home names t)
  goal-unplaced t =
      let a = target_in home names t in
      (λ i. after (target-unplaced t i).faults (instance_target nowhere (target-unplaced t i).made))
      ∙ after-both a.faults (instance_target t.name.place a.made) refl (instance-target-unplaced t.name.place a.made)

  -- ---- assignments

  assignment-begins : (ts : List Target) → assignment_place (map unplaced_target ts) nowhere ≡ nowhere
  assignment-begins [] = refl
  assignment-begins (t ∷ ts) = refl

  pub assignment-by : (ts : List Target) (equals : Place) (es : List Expr)
      → assignment_in home names (map unplaced_target ts) nowhere (map unplaced_expr es) ≡ typed_by lineless_statement (assignment_in home names ts equals es)
  assignment-by ts equals es =
      let to = map (target_in home names) ts in
      let given = values_in home names es in
      let line = (assignment_place ts equals).line in
      (λ i. after (all_faults (each-same unplaced_target (target_in home names) target-unplaced ts i) ++ all_faults (values-unplaced es i))
      (assigned (assignment-begins ts i).line nowhere (map made_of (each-same unplaced_target (target_in home names) target-unplaced ts i)) (map made_of (values-unplaced es i))))
      ∙ after-by lineless_statement (all_faults to ++ all_faults given) (assigned line equals (map made_of to) (map made_of given))
      (both-faults (all_faults to) (all_faults given) (faults-all to) (faults-all given))
      ((λ i. assigned 0 nowhere (made-all to i) (made-all given i)) ∙ assigned-by line equals (map made_of to) (map made_of given))
