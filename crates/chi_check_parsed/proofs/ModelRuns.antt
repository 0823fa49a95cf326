-- What calls of models in the experiments of a short source come to has short text literals.
use Rattle.std.proofs.Common.{◌≡◌, ℕ, true, List, [], ◌∷◌, map, length, Option, Some, None, sym, subst, ◌∙◌}
use Rattle.std.specs.Prelude.{nat_eq}
use Rattle.chi_token.specs.declared.place.Place.{Place}
use Rattle.chi_token.specs.declared.token.Token.TheVariants as token
use Rattle.chi_token.specs.declared.sign.Sign.TheVariants as sign
use Rattle.chi_tree.specs.declared.expr.Entry.{Entry}
use Rattle.chi_tree.specs.declared.expr.Expr.{Expr, Expr-F, out-Expr}
use Rattle.chi_tree.specs.declared.expr.Expr.TheVariants as expr
use Rattle.chi_tree.specs.declared.expr.Link.{Link}
use Rattle.chi_tree.specs.declared.expr.Postfix.{Postfix}
use Rattle.chi_tree.specs.declared.operator.PrefixSign.TheVariants as prefix
use Rattle.chi_tree.specs.declared.type_tree.Formal.{Formal}
use Rattle.chi_tree.specs.declared.type_tree.TypeTree.{TypeTree}
use Rattle.chi_tree.specs.View.{chained, parted}
use Rattle.chi_tree_spell.specs.Words.{each_after}
use Rattle.chi_tree_spell.specs.Expressions.{spelled_expr}
use Rattle.chi_tree_spell.specs.Statements.{spelled_exprs}
use Rattle.chi_tree_laws.specs.Levels.{Level}
use Rattle.chi_tree_laws.specs.Levels as level
use Rattle.chi_tree_laws.specs.Expressions as formed
use Rattle.chi_tree_laws.specs.Expressions.{FormedExpr, FormedExprs}
use Rattle.chi_types.specs.declared.ty.Ty.{Ty}
use Rattle.chi_types.specs.Fits.{fits}
use Rattle.chi_core.specs.declared.experiment.XBranch.{XBranch}
use Rattle.chi_core.specs.declared.experiment.XStat.{XStat}
use Rattle.chi_core.specs.declared.experiment.XStat.TheVariants as trial
use Rattle.chi_core.specs.declared.expression.CExpr.{CExpr}
use Rattle.chi_core.specs.declared.target.CTarget.{CTarget}
use Rattle.chi_check_types.specs.declared.meant.Made.{Made}
use Rattle.chi_check_types.specs.declared.rules.TheConstants.{INITIAL_VALUE, ASSIGNED_VALUE, CALL_ARGUMENTS}
use Rattle.chi_check_types.specs.Names.{Names, known_in}
use Rattle.chi_check_types.specs.Typed.{Typed}
use Rattle.chi_check_expr_rules.specs.Conversions.{passed}
use Rattle.chi_check_expr_rules.specs.Nodes.{all_made}
use Rattle.chi_check_expr.proofs.Kept.{Each, IfGiven}
use Rattle.chi_check_laws.specs.Below.chi_check_stat_rules.specs.declared.home.Home.TheVariants as home
use Rattle.chi_check_laws.specs.Below.chi_check_stat_rules.specs.declared.parts.Aim.{Aim}
use Rattle.chi_check_laws.specs.Below.chi_check_stat_rules.specs.declared.parts.Modelled.{Modelled}
use Rattle.chi_check_laws.specs.Below.chi_check_stat_rules.specs.declared.parts.ModelRun.{ModelRun}
use Rattle.chi_check_laws.specs.Below.chi_check_stat_rules.specs.ModelRuns.{model_known, model_rule, model_run, ran, arguments_of, run_of, run_into, run_at, assigned_run, first_run, initial_run}
use Rattle.chi_check_laws.specs.Below.chi_check_stat_lines.specs.Values.{made_of, values_in}
use Rattle.chi_check_laws.specs.Below.chi_check_experiments.specs.Experiments.{ModelCall, call_with, model_call_step, model_call, run_called}
use Rattle.chi_check_laws.proofs.TrialLayers.{trial_short}
use Rattle.chi_check_laws.specs.Trials.{trial_texts, branch_texts}
use Rattle.chi_check_parsed.proofs.Tokens.{AllFit, fit_left, fit_right}
use Rattle.chi_check_parsed.proofs.Short.{on_map, on_any, on_if, two_on, all_on, barred_on, made_on, Shorts, MadeShort, both_true, all_short, passed_on}
use Rattle.chi_check_parsed.proofs.Trees.{expr_tokens, expr_spelled}
use Rattle.chi_check_parsed.proofs.Lines.{TargetShort, AimShort, target_true, any_given}
use Rattle.chi_check_parsed.proofs.Parts.{values_short}

-- ---- statements of experiments

abbrev pub TrialShort : XStat → Type 0
TrialShort x = trial_texts x ≡ true

abbrev pub TrialBranchShort : XBranch → Type 0
TrialBranchShort b = branch_texts b ≡ true

-- ---- runs

abbrev pub RunShort : ModelRun → Type 0
RunShort r = Shorts r.arguments

ran_on : (number : ℕ) (exit : Option Ty) (t : Typed (List CExpr)) → IfGiven Shorts t.made → IfGiven RunShort (ran number exit t).made
ran_on number None t h = tt
ran_on number (Some exit) t h = on_map Shorts RunShort (model_run number exit) t.made (λ es k. k) h

run_of_on : (place : Place) (m : Option Modelled) (arguments : List (Option Made)) → Each (IfGiven MadeShort) arguments → IfGiven RunShort (run_of place m arguments).made
run_of_on place None arguments h = tt
run_of_on place (Some m) arguments h =
    let given = arguments_of place m.params arguments in
    barred_on RunShort (model_rule place m) (ran m.number m.exit given) (ran_on m.number m.exit given
    (all_on MadeShort Shorts CALL_ARGUMENTS place (nat_eq (length arguments) (length m.params)) (λ ms. passed ms m.params) (all_made arguments) (λ ms k. passed_on ms m.params k) (made_on MadeShort arguments h)))

run_into_on : (line : ℕ) (target : CTarget) (t : Ty) (r : ModelRun) → TargetShort target → RunShort r → IfGiven TrialShort (run_into line target t r)
run_into_on line target t r h k =
    on_if TrialShort (fits r.exit t) _ (trial_short _ _ (trial.outs-RunModel line target r.model r.arguments _) ∙ both_true _ _ (target_true target h) (all_short r.arguments k))

pub assigned_run_on : (line : ℕ) (equals : Place) (a : Option Aim) (r : Option ModelRun) → IfGiven AimShort a → IfGiven RunShort r → IfGiven TrialShort (assigned_run line equals a r).made
assigned_run_on line equals a r h k = two_on AimShort RunShort TrialShort ASSIGNED_VALUE equals (run_at line) a r (λ a r h k. run_into_on line a.target a.ty r h k) h k

pub initial_run_on : (line slot : ℕ) (equals : Place) (t : Option Ty) (r : Option ModelRun) → IfGiven RunShort r → IfGiven TrialShort (initial_run line slot equals t r).made
initial_run_on line slot equals t r h =
    two_on (λ t. Unit {0}) RunShort TrialShort INITIAL_VALUE equals (first_run line slot) t r (λ t r h k. run_into_on line (record { slot = slot; steps = [] }) t r tt k) (any_given t) h

-- ---- calls

module _ (names : Names) where
  abbrev pub CallShort : ModelCall → Type 0
  CallShort c = Each (IfGiven MadeShort) (map made_of (values_in home.Experiment names c.arguments))

  pub called_short : (c : ModelCall) → CallShort c → IfGiven RunShort (run_called names c).made
  called_short c h = run_of_on c.name.place c.model (map made_of (values_in home.Experiment names c.arguments)) h

  abbrev Calls : Expr → Type 0
  Calls e = AllFit (spelled_expr e) → IfGiven CallShort (model_call names e)

  at_call : (e : Expr) (o : Expr-F Expr Postfix TypeTree Entry Link Formal) → out-Expr e ≡ o → IfGiven CallShort (model_call_step names o) → IfGiven CallShort (model_call names e)
  at_call e o h k = subst (λ o. IfGiven CallShort (model_call_step names o)) (sym h) k

  chained_call : (e : Expr) (links : List Link) → Calls e → Calls (chained e links)
  chained_call e [] h = h
  chained_call e (l ∷ ls) h = λ fit. at_call _ _ (expr.outs-Chain e (l ∷ ls)) tt

  parted_call : (e : Expr) (ps : List Postfix) → Calls e → Calls (parted e ps)
  parted_call e [] h = h
  parted_call e (p ∷ ps) h = λ fit. at_call _ _ (expr.outs-Part e (p ∷ ps)) tt

  pub call_short : (l : Level) (d : ℕ) (e : Expr) → FormedExpr l d e → Calls e
  call_short _ _ _ (formed.disjunction {d = d} {e = e} {links = links} f fs) = chained_call e links (call_short _ d e f)
  call_short _ _ _ (formed.conjunction {d = d} {e = e} {links = links} f fs) = chained_call e links (call_short _ d e f)
  call_short _ _ _ (formed.negation {place = place} {e = e} f) = λ fit. at_call _ _ (expr.outs-Prefix prefix.Not place e) tt
  call_short _ _ _ (formed.no_negation {d = d} {e = e} f) = call_short _ d e f
  call_short _ _ _ (formed.relation {sign = s} {place = place} {e = a} {f = b} f g) = λ fit. at_call _ _ (expr.outs-Relation a s place b) tt
  call_short _ _ _ (formed.no_relation {d = d} {e = e} f) = call_short _ d e f
  call_short _ _ _ (formed.sum {d = d} {e = e} {links = links} f fs) = chained_call e links (call_short _ d e f)
  call_short _ _ _ (formed.product {d = d} {e = e} {links = links} f fs) = chained_call e links (call_short _ d e f)
  call_short _ _ _ (formed.prefixed {sign = s} {place = place} {e = e} is f) = λ fit. at_call _ _ (expr.outs-Prefix s place e) tt
  call_short _ _ _ (formed.no_prefix {d = d} {e = e} f) = call_short _ d e f
  call_short _ _ _ (formed.power {place = place} {e = a} {f = b} f g) = λ fit. at_call _ _ (expr.outs-Power a place b) tt
  call_short _ _ _ (formed.no_power {d = d} {e = e} f) = call_short _ d e f
  call_short _ _ _ (formed.post {d = d} {e = e} {postfixes = ps} f fs) = parted_call e ps (call_short _ d e f)
  call_short _ _ _ (formed.int {digits = digits} {place = place}) = λ fit. at_call _ _ (expr.outs-Int digits place) tt
  call_short _ _ _ (formed.real {digits = digits} {place = place}) = λ fit. at_call _ _ (expr.outs-Real digits place) tt
  call_short _ _ _ (formed.text {text = text} {place = place}) = λ fit. at_call _ _ (expr.outs-Text text place) tt
  call_short _ _ _ (formed.bool {truth = truth} {place = place}) = λ fit. at_call _ _ (expr.outs-Bool truth place) tt
  call_short _ _ _ (formed.time {place = place}) = λ fit. at_call _ _ (expr.outs-Time place) tt
  call_short _ _ _ (formed.name {name = name}) = λ fit. at_call _ _ (expr.outs-Named name) tt
  call_short _ _ _ (formed.call {d = d} {name = name} {es = es} fs) = λ fit.
      let own : AllFit (expr_tokens (Expr-F.Call name es)) = subst AllFit (expr_spelled _ _ (expr.outs-Call name es)) fit in
      at_call _ _ (expr.outs-Call name es)
      (on_any CallShort (call_with name es) (model_known (known_in names name.text)) (λ m. values_short home.Experiment names d es fs (fit_left (spelled_exprs es) _ own.1.1)))
  call_short _ _ _ (formed.cast {word = word} {place = place} {e = e} f) = λ fit. at_call _ _ (expr.outs-Cast word place e) tt
  call_short _ _ _ (formed.round {place = place} {e = e} f) = λ fit. at_call _ _ (expr.outs-Round place e) tt
  call_short _ _ _ (formed.tuple_of {place = place} {e = a} {f = b} {es = es} fs) = λ fit. at_call _ _ (expr.outs-TupleOf place (a ∷ b ∷ es)) tt
  call_short _ _ _ (formed.list_of {place = place} {e = e} {es = es} fs) = λ fit. at_call _ _ (expr.outs-ListOf place (e ∷ es)) tt
  call_short _ _ _ (formed.set_of {place = place} {e = e} {es = es} fs) = λ fit. at_call _ _ (expr.outs-SetOf place (e ∷ es)) tt
  call_short _ _ _ (formed.dict_of {place = place} {e = e} {es = es} fs) = λ fit. at_call _ _ (expr.outs-DictOf place (e ∷ es)) tt
  call_short _ _ _ (formed.empty_list {place = place} {t = t} f) = λ fit. at_call _ _ (expr.outs-EmptyList place t) tt
  call_short _ _ _ (formed.empty_set {place = place} {t = t} f) = λ fit. at_call _ _ (expr.outs-EmptySet place t) tt
  call_short _ _ _ (formed.empty_dict {place = place} {k = k} {v = v} f g) = λ fit. at_call _ _ (expr.outs-EmptyDict place k v) tt

  pub calls_short : (d : ℕ) (es : List Expr) → FormedExprs d es → AllFit (each_after (token.Sign sign.Comma) (map spelled_expr es)) → Each (λ e. IfGiven CallShort (model_call names e)) es
  calls_short _ _ formed.no_exprs fit = tt
  calls_short _ _ (formed.exprs {d = d} {e = e} {es = es} f fs) fit = (call_short level.Expr d e f (fit_left (spelled_expr e) _ fit.1), calls_short d es fs (fit_right (spelled_expr e) _ fit.1))
