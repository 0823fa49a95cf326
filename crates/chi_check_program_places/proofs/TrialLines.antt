-- What the statements of experiments without blocks come to is the same without places, but for their lines.
use Rattle.std.proofs.Common.{◌≡◌, ℕ, true, List, [], ◌∷◌, ◌++◌, map, Option, Some, None, refl, ap, sym, ◌∙◌}
use Rattle.std.specs.Prelude.{option_map}
use Rattle.chi_token.specs.declared.place.Place.{Place}
use Rattle.chi_tree.specs.declared.expr.Expr.{Expr}
use Rattle.chi_tree.specs.declared.statement.Target.{Target}
use Rattle.chi_tree.specs.declared.statement.Variable.{Variable}
use Rattle.chi_tree.specs.declared.type_tree.TypeTree.{TypeTree}
use Rattle.chi_tree.specs.View.{nowhere}
use Rattle.chi_tree_laws.specs.Unplaced.{unplaced_expr, unplaced_type}
use Rattle.chi_tree_laws.specs.UnplacedStatements.{unplaced_target, unplaced_variable}
use Rattle.chi_core.specs.declared.experiment.XStat.{XStat}
use Rattle.chi_core.specs.declared.experiment.XStat.TheVariants as trial
use Rattle.chi_core.specs.declared.statement.CStat.{CStat}
use Rattle.chi_check_types.specs.declared.meant.Meant.{Meant}
use Rattle.chi_check_types.specs.Names.{Names}
use Rattle.chi_check_types.specs.Typed.{Typed}
use Rattle.chi_check_expr.specs.Typing.{reading}
use Rattle.chi_check.specs.Below.chi_check_stat_rules.specs.declared.home.Home.TheVariants as home
use Rattle.chi_check.specs.Below.chi_check_stat_rules.specs.Homes.{site_of, local_rule}
use Rattle.chi_check.specs.Below.chi_check_stat_rules.specs.ModelRuns.{initial_run}
use Rattle.chi_check.specs.Below.chi_check_stat_rules.specs.Places.{type_place}
use Rattle.chi_check.specs.Below.chi_check_stat_lines.specs.declared.state.Binder.TheVariants as binder
use Rattle.chi_check.specs.Below.chi_check_stat_lines.specs.declared.state.State.{State}
use Rattle.chi_check.specs.Below.chi_check_stat_lines.specs.Stated.{Stated, in_turn, preceded, held_by, one}
use Rattle.chi_check.specs.Below.chi_check_stat_lines.specs.States.{next_slot, new_name_rule, with_variable}
use Rattle.chi_check.specs.Below.chi_check_stat_lines.specs.Values.{assignment_in}
use Rattle.chi_check.specs.Below.chi_check_stat_lines.specs.Declarations.{declared}
use Rattle.chi_check.specs.Below.chi_check_experiments.specs.Experiments.{lined, all_lined, ModelCall, run_called, call_alone, assigning, assignment_tried, initial_call, run_declared, declaring, variable_tried, declaration_tried}
use Rattle.chi_check_places.specs.UnplacedTyped.{unplaced_faults}
use Rattle.chi_check_places.proofs.Faults.{faults-append}
use Rattle.chi_check_places.proofs.Induction.{type-unplaced}
use Rattle.chi_check_program_places.specs.Lineless.{lineless_statement, lineless_xstat}
use Rattle.chi_check_program_places.proofs.By.{typed_by, stated_by, turn_by, in-turn-by, one-mapped, held-by, preceded-by}
use Rattle.chi_check_program_places.proofs.Declarations.{new-name-unplaced, declared-by}
use Rattle.chi_check_program_places.proofs.ModelCalls.{initial-run-by, called-unplaced, unplaced_assigned, call-alone-unplaced, run-assigned-by, unplaced_first, initial-call-unplaced}
use Rattle.chi_check_program_places.proofs.Parts.{local-unplaced}
use Rattle.chi_check_program_places.proofs.Places.{type-nowhere}
use Rattle.chi_check_program_places.proofs.Values.{assignment-by}
use Rattle.chi_check_program_places.proofs.WithoutTrials.{without-Line}

-- ---- statements that functions have too

line-mapped : (o : Option CStat) → option_map trial.Line (option_map lineless_statement o) ≡ option_map lineless_xstat (option_map trial.Line o)
line-mapped None = refl
line-mapped (Some s) = ap Some (sym (without-Line s))

each-line : (xs : List CStat) → map trial.Line (map lineless_statement xs) ≡ map lineless_xstat (map trial.Line xs)
each-line [] = refl
each-line (x ∷ xs) = λ i. sym (without-Line x) i ∷ each-line xs i

lines-mapped : (o : Option (List CStat)) → option_map (map trial.Line) (option_map (map lineless_statement) o) ≡ option_map (map lineless_xstat) (option_map (map trial.Line) o)
lines-mapped None = refl
lines-mapped (Some xs) = ap Some (each-line xs)

pub lined-by : (t : Typed CStat) {t' : Typed CStat} → t' ≡ typed_by lineless_statement t → lined t' ≡ typed_by lineless_xstat (lined t)
lined-by t r = (λ i. lined (r i)) ∙ (λ i. record { faults = unplaced_faults t.faults; made = line-mapped t.made i })

all-lined-by : (t : Stated State (List CStat)) {t' : Stated State (List CStat)} → t' ≡ stated_by (map lineless_statement) t → all_lined t' ≡ stated_by (map lineless_xstat) (all_lined t)
all-lined-by t r = (λ i. all_lined (r i)) ∙ (λ i. record { next = t.next; faults = unplaced_faults t.faults; made = lines-mapped t.made i })

-- ---- assignments

module _ (names : Names) where
  assigning-by : (ts : List Target) (equals : Place) (es : List Expr) (call : Option (Target × ModelCall))
      → assigning names (map unplaced_target ts) nowhere (map unplaced_expr es) (option_map (unplaced_assigned names) call) ≡ typed_by lineless_xstat (assigning names ts equals es call)
  assigning-by ts equals es None = lined-by (assignment_in home.Experiment names ts equals es) (assignment-by home.Experiment names ts equals es)
  assigning-by ts equals es (Some call) = run-assigned-by names equals call.0 call.1

  pub assignment-tried-by : (ts : List Target) (equals : Place) (es : List Expr)
      → assignment_tried names (map unplaced_target ts) nowhere (map unplaced_expr es) ≡ typed_by lineless_xstat (assignment_tried names ts equals es)
  assignment-tried-by ts equals es =
      ap (assigning names (map unplaced_target ts) nowhere (map unplaced_expr es)) (call-alone-unplaced names ts es) ∙ assigning-by ts equals es (call_alone names ts es)

-- ---- declarations

module _ (line : ℕ) (m : Option Meant) (v : Variable) (s : State) where
  run-declared-by : (call : Place × ModelCall) → run_declared 0 m (unplaced_variable v) (unplaced_first s.names call) s ≡ stated_by (map lineless_xstat) (run_declared line m v call s)
  run-declared-by call =
      let t = option_map (λ m. m.ty) m in
      let r = run_called s.names call.1 in
      let slot = next_slot s in
      let first = initial_run line slot call.0 t r.made in
      let next = with_variable binder.Variable v.name t s in
      let stated : Stated State (List XStat) = record { next = next; faults = r.faults ++ first.faults; made = one first.made } in
      let without = called-unplaced s.names call.1 in
      let whole = initial-run-by line slot call.0 t r.made in
      held-by (map lineless_xstat) (new_name_rule s.names v.name) stated (new-name-unplaced s.names v.name)
      ((λ i. record { next = next; faults = (without i).faults ++ (initial_run 0 slot nowhere t (without i).made).faults; made = one (initial_run 0 slot nowhere t (without i).made).made })
      ∙ (λ i. record { next = next; faults = unplaced_faults r.faults ++ (whole i).faults; made = one (whole i).made })
      ∙ (λ i. record { next = next; faults = faults-append r.faults first.faults i; made = one-mapped lineless_xstat first.made i }))

  declaring-by : (call : Option (Place × ModelCall)) → declaring 0 m (unplaced_variable v) (option_map (unplaced_first s.names) call) s ≡ stated_by (map lineless_xstat) (declaring line m v call s)
  declaring-by None = all-lined-by (declared home.Experiment line m v s) (declared-by home.Experiment line m v s)
  declaring-by (Some call) = run-declared-by call

  variable-by : variable_tried 0 m (unplaced_variable v) s ≡ stated_by (map lineless_xstat) (variable_tried line m v s)
  variable-by = ap (λ c. declaring 0 m (unplaced_variable v) c s) (initial-call-unplaced s.names v.initial) ∙ declaring-by (initial_call s.names v.initial)

variables-by : (line : ℕ) (m : Option Meant) (vs : List Variable) → map (variable_tried 0 m) (map unplaced_variable vs) ≡ map (turn_by lineless_xstat) (map (variable_tried line m) vs)
variables-by line m [] = refl
variables-by line m (v ∷ vs) = λ i. (λ s. variable-by line m v s i) ∷ variables-by line m vs i

pub declaration-tried-by : (tree : TypeTree) (vs : List Variable) (s : State)
    → declaration_tried (unplaced_type tree) (map unplaced_variable vs) s ≡ stated_by (map lineless_xstat) (declaration_tried tree vs s)
declaration-tried-by tree vs s =
    let t = reading (site_of home.Experiment) s.names tree true in
    let line = (type_place tree).line in
    let ty = option_map (λ m. m.ty) t.made in
    let without = type-unplaced (site_of home.Experiment) s.names tree true in
    let turns = in_turn (map (variable_tried line t.made) vs) s in
    (λ i. preceded (without i).faults (held_by (local_rule home.Experiment (type-nowhere tree i) (option_map (λ m. m.ty) (without i).made)) (in_turn (map (variable_tried (type-nowhere tree i).line (without i).made) (map unplaced_variable vs)) s)))
    ∙ preceded-by (map lineless_xstat) t.faults (held_by (local_rule home.Experiment (type_place tree) ty) turns)
    (held-by (map lineless_xstat) (local_rule home.Experiment (type_place tree) ty) turns (local-unplaced home.Experiment (type_place tree) ty)
    (ap (λ ts. in_turn ts s) (variables-by line t.made vs) ∙ in-turn-by lineless_xstat (map (variable_tried line t.made) vs) s))
