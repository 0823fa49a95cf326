-- What statements come to is the same without places, but for their lines: the induction over trees.
use Rattle.std.proofs.Common.{◌≡◌, Bool, List, [], ◌∷◌, map, refl, sym, ap, subst, ◌∙◌}
use Rattle.std.specs.Option.{option_map}
use Rattle.chi_tree.specs.declared.statement.Alternative.{Alternative, Alternative-F, roll-Alternative, map-Alternative, fold-roll-Alternative}
use Rattle.chi_tree.specs.declared.statement.Alternative.TheVariants as alternative
use Rattle.chi_tree.specs.declared.statement.Branch.{Branch, Branch-F, roll-Branch, map-Branch, fold-roll-Branch}
use Rattle.chi_tree.specs.declared.statement.Statement.{Statement, Statement-F, roll-Statement, map-Statement, fold-roll-Statement}
use Rattle.chi_tree.specs.declared.statement.Statement.TheVariants as statement
use Rattle.chi_tree.specs.declared.statement.Step.{Step, Step-F, out-Step, roll-Step, map-Step, fold-roll-Step, fold_out-Step, ind-Step}
use Rattle.chi_tree.specs.View.{nowhere}
use Rattle.chi_tree_laws.specs.Unplaced.{unplaced_expr, unplaced_type}
use Rattle.chi_tree_laws.specs.UnplacedStatements.{unplaced_variable, unplaced_target, unplaced_walk, unplaced_communication, unplaced_element, alternative_without, statement_without, branch_without, step_without, unplaced_alternative, unplaced_statement, unplaced_branch, unplaced_step, unplaced_block}
use Rattle.chi_core.specs.declared.statement.Branch.{Branch as CBranch}
use Rattle.chi_core.specs.declared.statement.CAlt.{CAlt}
use Rattle.chi_core.specs.declared.statement.CStat.{CStat}
use Rattle.chi_check.specs.Below.chi_check_stat_rules.specs.declared.home.Home.{Home}
use Rattle.chi_check.specs.Below.chi_check_stat_lines.specs.declared.state.State.{State}
use Rattle.chi_check.specs.Below.chi_check_stat_lines.specs.Stated.{in_turn}
use Rattle.chi_check.specs.Below.chi_check_stat_lines.specs.States.{Going}
use Rattle.chi_check.specs.Below.chi_check_stat.specs.Statements.{statement_step, branch_step, alternative_step, step_step, stating, stepping, branching, offering, stepping_in, stating_all}
use Rattle.chi_check_program_places.specs.Lineless.{lineless_statement, lineless_branch, lineless_alternative}
use Rattle.chi_check_program_places.proofs.By.{stated_by, turn_by, in-turn-by}
use Rattle.chi_check_program_places.proofs.Blocks.{going_by, unplaced_layer, statement-layer, branch-layer, unplaced_alternative_layer, alternative-layer}

module _ (home : Home) where
  abbrev PA : Alternative → Type 0
  PA x = offering home (unplaced_alternative x) ≡ going_by lineless_alternative (offering home x)

  abbrev PS : Statement → Type 0
  PS x = stating home (unplaced_statement x) ≡ going_by lineless_statement (stating home x)

  abbrev PB : Branch → Type 0
  PB x = branching home (unplaced_branch x) ≡ going_by lineless_branch (branching home x)

  abbrev PT : Step → Type 0
  PT x = stepping home (unplaced_step x) ≡ going_by lineless_statement (stepping home x)

  abbrev XA : Type 0
  XA = (x : Alternative) × PA x

  abbrev XS : Type 0
  XS = (x : Statement) × PS x

  abbrev XB : Type 0
  XB = (x : Branch) × PB x

  abbrev XT : Type 0
  XT = (x : Step) × PT x

  -- ---- lists of parts

  alternatives-such : (ys : List XA) → map (offering home) (map unplaced_alternative (map (λ y. y.0) ys)) ≡ map (going_by lineless_alternative) (map (offering home) (map (λ y. y.0) ys))
  alternatives-such [] = refl
  alternatives-such (y ∷ ys) = λ i. y.1 i ∷ alternatives-such ys i

  branches-such : (ys : List XB) → map (branching home) (map unplaced_branch (map (λ y. y.0) ys)) ≡ map (going_by lineless_branch) (map (branching home) (map (λ y. y.0) ys))
  branches-such [] = refl
  branches-such (y ∷ ys) = λ i. y.1 i ∷ branches-such ys i

  steps-such : (ys : List XT) → map (stepping home) (map unplaced_step (map (λ y. y.0) ys)) ≡ map (going_by lineless_statement) (map (stepping home) (map (λ y. y.0) ys))
  steps-such [] = refl
  steps-such (y ∷ ys) = λ i. y.1 i ∷ steps-such ys i

  -- ---- the equations of the folds

  abbrev alternative_of_parts : Alternative-F Alternative Statement Branch Step → Going CAlt
  alternative_of_parts o = alternative_step home (map-Alternative Alternative Statement Branch Step (Going CAlt) (Going CStat) (Going CBranch) (Going CStat) (offering home) (stating home) (branching home) (stepping home) o)

  abbrev alternative_parts : Alternative-F XA XS XB XT → Alternative-F Alternative Statement Branch Step
  alternative_parts y = map-Alternative XA XS XB XT Alternative Statement Branch Step (λ y. y.0) (λ y. y.0) (λ y. y.0) (λ y. y.0) y

  abbrev alternative_unplaced : Alternative-F Alternative Statement Branch Step → Alternative
  alternative_unplaced o = alternative_without (map-Alternative Alternative Statement Branch Step Alternative Statement Branch Step unplaced_alternative unplaced_statement unplaced_branch unplaced_step o)

  alternative-rolled : (o : Alternative-F Alternative Statement Branch Step) → offering home (roll-Alternative o) ≡ alternative_of_parts o
  unfolding stating stepping branching offering
  alternative-rolled o = fold-roll-Alternative (Going CAlt) (Going CStat) (Going CBranch) (Going CStat) (alternative_step home) (statement_step home) (branch_step home) (step_step home) o

  alternative-unrolled : (o : Alternative-F Alternative Statement Branch Step) → unplaced_alternative (roll-Alternative o) ≡ alternative_unplaced o
  alternative-unrolled o = fold-roll-Alternative Alternative Statement Branch Step alternative_without statement_without branch_without step_without o

  abbrev statement_of_parts : Statement-F Alternative Statement Branch Step → Going CStat
  statement_of_parts o = statement_step home (map-Statement Alternative Statement Branch Step (Going CAlt) (Going CStat) (Going CBranch) (Going CStat) (offering home) (stating home) (branching home) (stepping home) o)

  abbrev statement_parts : Statement-F XA XS XB XT → Statement-F Alternative Statement Branch Step
  statement_parts y = map-Statement XA XS XB XT Alternative Statement Branch Step (λ y. y.0) (λ y. y.0) (λ y. y.0) (λ y. y.0) y

  abbrev statement_unplaced : Statement-F Alternative Statement Branch Step → Statement
  statement_unplaced o = statement_without (map-Statement Alternative Statement Branch Step Alternative Statement Branch Step unplaced_alternative unplaced_statement unplaced_branch unplaced_step o)

  statement-rolled : (o : Statement-F Alternative Statement Branch Step) → stating home (roll-Statement o) ≡ statement_of_parts o
  unfolding stating stepping branching offering
  statement-rolled o = fold-roll-Statement (Going CAlt) (Going CStat) (Going CBranch) (Going CStat) (alternative_step home) (statement_step home) (branch_step home) (step_step home) o

  statement-unrolled : (o : Statement-F Alternative Statement Branch Step) → unplaced_statement (roll-Statement o) ≡ statement_unplaced o
  statement-unrolled o = fold-roll-Statement Alternative Statement Branch Step alternative_without statement_without branch_without step_without o

  abbrev branch_of_parts : Branch-F Alternative Statement Branch Step → Going CBranch
  branch_of_parts o = branch_step home (map-Branch Alternative Statement Branch Step (Going CAlt) (Going CStat) (Going CBranch) (Going CStat) (offering home) (stating home) (branching home) (stepping home) o)

  abbrev branch_parts : Branch-F XA XS XB XT → Branch-F Alternative Statement Branch Step
  branch_parts y = map-Branch XA XS XB XT Alternative Statement Branch Step (λ y. y.0) (λ y. y.0) (λ y. y.0) (λ y. y.0) y

  abbrev branch_unplaced : Branch-F Alternative Statement Branch Step → Branch
  branch_unplaced o = branch_without (map-Branch Alternative Statement Branch Step Alternative Statement Branch Step unplaced_alternative unplaced_statement unplaced_branch unplaced_step o)

  branch-rolled : (o : Branch-F Alternative Statement Branch Step) → branching home (roll-Branch o) ≡ branch_of_parts o
  unfolding stating stepping branching offering
  branch-rolled o = fold-roll-Branch (Going CAlt) (Going CStat) (Going CBranch) (Going CStat) (alternative_step home) (statement_step home) (branch_step home) (step_step home) o

  branch-unrolled : (o : Branch-F Alternative Statement Branch Step) → unplaced_branch (roll-Branch o) ≡ branch_unplaced o
  branch-unrolled o = fold-roll-Branch Alternative Statement Branch Step alternative_without statement_without branch_without step_without o

  abbrev step_of_parts : Step-F Alternative Statement Branch Step → Going CStat
  step_of_parts o = step_step home (map-Step Alternative Statement Branch Step (Going CAlt) (Going CStat) (Going CBranch) (Going CStat) (offering home) (stating home) (branching home) (stepping home) o)

  abbrev step_parts : Step-F XA XS XB XT → Step-F Alternative Statement Branch Step
  step_parts y = map-Step XA XS XB XT Alternative Statement Branch Step (λ y. y.0) (λ y. y.0) (λ y. y.0) (λ y. y.0) y

  abbrev step_unplaced : Step-F Alternative Statement Branch Step → Step
  step_unplaced o = step_without (map-Step Alternative Statement Branch Step Alternative Statement Branch Step unplaced_alternative unplaced_statement unplaced_branch unplaced_step o)

  step-rolled : (o : Step-F Alternative Statement Branch Step) → stepping home (roll-Step o) ≡ step_of_parts o
  unfolding stating stepping branching offering
  step-rolled o = fold-roll-Step (Going CAlt) (Going CStat) (Going CBranch) (Going CStat) (alternative_step home) (statement_step home) (branch_step home) (step_step home) o

  step-unrolled : (o : Step-F Alternative Statement Branch Step) → unplaced_step (roll-Step o) ≡ step_unplaced o
  step-unrolled o = fold-roll-Step Alternative Statement Branch Step alternative_without statement_without branch_without step_without o

  step-opened : (x : Step) → stepping home x ≡ step_of_parts (out-Step x)
  unfolding stating stepping branching offering
  step-opened x = fold_out-Step (Going CAlt) (Going CStat) (Going CBranch) (Going CStat) (alternative_step home) (statement_step home) (branch_step home) (step_step home) x

  -- ---- each layer

  thence : (o : Statement-F Alternative Statement Branch Step) (l : Statement-F (Going CAlt) (Going CStat) (Going CBranch) (Going CStat)) {v : Statement} → roll-Statement o ≡ v
      → map-Statement Alternative Statement Branch Step (Going CAlt) (Going CStat) (Going CBranch) (Going CStat) (offering home) (stating home) (branching home) (stepping home) o ≡ unplaced_layer home l → stating home v ≡ going_by lineless_statement (statement_step home l)
  thence o l r e = ap (stating home) (sym r) ∙ statement-rolled o ∙ ap (statement_step home) e ∙ (λ i loop s. statement-layer home l loop s i)

  alternative-thence : (o : Alternative-F Alternative Statement Branch Step) (l : Alternative-F (Going CAlt) (Going CStat) (Going CBranch) (Going CStat)) {v : Alternative} → roll-Alternative o ≡ v
      → map-Alternative Alternative Statement Branch Step (Going CAlt) (Going CStat) (Going CBranch) (Going CStat) (offering home) (stating home) (branching home) (stepping home) o ≡ unplaced_alternative_layer home l → offering home v ≡ going_by lineless_alternative (alternative_step home l)
  alternative-thence o l r e = ap (offering home) (sym r) ∙ alternative-rolled o ∙ ap (alternative_step home) e ∙ (λ i loop s. alternative-layer home l loop s i)

  statement-such : (y : Statement-F XA XS XB XT) → stating home (statement_unplaced (statement_parts y)) ≡ going_by lineless_statement (statement_of_parts (statement_parts y))
  statement-such (Statement-F.Declare tree vs) =
      thence (Statement-F.Declare (unplaced_type tree) (map unplaced_variable vs)) (Statement-F.Declare tree vs) (statement.rolls-Declare (unplaced_type tree) (map unplaced_variable vs))
      refl
  statement-such (Statement-F.Assign ts place es) =
      thence (Statement-F.Assign (map unplaced_target ts) nowhere (map unplaced_expr es)) (Statement-F.Assign ts place es) (statement.rolls-Assign (map unplaced_target ts) nowhere (map unplaced_expr es))
      refl
  statement-such (Statement-F.Communicate c) =
      thence (Statement-F.Communicate (unplaced_communication c)) (Statement-F.Communicate c) (statement.rolls-Communicate (unplaced_communication c))
      refl
  statement-such (Statement-F.Pass place) =
      thence (Statement-F.Pass nowhere) (Statement-F.Pass place) (statement.rolls-Pass nowhere)
      refl
  statement-such (Statement-F.Break place) =
      thence (Statement-F.Break nowhere) (Statement-F.Break place) (statement.rolls-Break nowhere)
      refl
  statement-such (Statement-F.Continue place) =
      thence (Statement-F.Continue nowhere) (Statement-F.Continue place) (statement.rolls-Continue nowhere)
      refl
  statement-such (Statement-F.Select place xs) =
      thence (Statement-F.Select nowhere (map unplaced_alternative (map (λ y. y.0) xs))) (Statement-F.Select place (map (offering home) (map (λ y. y.0) xs))) (statement.rolls-Select nowhere (map unplaced_alternative (map (λ y. y.0) xs)))
      (λ i. Statement-F.Select nowhere (alternatives-such xs i))
  statement-such (Statement-F.If place xs ys) =
      thence (Statement-F.If nowhere (map unplaced_branch (map (λ y. y.0) xs)) (map unplaced_step (map (λ y. y.0) ys))) (Statement-F.If place (map (branching home) (map (λ y. y.0) xs)) (map (stepping home) (map (λ y. y.0) ys))) (statement.rolls-If nowhere (map unplaced_branch (map (λ y. y.0) xs)) (map unplaced_step (map (λ y. y.0) ys)))
      (λ i. Statement-F.If nowhere (branches-such xs i) (steps-such ys i))
  statement-such (Statement-F.While place e xs) =
      thence (Statement-F.While nowhere (unplaced_expr e) (map unplaced_step (map (λ y. y.0) xs))) (Statement-F.While place e (map (stepping home) (map (λ y. y.0) xs))) (statement.rolls-While nowhere (unplaced_expr e) (map unplaced_step (map (λ y. y.0) xs)))
      (λ i. Statement-F.While nowhere (unplaced_expr e) (steps-such xs i))
  statement-such (Statement-F.For place walk xs) =
      thence (Statement-F.For nowhere (unplaced_walk walk) (map unplaced_step (map (λ y. y.0) xs))) (Statement-F.For place walk (map (stepping home) (map (λ y. y.0) xs))) (statement.rolls-For nowhere (unplaced_walk walk) (map unplaced_step (map (λ y. y.0) xs)))
      (λ i. Statement-F.For nowhere (unplaced_walk walk) (steps-such xs i))
  statement-such (Statement-F.Return place e) =
      thence (Statement-F.Return nowhere (unplaced_expr e)) (Statement-F.Return place e) (statement.rolls-Return nowhere (unplaced_expr e))
      refl
  statement-such (Statement-F.Exit place e) =
      thence (Statement-F.Exit nowhere (option_map unplaced_expr e)) (Statement-F.Exit place e) (statement.rolls-Exit nowhere (option_map unplaced_expr e))
      refl
  statement-such (Statement-F.Run place es) =
      thence (Statement-F.Run nowhere (map unplaced_element es)) (Statement-F.Run place es) (statement.rolls-Run nowhere (map unplaced_element es))
      refl
  statement-such (Statement-F.Start place es) =
      thence (Statement-F.Start nowhere (map unplaced_element es)) (Statement-F.Start place es) (statement.rolls-Start nowhere (map unplaced_element es))
      refl
  statement-such (Statement-F.Finish place es) =
      thence (Statement-F.Finish nowhere (map unplaced_expr es)) (Statement-F.Finish place es) (statement.rolls-Finish nowhere (map unplaced_expr es))
      refl
  statement-such (Statement-F.Write place line text at es) =
      thence (Statement-F.Write nowhere line text nowhere (map unplaced_expr es)) (Statement-F.Write place line text at es) (statement.rolls-Write nowhere line text nowhere (map unplaced_expr es))
      refl

  alternative-such : (y : Alternative-F XA XS XB XT) → offering home (alternative_unplaced (alternative_parts y)) ≡ going_by lineless_alternative (alternative_of_parts (alternative_parts y))
  alternative-such (Alternative-F.Guarded guard c xs) =
      alternative-thence (Alternative-F.Guarded (option_map unplaced_expr guard) (unplaced_communication c) (map unplaced_step (map (λ y. y.0) xs))) (Alternative-F.Guarded guard c (map (stepping home) (map (λ y. y.0) xs))) (alternative.rolls-Guarded (option_map unplaced_expr guard) (unplaced_communication c) (map unplaced_step (map (λ y. y.0) xs)))
      (λ i. Alternative-F.Guarded (option_map unplaced_expr guard) (unplaced_communication c) (steps-such xs i))
  alternative-such (Alternative-F.Unwind place walk xs) =
      alternative-thence (Alternative-F.Unwind nowhere (unplaced_walk walk) (map unplaced_alternative (map (λ y. y.0) xs))) (Alternative-F.Unwind place walk (map (offering home) (map (λ y. y.0) xs))) (alternative.rolls-Unwind nowhere (unplaced_walk walk) (map unplaced_alternative (map (λ y. y.0) xs)))
      (λ i. Alternative-F.Unwind nowhere (unplaced_walk walk) (alternatives-such xs i))

  branch-such : (y : Branch-F XA XS XB XT) → branching home (branch_unplaced (branch_parts y)) ≡ going_by lineless_branch (branch_of_parts (branch_parts y))
  branch-such y =
      branch-rolled (record { condition = unplaced_expr y.condition; block = map unplaced_step (map (λ y. y.0) y.block) })
      ∙ (λ i. branch_step home (record { condition = unplaced_expr y.condition; block = steps-such y.block i }))
      ∙ (λ i loop s. branch-layer home y.condition (map (stepping home) (map (λ y. y.0) y.block)) loop s i)

  step-such : (y : Step-F XA XS XB XT) → stepping home (step_unplaced (step_parts y)) ≡ going_by lineless_statement (step_of_parts (step_parts y))
  step-such y = step-opened (step_unplaced (step_parts y)) ∙ y.statement.1

  -- ---- the induction

  alternative-step : (y : Alternative-F XA XS XB XT) → PA (roll-Alternative (alternative_parts y))
  alternative-step y = ap (offering home) (alternative-unrolled (alternative_parts y)) ∙ alternative-such y ∙ ap (going_by lineless_alternative) (sym (alternative-rolled (alternative_parts y)))

  statement-step : (y : Statement-F XA XS XB XT) → PS (roll-Statement (statement_parts y))
  statement-step y = ap (stating home) (statement-unrolled (statement_parts y)) ∙ statement-such y ∙ ap (going_by lineless_statement) (sym (statement-rolled (statement_parts y)))

  branch-step : (y : Branch-F XA XS XB XT) → PB (roll-Branch (branch_parts y))
  branch-step y = ap (branching home) (branch-unrolled (branch_parts y)) ∙ branch-such y ∙ ap (going_by lineless_branch) (sym (branch-rolled (branch_parts y)))

  step-step : (y : Step-F XA XS XB XT) → PT (roll-Step (step_parts y))
  step-step y = ap (stepping home) (step-unrolled (step_parts y)) ∙ step-such y ∙ ap (going_by lineless_statement) (sym (step-rolled (step_parts y)))

  pub stepping-by : (x : Step) → stepping home (unplaced_step x) ≡ going_by lineless_statement (stepping home x)
  stepping-by = ind-Step PA PS PB PT
      (λ x y h. subst (λ x. PA (roll-Alternative x)) h (alternative-step y))
      (λ x y h. subst (λ x. PS (roll-Statement x)) h (statement-step y))
      (λ x y h. subst (λ x. PB (roll-Branch x)) h (branch-step y))
      (λ x y h. subst (λ x. PT (roll-Step x)) h (step-step y))

  all-stepping : (loop : Bool) (xs : List Step) → map (stepping_in home loop) (unplaced_block xs) ≡ map (turn_by lineless_statement) (map (stepping_in home loop) xs)
  all-stepping loop [] = refl
  all-stepping loop (x ∷ xs) = λ i. stepping-by x i loop ∷ all-stepping loop xs i

  pub stating-all-by : (loop : Bool) (xs : List Step) (s : State) → stating_all home loop (unplaced_block xs) s ≡ stated_by (map lineless_statement) (stating_all home loop xs s)
  stating-all-by loop xs s = ap (λ ts. in_turn ts s) (all-stepping loop xs) ∙ in-turn-by lineless_statement (map (stepping_in home loop) xs) s
