-- What statements come to is the same with the `;` that are kept: the induction over trees.
use Rattle.std.proofs.Common.{◌≡◌, Bool, List, [], ◌∷◌, map, refl, sym, ap, subst, ◌∙◌}
use Rattle.chi_tree.specs.declared.statement.Alternative.{Alternative, Alternative-F, roll-Alternative, map-Alternative, fold-roll-Alternative}
use Rattle.chi_tree.specs.declared.statement.Branch.{Branch, Branch-F, roll-Branch, map-Branch, fold-roll-Branch}
use Rattle.chi_tree.specs.declared.statement.Statement.{Statement, Statement-F, roll-Statement, map-Statement, fold-roll-Statement}
use Rattle.chi_tree.specs.declared.statement.Step.{Step, Step-F, out-Step, roll-Step, map-Step, fold-roll-Step, fold_out-Step, ind-Step}
use Rattle.chi_tree.specs.Statements as tree
use Rattle.chi_core.specs.declared.statement.Branch.{Branch as CBranch}
use Rattle.chi_core.specs.declared.statement.CAlt.{CAlt}
use Rattle.chi_core.specs.declared.statement.CStat.{CStat}
use Rattle.chi_check_program_places.specs.Below.chi_check_stat_rules.specs.declared.home.Home.{Home}
use Rattle.chi_check_program_places.specs.Below.chi_check_stat_lines.specs.declared.state.State.{State}
use Rattle.chi_check_program_places.specs.Below.chi_check_stat_lines.specs.Stated.{in_turn}
use Rattle.chi_check_program_places.specs.Below.chi_check_stat_lines.specs.States.{Going, each_in}
use Rattle.chi_check_program_places.specs.Below.chi_check_stat.specs.Statements.{statement_step, branch_step, alternative_step, step_step, stating, stepping, branching, offering, stepping_in, stating_all}
use Rattle.chi_fmt.specs.Kept.{separated, kept_statement_step, kept_step_step, kept_branch_step, kept_alternative_step, kept_step, kept_statement, kept_branch, kept_alternative, kept_block}
use Rattle.chi_fmt.specs.Lines.{is_some}

module _ (home : Home) where
  abbrev PA : Alternative → Type 0
  PA x = offering home (kept_alternative x) ≡ offering home x

  abbrev PS : Statement → Type 0
  PS x = stating home (kept_statement x) ≡ stating home x

  abbrev PB : Branch → Type 0
  PB x = branching home (kept_branch x) ≡ branching home x

  abbrev PT : Step → Type 0
  PT x = stepping home (kept_step x) ≡ stepping home x

  abbrev XA : Type 0
  XA = (x : Alternative) × PA x

  abbrev XS : Type 0
  XS = (x : Statement) × PS x

  abbrev XB : Type 0
  XB = (x : Branch) × PB x

  abbrev XT : Type 0
  XT = (x : Step) × PT x

  -- ---- the equations of the folds

  abbrev alternative_of_parts : Alternative-F Alternative Statement Branch Step → Going CAlt
  alternative_of_parts o = alternative_step home (map-Alternative Alternative Statement Branch Step (Going CAlt) (Going CStat) (Going CBranch) (Going CStat) (offering home) (stating home) (branching home) (stepping home) o)

  abbrev alternative_parts : Alternative-F XA XS XB XT → Alternative-F Alternative Statement Branch Step
  alternative_parts y = map-Alternative XA XS XB XT Alternative Statement Branch Step (λ y. y.0) (λ y. y.0) (λ y. y.0) (λ y. y.0) y

  abbrev alternative_kept : Alternative-F Alternative Statement Branch Step → Alternative
  alternative_kept o = kept_alternative_step (map-Alternative Alternative Statement Branch Step Alternative Statement Branch Step kept_alternative kept_statement kept_branch kept_step o)

  alternative-rolled : (o : Alternative-F Alternative Statement Branch Step) → offering home (roll-Alternative o) ≡ alternative_of_parts o
  unfolding stating stepping branching offering
  alternative-rolled o = fold-roll-Alternative (Going CAlt) (Going CStat) (Going CBranch) (Going CStat) (alternative_step home) (statement_step home) (branch_step home) (step_step home) o

  alternative-unrolled : (o : Alternative-F Alternative Statement Branch Step) → kept_alternative (roll-Alternative o) ≡ alternative_kept o
  alternative-unrolled o = fold-roll-Alternative Alternative Statement Branch Step kept_alternative_step kept_statement_step kept_branch_step kept_step_step o

  abbrev statement_of_parts : Statement-F Alternative Statement Branch Step → Going CStat
  statement_of_parts o = statement_step home (map-Statement Alternative Statement Branch Step (Going CAlt) (Going CStat) (Going CBranch) (Going CStat) (offering home) (stating home) (branching home) (stepping home) o)

  abbrev statement_parts : Statement-F XA XS XB XT → Statement-F Alternative Statement Branch Step
  statement_parts y = map-Statement XA XS XB XT Alternative Statement Branch Step (λ y. y.0) (λ y. y.0) (λ y. y.0) (λ y. y.0) y

  abbrev statement_kept : Statement-F Alternative Statement Branch Step → Statement
  statement_kept o = kept_statement_step (map-Statement Alternative Statement Branch Step Alternative Statement Branch Step kept_alternative kept_statement kept_branch kept_step o)

  statement-rolled : (o : Statement-F Alternative Statement Branch Step) → stating home (roll-Statement o) ≡ statement_of_parts o
  unfolding stating stepping branching offering
  statement-rolled o = fold-roll-Statement (Going CAlt) (Going CStat) (Going CBranch) (Going CStat) (alternative_step home) (statement_step home) (branch_step home) (step_step home) o

  statement-unrolled : (o : Statement-F Alternative Statement Branch Step) → kept_statement (roll-Statement o) ≡ statement_kept o
  statement-unrolled o = fold-roll-Statement Alternative Statement Branch Step kept_alternative_step kept_statement_step kept_branch_step kept_step_step o

  abbrev branch_of_parts : Branch-F Alternative Statement Branch Step → Going CBranch
  branch_of_parts o = branch_step home (map-Branch Alternative Statement Branch Step (Going CAlt) (Going CStat) (Going CBranch) (Going CStat) (offering home) (stating home) (branching home) (stepping home) o)

  abbrev branch_parts : Branch-F XA XS XB XT → Branch-F Alternative Statement Branch Step
  branch_parts y = map-Branch XA XS XB XT Alternative Statement Branch Step (λ y. y.0) (λ y. y.0) (λ y. y.0) (λ y. y.0) y

  abbrev branch_kept : Branch-F Alternative Statement Branch Step → Branch
  branch_kept o = kept_branch_step (map-Branch Alternative Statement Branch Step Alternative Statement Branch Step kept_alternative kept_statement kept_branch kept_step o)

  branch-rolled : (o : Branch-F Alternative Statement Branch Step) → branching home (roll-Branch o) ≡ branch_of_parts o
  unfolding stating stepping branching offering
  branch-rolled o = fold-roll-Branch (Going CAlt) (Going CStat) (Going CBranch) (Going CStat) (alternative_step home) (statement_step home) (branch_step home) (step_step home) o

  branch-unrolled : (o : Branch-F Alternative Statement Branch Step) → kept_branch (roll-Branch o) ≡ branch_kept o
  branch-unrolled o = fold-roll-Branch Alternative Statement Branch Step kept_alternative_step kept_statement_step kept_branch_step kept_step_step o

  abbrev step_of_parts : Step-F Alternative Statement Branch Step → Going CStat
  step_of_parts o = step_step home (map-Step Alternative Statement Branch Step (Going CAlt) (Going CStat) (Going CBranch) (Going CStat) (offering home) (stating home) (branching home) (stepping home) o)

  abbrev step_parts : Step-F XA XS XB XT → Step-F Alternative Statement Branch Step
  step_parts y = map-Step XA XS XB XT Alternative Statement Branch Step (λ y. y.0) (λ y. y.0) (λ y. y.0) (λ y. y.0) y

  abbrev step_kept : Step-F Alternative Statement Branch Step → Step
  step_kept o = kept_step_step (map-Step Alternative Statement Branch Step Alternative Statement Branch Step kept_alternative kept_statement kept_branch kept_step o)

  step-rolled : (o : Step-F Alternative Statement Branch Step) → stepping home (roll-Step o) ≡ step_of_parts o
  unfolding stating stepping branching offering
  step-rolled o = fold-roll-Step (Going CAlt) (Going CStat) (Going CBranch) (Going CStat) (alternative_step home) (statement_step home) (branch_step home) (step_step home) o

  step-unrolled : (o : Step-F Alternative Statement Branch Step) → kept_step (roll-Step o) ≡ step_kept o
  step-unrolled o = fold-roll-Step Alternative Statement Branch Step kept_alternative_step kept_statement_step kept_branch_step kept_step_step o

  step-opened : (x : Step) → stepping home x ≡ step_of_parts (out-Step x)
  unfolding stating stepping branching offering
  step-opened x = fold_out-Step (Going CAlt) (Going CStat) (Going CBranch) (Going CStat) (alternative_step home) (statement_step home) (branch_step home) (step_step home) x

  -- ---- lists of parts

  alternatives-such : (ys : List XA) → map (offering home) (map kept_alternative (map (λ y. y.0) ys)) ≡ map (offering home) (map (λ y. y.0) ys)
  alternatives-such [] = refl
  alternatives-such (y ∷ ys) = λ i. y.1 i ∷ alternatives-such ys i

  branches-such : (ys : List XB) → map (branching home) (map kept_branch (map (λ y. y.0) ys)) ≡ map (branching home) (map (λ y. y.0) ys)
  branches-such [] = refl
  branches-such (y ∷ ys) = λ i. y.1 i ∷ branches-such ys i

  steps-such : (ys : List XT) → map (stepping home) (map kept_step (map (λ y. y.0) ys)) ≡ map (stepping home) (map (λ y. y.0) ys)
  steps-such [] = refl
  steps-such (y ∷ ys) = λ i. y.1 i ∷ steps-such ys i

  -- whether a `;` stands after a statement
  flag-same : (x : Step) (b : Bool) → stepping home (tree.step x.statement b) ≡ stepping home x
  flag-same x b = step-opened (tree.step x.statement b) ∙ sym (step-opened x)

  separated-same : (xs : List Step) → map (stepping home) (separated xs) ≡ map (stepping home) xs
  separated-same [] = refl
  separated-same (x ∷ xs) = λ i. flag-same x (is_some xs) i ∷ separated-same xs i

  block-such : (ys : List XT) → map (stepping home) (separated (map kept_step (map (λ y. y.0) ys))) ≡ map (stepping home) (map (λ y. y.0) ys)
  block-such ys = separated-same (map kept_step (map (λ y. y.0) ys)) ∙ steps-such ys

  -- ---- each layer

  statement-such : (y : Statement-F XA XS XB XT) → stating home (statement_kept (statement_parts y)) ≡ statement_of_parts (statement_parts y)
  statement-such (Statement-F.Declare tree vs) = statement-rolled (Statement-F.Declare tree vs)
  statement-such (Statement-F.Assign ts place es) = statement-rolled (Statement-F.Assign ts place es)
  statement-such (Statement-F.Communicate c) = statement-rolled (Statement-F.Communicate c)
  statement-such (Statement-F.Pass place) = statement-rolled (Statement-F.Pass place)
  statement-such (Statement-F.Break place) = statement-rolled (Statement-F.Break place)
  statement-such (Statement-F.Continue place) = statement-rolled (Statement-F.Continue place)
  statement-such (Statement-F.Select place xs) =
      statement-rolled (Statement-F.Select place (map kept_alternative (map (λ y. y.0) xs)))
      ∙ (λ i. statement_step home (Statement-F.Select place (alternatives-such xs i)))
  statement-such (Statement-F.If place xs ys) =
      statement-rolled (Statement-F.If place (map kept_branch (map (λ y. y.0) xs)) (separated (map kept_step (map (λ y. y.0) ys))))
      ∙ (λ i. statement_step home (Statement-F.If place (branches-such xs i) (block-such ys i)))
  statement-such (Statement-F.While place e xs) =
      statement-rolled (Statement-F.While place e (separated (map kept_step (map (λ y. y.0) xs))))
      ∙ (λ i. statement_step home (Statement-F.While place e (block-such xs i)))
  statement-such (Statement-F.For place walk xs) =
      statement-rolled (Statement-F.For place walk (separated (map kept_step (map (λ y. y.0) xs))))
      ∙ (λ i. statement_step home (Statement-F.For place walk (block-such xs i)))
  statement-such (Statement-F.Return place e) = statement-rolled (Statement-F.Return place e)
  statement-such (Statement-F.Exit place e) = statement-rolled (Statement-F.Exit place e)
  statement-such (Statement-F.Run place es) = statement-rolled (Statement-F.Run place es)
  statement-such (Statement-F.Start place es) = statement-rolled (Statement-F.Start place es)
  statement-such (Statement-F.Finish place es) = statement-rolled (Statement-F.Finish place es)
  statement-such (Statement-F.Write place line text at es) = statement-rolled (Statement-F.Write place line text at es)

  alternative-such : (y : Alternative-F XA XS XB XT) → offering home (alternative_kept (alternative_parts y)) ≡ alternative_of_parts (alternative_parts y)
  alternative-such (Alternative-F.Guarded guard c xs) =
      alternative-rolled (Alternative-F.Guarded guard c (separated (map kept_step (map (λ y. y.0) xs))))
      ∙ (λ i. alternative_step home (Alternative-F.Guarded guard c (block-such xs i)))
  alternative-such (Alternative-F.Unwind place walk xs) =
      alternative-rolled (Alternative-F.Unwind place walk (map kept_alternative (map (λ y. y.0) xs)))
      ∙ (λ i. alternative_step home (Alternative-F.Unwind place walk (alternatives-such xs i)))

  branch-such : (y : Branch-F XA XS XB XT) → branching home (branch_kept (branch_parts y)) ≡ branch_of_parts (branch_parts y)
  branch-such y =
      branch-rolled (record { condition = y.condition; block = separated (map kept_step (map (λ y. y.0) y.block)) })
      ∙ (λ i. branch_step home (record { condition = y.condition; block = block-such y.block i }))

  step-such : (y : Step-F XA XS XB XT) → stepping home (step_kept (step_parts y)) ≡ step_of_parts (step_parts y)
  step-such y = step-opened (step_kept (step_parts y)) ∙ y.statement.1

  -- ---- the induction

  alternative-step : (y : Alternative-F XA XS XB XT) → PA (roll-Alternative (alternative_parts y))
  alternative-step y = ap (offering home) (alternative-unrolled (alternative_parts y)) ∙ alternative-such y ∙ sym (alternative-rolled (alternative_parts y))

  statement-step : (y : Statement-F XA XS XB XT) → PS (roll-Statement (statement_parts y))
  statement-step y = ap (stating home) (statement-unrolled (statement_parts y)) ∙ statement-such y ∙ sym (statement-rolled (statement_parts y))

  branch-step : (y : Branch-F XA XS XB XT) → PB (roll-Branch (branch_parts y))
  branch-step y = ap (branching home) (branch-unrolled (branch_parts y)) ∙ branch-such y ∙ sym (branch-rolled (branch_parts y))

  step-step : (y : Step-F XA XS XB XT) → PT (roll-Step (step_parts y))
  step-step y = ap (stepping home) (step-unrolled (step_parts y)) ∙ step-such y ∙ sym (step-rolled (step_parts y))

  stepping-kept : (x : Step) → stepping home (kept_step x) ≡ stepping home x
  stepping-kept = ind-Step PA PS PB PT
      (λ x y h. subst (λ x. PA (roll-Alternative x)) h (alternative-step y))
      (λ x y h. subst (λ x. PS (roll-Statement x)) h (statement-step y))
      (λ x y h. subst (λ x. PB (roll-Branch x)) h (branch-step y))
      (λ x y h. subst (λ x. PT (roll-Step x)) h (step-step y))

  all-kept : (xs : List Step) → map (stepping home) (map kept_step xs) ≡ map (stepping home) xs
  all-kept [] = refl
  all-kept (x ∷ xs) = λ i. stepping-kept x i ∷ all-kept xs i

  turns-of : (loop : Bool) (xs : List Step) → map (stepping_in home loop) xs ≡ each_in loop (map (stepping home) xs)
  turns-of loop [] = refl
  turns-of loop (x ∷ xs) = ap (λ ts. stepping home x loop ∷ ts) (turns-of loop xs)

  pub stating-kept : (loop : Bool) (xs : List Step) (s : State) → stating_all home loop (kept_block xs) s ≡ stating_all home loop xs s
  stating-kept loop xs s =
      ap (λ ts. in_turn ts s)
      (turns-of loop (kept_block xs) ∙ ap (each_in loop) (separated-same (map kept_step xs) ∙ all-kept xs) ∙ sym (turns-of loop xs))
