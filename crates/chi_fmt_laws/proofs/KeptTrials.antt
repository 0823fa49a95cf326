-- What the statements of experiments come to is the same with the `;` that are kept: the induction over trees.
use Rattle.std.proofs.Common.{◌≡◌, Bool, List, [], ◌∷◌, map, refl, sym, ap, subst, ◌∙◌}
use Rattle.chi_tree.specs.declared.statement.Alternative.{Alternative, fold-Alternative}
use Rattle.chi_tree.specs.declared.statement.Branch.{Branch, Branch-F, roll-Branch, map-Branch, fold-roll-Branch}
use Rattle.chi_tree.specs.declared.statement.Statement.{Statement, Statement-F, roll-Statement, map-Statement, fold-roll-Statement}
use Rattle.chi_tree.specs.declared.statement.Step.{Step, Step-F, out-Step, roll-Step, map-Step, fold-roll-Step, fold_out-Step, ind-Step}
use Rattle.chi_tree.specs.Statements as tree
use Rattle.chi_core.specs.declared.experiment.XBranch.{XBranch}
use Rattle.chi_core.specs.declared.experiment.XStat.{XStat}
use Rattle.chi_check_types.specs.declared.rules.TheConstants.{IN_EXPERIMENT}
use Rattle.chi_check_types.specs.Typed.{refused}
use Rattle.chi_check_program_places.specs.Below.chi_check_stat_lines.specs.declared.state.State.{State}
use Rattle.chi_check_program_places.specs.Below.chi_check_stat_lines.specs.Stated.{in_turn, alone}
use Rattle.chi_check_program_places.specs.Below.chi_check_stat_lines.specs.States.{Going, each_in}
use Rattle.chi_check_program_places.specs.Below.chi_check_experiments.specs.Experiments.{no_alternative, trial_step, trial_branch, trial_inner, stating_tried, trying, branch_tried, trying_in, trying_all}
use Rattle.chi_fmt.specs.Kept.{separated, kept_statement_step, kept_step_step, kept_branch_step, kept_alternative_step, kept_step, kept_statement, kept_branch, kept_alternative, kept_block}
use Rattle.chi_fmt.specs.Lines.{is_some}

abbrev PA : Alternative → Type 0
PA x = Unit {0}

abbrev PS : Statement → Type 0
PS x = stating_tried (kept_statement x) ≡ stating_tried x

abbrev PB : Branch → Type 0
PB x = branch_tried (kept_branch x) ≡ branch_tried x

abbrev PT : Step → Type 0
PT x = trying (kept_step x) ≡ trying x

abbrev XA : Type 0
XA = (x : Alternative) × PA x

abbrev XS : Type 0
XS = (x : Statement) × PS x

abbrev XB : Type 0
XB = (x : Branch) × PB x

abbrev XT : Type 0
XT = (x : Step) × PT x

-- ---- the equations of the folds

abbrev untried : Alternative → Unit {0}
untried = fold-Alternative (Unit {0}) (Going XStat) (Going XBranch) (Going XStat) no_alternative trial_step trial_branch trial_inner

abbrev statement_of_parts : Statement-F Alternative Statement Branch Step → Going XStat
statement_of_parts o = trial_step (map-Statement Alternative Statement Branch Step (Unit {0}) (Going XStat) (Going XBranch) (Going XStat) untried stating_tried branch_tried trying o)

abbrev statement_parts : Statement-F XA XS XB XT → Statement-F Alternative Statement Branch Step
statement_parts y = map-Statement XA XS XB XT Alternative Statement Branch Step (λ y. y.0) (λ y. y.0) (λ y. y.0) (λ y. y.0) y

abbrev statement_kept : Statement-F Alternative Statement Branch Step → Statement
statement_kept o = kept_statement_step (map-Statement Alternative Statement Branch Step Alternative Statement Branch Step kept_alternative kept_statement kept_branch kept_step o)

statement-rolled : (o : Statement-F Alternative Statement Branch Step) → stating_tried (roll-Statement o) ≡ statement_of_parts o
unfolding stating_tried trying branch_tried
statement-rolled o = fold-roll-Statement (Unit {0}) (Going XStat) (Going XBranch) (Going XStat) no_alternative trial_step trial_branch trial_inner o

statement-unrolled : (o : Statement-F Alternative Statement Branch Step) → kept_statement (roll-Statement o) ≡ statement_kept o
statement-unrolled o = fold-roll-Statement Alternative Statement Branch Step kept_alternative_step kept_statement_step kept_branch_step kept_step_step o

abbrev branch_of_parts : Branch-F Alternative Statement Branch Step → Going XBranch
branch_of_parts o = trial_branch (map-Branch Alternative Statement Branch Step (Unit {0}) (Going XStat) (Going XBranch) (Going XStat) untried stating_tried branch_tried trying o)

abbrev branch_parts : Branch-F XA XS XB XT → Branch-F Alternative Statement Branch Step
branch_parts y = map-Branch XA XS XB XT Alternative Statement Branch Step (λ y. y.0) (λ y. y.0) (λ y. y.0) (λ y. y.0) y

abbrev branch_kept : Branch-F Alternative Statement Branch Step → Branch
branch_kept o = kept_branch_step (map-Branch Alternative Statement Branch Step Alternative Statement Branch Step kept_alternative kept_statement kept_branch kept_step o)

branch-rolled : (o : Branch-F Alternative Statement Branch Step) → branch_tried (roll-Branch o) ≡ branch_of_parts o
unfolding stating_tried trying branch_tried
branch-rolled o = fold-roll-Branch (Unit {0}) (Going XStat) (Going XBranch) (Going XStat) no_alternative trial_step trial_branch trial_inner o

branch-unrolled : (o : Branch-F Alternative Statement Branch Step) → kept_branch (roll-Branch o) ≡ branch_kept o
branch-unrolled o = fold-roll-Branch Alternative Statement Branch Step kept_alternative_step kept_statement_step kept_branch_step kept_step_step o

abbrev step_of_parts : Step-F Alternative Statement Branch Step → Going XStat
step_of_parts o = trial_inner (map-Step Alternative Statement Branch Step (Unit {0}) (Going XStat) (Going XBranch) (Going XStat) untried stating_tried branch_tried trying o)

abbrev step_parts : Step-F XA XS XB XT → Step-F Alternative Statement Branch Step
step_parts y = map-Step XA XS XB XT Alternative Statement Branch Step (λ y. y.0) (λ y. y.0) (λ y. y.0) (λ y. y.0) y

abbrev step_kept : Step-F Alternative Statement Branch Step → Step
step_kept o = kept_step_step (map-Step Alternative Statement Branch Step Alternative Statement Branch Step kept_alternative kept_statement kept_branch kept_step o)

step-rolled : (o : Step-F Alternative Statement Branch Step) → trying (roll-Step o) ≡ step_of_parts o
unfolding stating_tried trying branch_tried
step-rolled o = fold-roll-Step (Unit {0}) (Going XStat) (Going XBranch) (Going XStat) no_alternative trial_step trial_branch trial_inner o

step-unrolled : (o : Step-F Alternative Statement Branch Step) → kept_step (roll-Step o) ≡ step_kept o
step-unrolled o = fold-roll-Step Alternative Statement Branch Step kept_alternative_step kept_statement_step kept_branch_step kept_step_step o

step-opened : (x : Step) → trying x ≡ step_of_parts (out-Step x)
unfolding stating_tried trying branch_tried
step-opened x = fold_out-Step (Unit {0}) (Going XStat) (Going XBranch) (Going XStat) no_alternative trial_step trial_branch trial_inner x

-- ---- lists of parts

branches-such : (ys : List XB) → map branch_tried (map kept_branch (map (λ y. y.0) ys)) ≡ map branch_tried (map (λ y. y.0) ys)
branches-such [] = refl
branches-such (y ∷ ys) = λ i. y.1 i ∷ branches-such ys i

steps-such : (ys : List XT) → map trying (map kept_step (map (λ y. y.0) ys)) ≡ map trying (map (λ y. y.0) ys)
steps-such [] = refl
steps-such (y ∷ ys) = λ i. y.1 i ∷ steps-such ys i

-- whether a `;` stands after a statement
flag-same : (x : Step) (b : Bool) → trying (tree.step x.statement b) ≡ trying x
flag-same x b = step-opened (tree.step x.statement b) ∙ sym (step-opened x)

separated-same : (xs : List Step) → map trying (separated xs) ≡ map trying xs
separated-same [] = refl
separated-same (x ∷ xs) = λ i. flag-same x (is_some xs) i ∷ separated-same xs i

block-such : (ys : List XT) → map trying (separated (map kept_step (map (λ y. y.0) ys))) ≡ map trying (map (λ y. y.0) ys)
block-such ys = separated-same (map kept_step (map (λ y. y.0) ys)) ∙ steps-such ys

-- ---- each layer

statement-such : (y : Statement-F XA XS XB XT) → stating_tried (statement_kept (statement_parts y)) ≡ statement_of_parts (statement_parts y)
statement-such (Statement-F.Declare tree vs) = statement-rolled (Statement-F.Declare tree vs)
statement-such (Statement-F.Assign ts place es) = statement-rolled (Statement-F.Assign ts place es)
statement-such (Statement-F.Communicate c) = statement-rolled (Statement-F.Communicate c)
statement-such (Statement-F.Pass place) = statement-rolled (Statement-F.Pass place)
statement-such (Statement-F.Break place) = statement-rolled (Statement-F.Break place)
statement-such (Statement-F.Continue place) = statement-rolled (Statement-F.Continue place)
statement-such (Statement-F.Select place xs) =
    statement-rolled (Statement-F.Select place (map kept_alternative (map (λ y. y.0) xs)))
    ∙ (λ i loop s. alone s (refused IN_EXPERIMENT place))
statement-such (Statement-F.If place xs ys) =
    statement-rolled (Statement-F.If place (map kept_branch (map (λ y. y.0) xs)) (separated (map kept_step (map (λ y. y.0) ys))))
    ∙ (λ i. trial_step (Statement-F.If place (branches-such xs i) (block-such ys i)))
statement-such (Statement-F.While place e xs) =
    statement-rolled (Statement-F.While place e (separated (map kept_step (map (λ y. y.0) xs))))
    ∙ (λ i. trial_step (Statement-F.While place e (block-such xs i)))
statement-such (Statement-F.For place walk xs) =
    statement-rolled (Statement-F.For place walk (separated (map kept_step (map (λ y. y.0) xs))))
    ∙ (λ i. trial_step (Statement-F.For place walk (block-such xs i)))
statement-such (Statement-F.Return place e) = statement-rolled (Statement-F.Return place e)
statement-such (Statement-F.Exit place e) = statement-rolled (Statement-F.Exit place e)
statement-such (Statement-F.Run place es) = statement-rolled (Statement-F.Run place es)
statement-such (Statement-F.Start place es) = statement-rolled (Statement-F.Start place es)
statement-such (Statement-F.Finish place es) = statement-rolled (Statement-F.Finish place es)
statement-such (Statement-F.Write place line text at es) = statement-rolled (Statement-F.Write place line text at es)

branch-such : (y : Branch-F XA XS XB XT) → branch_tried (branch_kept (branch_parts y)) ≡ branch_of_parts (branch_parts y)
branch-such y =
    branch-rolled (record { condition = y.condition; block = separated (map kept_step (map (λ y. y.0) y.block)) })
    ∙ (λ i. trial_branch (record { condition = y.condition; block = block-such y.block i }))

step-such : (y : Step-F XA XS XB XT) → trying (step_kept (step_parts y)) ≡ step_of_parts (step_parts y)
step-such y = step-opened (step_kept (step_parts y)) ∙ y.statement.1

-- ---- the induction

statement-step : (y : Statement-F XA XS XB XT) → PS (roll-Statement (statement_parts y))
statement-step y = ap stating_tried (statement-unrolled (statement_parts y)) ∙ statement-such y ∙ sym (statement-rolled (statement_parts y))

branch-step : (y : Branch-F XA XS XB XT) → PB (roll-Branch (branch_parts y))
branch-step y = ap branch_tried (branch-unrolled (branch_parts y)) ∙ branch-such y ∙ sym (branch-rolled (branch_parts y))

step-step : (y : Step-F XA XS XB XT) → PT (roll-Step (step_parts y))
step-step y = ap trying (step-unrolled (step_parts y)) ∙ step-such y ∙ sym (step-rolled (step_parts y))

trying-kept : (x : Step) → trying (kept_step x) ≡ trying x
trying-kept = ind-Step PA PS PB PT
    (λ x y h. tt)
    (λ x y h. subst (λ x. PS (roll-Statement x)) h (statement-step y))
    (λ x y h. subst (λ x. PB (roll-Branch x)) h (branch-step y))
    (λ x y h. subst (λ x. PT (roll-Step x)) h (step-step y))

all-kept : (xs : List Step) → map trying (map kept_step xs) ≡ map trying xs
all-kept [] = refl
all-kept (x ∷ xs) = λ i. trying-kept x i ∷ all-kept xs i

turns-of : (loop : Bool) (xs : List Step) → map (trying_in loop) xs ≡ each_in loop (map trying xs)
turns-of loop [] = refl
turns-of loop (x ∷ xs) = ap (λ ts. trying x loop ∷ ts) (turns-of loop xs)

pub trying-all-kept : (loop : Bool) (xs : List Step) (s : State) → trying_all loop (kept_block xs) s ≡ trying_all loop xs s
trying-all-kept loop xs s =
    ap (λ ts. in_turn ts s)
    (turns-of loop (kept_block xs) ∙ ap (each_in loop) (separated-same (map kept_step xs) ∙ all-kept xs) ∙ sym (turns-of loop xs))
