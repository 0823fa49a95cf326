-- What the statements of experiments come to is the same without places, but for their lines: the induction over trees.
use Rattle.std.proofs.Common.{◌≡◌, Bool, List, [], ◌∷◌, map, refl, sym, ap, subst, ◌∙◌}
use Rattle.std.specs.Option.{option_map}
use Rattle.chi_tree.specs.declared.statement.Alternative.{Alternative, fold-Alternative}
use Rattle.chi_tree.specs.declared.statement.Branch.{Branch, Branch-F, roll-Branch, map-Branch, fold-roll-Branch}
use Rattle.chi_tree.specs.declared.statement.Statement.{Statement, Statement-F, roll-Statement, map-Statement, fold-roll-Statement}
use Rattle.chi_tree.specs.declared.statement.Statement.TheVariants as statement
use Rattle.chi_tree.specs.declared.statement.Step.{Step, Step-F, out-Step, roll-Step, map-Step, fold-roll-Step, fold_out-Step, ind-Step}
use Rattle.chi_tree.specs.View.{nowhere}
use Rattle.chi_tree_laws.specs.Unplaced.{unplaced_expr, unplaced_type}
use Rattle.chi_tree_laws.specs.UnplacedStatements.{unplaced_variable, unplaced_target, unplaced_walk, unplaced_communication, unplaced_element, alternative_without, statement_without, branch_without, step_without, unplaced_alternative, unplaced_statement, unplaced_branch, unplaced_step, unplaced_block}
use Rattle.chi_core.specs.declared.experiment.XBranch.{XBranch}
use Rattle.chi_core.specs.declared.experiment.XStat.{XStat}
use Rattle.chi_check.specs.Below.chi_check_stat_lines.specs.declared.state.State.{State}
use Rattle.chi_check.specs.Below.chi_check_stat_lines.specs.Stated.{in_turn}
use Rattle.chi_check.specs.Below.chi_check_stat_lines.specs.States.{Going}
use Rattle.chi_check.specs.Below.chi_check_experiments.specs.Experiments.{no_alternative, trial_step, trial_branch, trial_inner, stating_tried, trying, branch_tried, trying_in, trying_all}
use Rattle.chi_check_program_places.specs.Lineless.{lineless_xstat, lineless_xbranch}
use Rattle.chi_check_program_places.proofs.By.{stated_by, turn_by, in-turn-by}
use Rattle.chi_check_program_places.proofs.Blocks.{going_by}
use Rattle.chi_check_program_places.proofs.TrialBlocks.{unplaced_layer, statement-layer, branch-layer}

abbrev PA : Alternative → Type 0
PA x = Unit {0}

abbrev PS : Statement → Type 0
PS x = stating_tried (unplaced_statement x) ≡ going_by lineless_xstat (stating_tried x)

abbrev PB : Branch → Type 0
PB x = branch_tried (unplaced_branch x) ≡ going_by lineless_xbranch (branch_tried x)

abbrev PT : Step → Type 0
PT x = trying (unplaced_step x) ≡ going_by lineless_xstat (trying x)

abbrev XA : Type 0
XA = (x : Alternative) × PA x

abbrev XS : Type 0
XS = (x : Statement) × PS x

abbrev XB : Type 0
XB = (x : Branch) × PB x

abbrev XT : Type 0
XT = (x : Step) × PT x

-- ---- lists of parts

branches-such : (ys : List XB) → map branch_tried (map unplaced_branch (map (λ y. y.0) ys)) ≡ map (going_by lineless_xbranch) (map branch_tried (map (λ y. y.0) ys))
branches-such [] = refl
branches-such (y ∷ ys) = λ i. y.1 i ∷ branches-such ys i

steps-such : (ys : List XT) → map trying (map unplaced_step (map (λ y. y.0) ys)) ≡ map (going_by lineless_xstat) (map trying (map (λ y. y.0) ys))
steps-such [] = refl
steps-such (y ∷ ys) = λ i. y.1 i ∷ steps-such ys i

-- ---- the equations of the folds

abbrev untried : Alternative → Unit {0}
untried = fold-Alternative (Unit {0}) (Going XStat) (Going XBranch) (Going XStat) no_alternative trial_step trial_branch trial_inner

abbrev statement_of_parts : Statement-F Alternative Statement Branch Step → Going XStat
statement_of_parts o = trial_step (map-Statement Alternative Statement Branch Step (Unit {0}) (Going XStat) (Going XBranch) (Going XStat) untried stating_tried branch_tried trying o)

abbrev statement_parts : Statement-F XA XS XB XT → Statement-F Alternative Statement Branch Step
statement_parts y = map-Statement XA XS XB XT Alternative Statement Branch Step (λ y. y.0) (λ y. y.0) (λ y. y.0) (λ y. y.0) y

abbrev statement_unplaced : Statement-F Alternative Statement Branch Step → Statement
statement_unplaced o = statement_without (map-Statement Alternative Statement Branch Step Alternative Statement Branch Step unplaced_alternative unplaced_statement unplaced_branch unplaced_step o)

statement-rolled : (o : Statement-F Alternative Statement Branch Step) → stating_tried (roll-Statement o) ≡ statement_of_parts o
unfolding stating_tried trying branch_tried
statement-rolled o = fold-roll-Statement (Unit {0}) (Going XStat) (Going XBranch) (Going XStat) no_alternative trial_step trial_branch trial_inner o

statement-unrolled : (o : Statement-F Alternative Statement Branch Step) → unplaced_statement (roll-Statement o) ≡ statement_unplaced o
statement-unrolled o = fold-roll-Statement Alternative Statement Branch Step alternative_without statement_without branch_without step_without o

abbrev branch_of_parts : Branch-F Alternative Statement Branch Step → Going XBranch
branch_of_parts o = trial_branch (map-Branch Alternative Statement Branch Step (Unit {0}) (Going XStat) (Going XBranch) (Going XStat) untried stating_tried branch_tried trying o)

abbrev branch_parts : Branch-F XA XS XB XT → Branch-F Alternative Statement Branch Step
branch_parts y = map-Branch XA XS XB XT Alternative Statement Branch Step (λ y. y.0) (λ y. y.0) (λ y. y.0) (λ y. y.0) y

abbrev branch_unplaced : Branch-F Alternative Statement Branch Step → Branch
branch_unplaced o = branch_without (map-Branch Alternative Statement Branch Step Alternative Statement Branch Step unplaced_alternative unplaced_statement unplaced_branch unplaced_step o)

branch-rolled : (o : Branch-F Alternative Statement Branch Step) → branch_tried (roll-Branch o) ≡ branch_of_parts o
unfolding stating_tried trying branch_tried
branch-rolled o = fold-roll-Branch (Unit {0}) (Going XStat) (Going XBranch) (Going XStat) no_alternative trial_step trial_branch trial_inner o

branch-unrolled : (o : Branch-F Alternative Statement Branch Step) → unplaced_branch (roll-Branch o) ≡ branch_unplaced o
branch-unrolled o = fold-roll-Branch Alternative Statement Branch Step alternative_without statement_without branch_without step_without o

abbrev step_of_parts : Step-F Alternative Statement Branch Step → Going XStat
step_of_parts o = trial_inner (map-Step Alternative Statement Branch Step (Unit {0}) (Going XStat) (Going XBranch) (Going XStat) untried stating_tried branch_tried trying o)

abbrev step_parts : Step-F XA XS XB XT → Step-F Alternative Statement Branch Step
step_parts y = map-Step XA XS XB XT Alternative Statement Branch Step (λ y. y.0) (λ y. y.0) (λ y. y.0) (λ y. y.0) y

abbrev step_unplaced : Step-F Alternative Statement Branch Step → Step
step_unplaced o = step_without (map-Step Alternative Statement Branch Step Alternative Statement Branch Step unplaced_alternative unplaced_statement unplaced_branch unplaced_step o)

step-rolled : (o : Step-F Alternative Statement Branch Step) → trying (roll-Step o) ≡ step_of_parts o
unfolding stating_tried trying branch_tried
step-rolled o = fold-roll-Step (Unit {0}) (Going XStat) (Going XBranch) (Going XStat) no_alternative trial_step trial_branch trial_inner o

step-unrolled : (o : Step-F Alternative Statement Branch Step) → unplaced_step (roll-Step o) ≡ step_unplaced o
step-unrolled o = fold-roll-Step Alternative Statement Branch Step alternative_without statement_without branch_without step_without o

step-opened : (x : Step) → trying x ≡ step_of_parts (out-Step x)
unfolding stating_tried trying branch_tried
step-opened x = fold_out-Step (Unit {0}) (Going XStat) (Going XBranch) (Going XStat) no_alternative trial_step trial_branch trial_inner x

-- ---- each layer

-- as the trees of what it has without places come to
thence : (o : Statement-F Alternative Statement Branch Step) (l : Statement-F (Unit {0}) (Going XStat) (Going XBranch) (Going XStat)) {v : Statement} → roll-Statement o ≡ v
    → statement_of_parts o ≡ trial_step (unplaced_layer l) → stating_tried v ≡ going_by lineless_xstat (trial_step l)
thence o l r e = ap stating_tried (sym r) ∙ statement-rolled o ∙ e ∙ (λ i loop s. statement-layer l loop s i)

statement-such : (y : Statement-F XA XS XB XT) → stating_tried (statement_unplaced (statement_parts y)) ≡ going_by lineless_xstat (statement_of_parts (statement_parts y))
statement-such (Statement-F.Declare tree vs) =
    thence (Statement-F.Declare (unplaced_type tree) (map unplaced_variable vs)) (Statement-F.Declare tree vs) (statement.rolls-Declare (unplaced_type tree) (map unplaced_variable vs))
    refl
statement-such (Statement-F.Assign ts place es) =
    thence (Statement-F.Assign (map unplaced_target ts) nowhere (map unplaced_expr es)) (Statement-F.Assign ts place es) (statement.rolls-Assign (map unplaced_target ts) nowhere (map unplaced_expr es))
    refl
statement-such (Statement-F.Communicate c) =
    thence (Statement-F.Communicate (unplaced_communication c)) (Statement-F.Communicate c) (statement.rolls-Communicate (unplaced_communication c))
    refl
statement-such (Statement-F.Pass place) =
    thence (Statement-F.Pass nowhere) (Statement-F.Pass place) (statement.rolls-Pass nowhere)
    refl
statement-such (Statement-F.Break place) =
    thence (Statement-F.Break nowhere) (Statement-F.Break place) (statement.rolls-Break nowhere)
    refl
statement-such (Statement-F.Continue place) =
    thence (Statement-F.Continue nowhere) (Statement-F.Continue place) (statement.rolls-Continue nowhere)
    refl
statement-such (Statement-F.Select place xs) =
    ap stating_tried (sym (statement.rolls-Select nowhere (map unplaced_alternative (map (λ y. y.0) xs))))
    ∙ statement-rolled (Statement-F.Select nowhere (map unplaced_alternative (map (λ y. y.0) xs)))
    ∙ (λ i loop s. statement-layer (Statement-F.Select place (map untried (map (λ y. y.0) xs))) loop s i)
statement-such (Statement-F.If place xs ys) =
    thence (Statement-F.If nowhere (map unplaced_branch (map (λ y. y.0) xs)) (map unplaced_step (map (λ y. y.0) ys))) (Statement-F.If place (map branch_tried (map (λ y. y.0) xs)) (map trying (map (λ y. y.0) ys))) (statement.rolls-If nowhere (map unplaced_branch (map (λ y. y.0) xs)) (map unplaced_step (map (λ y. y.0) ys)))
    (λ i. trial_step (Statement-F.If nowhere (branches-such xs i) (steps-such ys i)))
statement-such (Statement-F.While place e xs) =
    thence (Statement-F.While nowhere (unplaced_expr e) (map unplaced_step (map (λ y. y.0) xs))) (Statement-F.While place e (map trying (map (λ y. y.0) xs))) (statement.rolls-While nowhere (unplaced_expr e) (map unplaced_step (map (λ y. y.0) xs)))
    (λ i. trial_step (Statement-F.While nowhere (unplaced_expr e) (steps-such xs i)))
statement-such (Statement-F.For place walk xs) =
    thence (Statement-F.For nowhere (unplaced_walk walk) (map unplaced_step (map (λ y. y.0) xs))) (Statement-F.For place walk (map trying (map (λ y. y.0) xs))) (statement.rolls-For nowhere (unplaced_walk walk) (map unplaced_step (map (λ y. y.0) xs)))
    (λ i. trial_step (Statement-F.For nowhere (unplaced_walk walk) (steps-such xs i)))
statement-such (Statement-F.Return place e) =
    thence (Statement-F.Return nowhere (unplaced_expr e)) (Statement-F.Return place e) (statement.rolls-Return nowhere (unplaced_expr e))
    refl
statement-such (Statement-F.Exit place e) =
    thence (Statement-F.Exit nowhere (option_map unplaced_expr e)) (Statement-F.Exit place e) (statement.rolls-Exit nowhere (option_map unplaced_expr e))
    refl
statement-such (Statement-F.Run place es) =
    thence (Statement-F.Run nowhere (map unplaced_element es)) (Statement-F.Run place es) (statement.rolls-Run nowhere (map unplaced_element es))
    refl
statement-such (Statement-F.Start place es) =
    thence (Statement-F.Start nowhere (map unplaced_element es)) (Statement-F.Start place es) (statement.rolls-Start nowhere (map unplaced_element es))
    refl
statement-such (Statement-F.Finish place es) =
    thence (Statement-F.Finish nowhere (map unplaced_expr es)) (Statement-F.Finish place es) (statement.rolls-Finish nowhere (map unplaced_expr es))
    refl
statement-such (Statement-F.Write place line text at es) =
    thence (Statement-F.Write nowhere line text nowhere (map unplaced_expr es)) (Statement-F.Write place line text at es) (statement.rolls-Write nowhere line text nowhere (map unplaced_expr es))
    refl

branch-such : (y : Branch-F XA XS XB XT) → branch_tried (branch_unplaced (branch_parts y)) ≡ going_by lineless_xbranch (branch_of_parts (branch_parts y))
branch-such y =
    branch-rolled (record { condition = unplaced_expr y.condition; block = map unplaced_step (map (λ y. y.0) y.block) })
    ∙ (λ i. trial_branch (record { condition = unplaced_expr y.condition; block = steps-such y.block i }))
    ∙ (λ i loop s. branch-layer y.condition (map trying (map (λ y. y.0) y.block)) loop s i)

step-such : (y : Step-F XA XS XB XT) → trying (step_unplaced (step_parts y)) ≡ going_by lineless_xstat (step_of_parts (step_parts y))
step-such y = step-opened (step_unplaced (step_parts y)) ∙ y.statement.1

-- ---- the induction

statement-step : (y : Statement-F XA XS XB XT) → PS (roll-Statement (statement_parts y))
statement-step y = ap stating_tried (statement-unrolled (statement_parts y)) ∙ statement-such y ∙ ap (going_by lineless_xstat) (sym (statement-rolled (statement_parts y)))

branch-step : (y : Branch-F XA XS XB XT) → PB (roll-Branch (branch_parts y))
branch-step y = ap branch_tried (branch-unrolled (branch_parts y)) ∙ branch-such y ∙ ap (going_by lineless_xbranch) (sym (branch-rolled (branch_parts y)))

step-step : (y : Step-F XA XS XB XT) → PT (roll-Step (step_parts y))
step-step y = ap trying (step-unrolled (step_parts y)) ∙ step-such y ∙ ap (going_by lineless_xstat) (sym (step-rolled (step_parts y)))

trying-by : (x : Step) → trying (unplaced_step x) ≡ going_by lineless_xstat (trying x)
trying-by = ind-Step PA PS PB PT
    (λ x y h. tt)
    (λ x y h. subst (λ x. PS (roll-Statement x)) h (statement-step y))
    (λ x y h. subst (λ x. PB (roll-Branch x)) h (branch-step y))
    (λ x y h. subst (λ x. PT (roll-Step x)) h (step-step y))

all-trying : (loop : Bool) (xs : List Step) → map (trying_in loop) (unplaced_block xs) ≡ map (turn_by lineless_xstat) (map (trying_in loop) xs)
all-trying loop [] = refl
all-trying loop (x ∷ xs) = λ i. trying-by x i loop ∷ all-trying loop xs i

pub trying-all-by : (loop : Bool) (xs : List Step) (s : State) → trying_all loop (unplaced_block xs) s ≡ stated_by (map lineless_xstat) (trying_all loop xs s)
trying-all-by loop xs s = ap (λ ts. in_turn ts s) (all-trying loop xs) ∙ in-turn-by lineless_xstat (map (trying_in loop) xs) s
