-- Private to proofs. What each construct of an experiment is, by its outermost layer.
use Rattle.std.proofs.Common.{◌≡◌, Bool, map, Option, Some, None, refl, ap, ◌∙◌}
use Rattle.std.specs.Prelude.{option_map}
use Rattle.chi_tree.specs.declared.statement.Alternative.{Alternative, fold-Alternative}
use Rattle.chi_tree.specs.declared.statement.Branch.{Branch, out-Branch, fold_out-Branch}
use Rattle.chi_tree.specs.declared.statement.Statement.{Statement, Statement-F, map-Statement, out-Statement, fold_out-Statement}
use Rattle.chi_tree.specs.declared.statement.Step.{Step, out-Step, fold_out-Step}
use Rattle.chi_core.specs.declared.experiment.XBranch.{XBranch}
use Rattle.chi_core.specs.declared.experiment.XStat.{XStat}
use Rattle.chi_core.specs.declared.experiment.XStat.TheVariants as trial
use Rattle.chi_core.specs.declared.statement.CStat.{CStat}
use Rattle.chi_check_stat_lines.specs.declared.state.State.{State}
use Rattle.chi_check_stat_lines.specs.Stated.{one}
use Rattle.chi_check_stat_lines.specs.States.{Going}
use Rattle.chi_check_experiments.specs.Experiments.{no_alternative, trial_step, trial_branch, trial_inner, stating_tried, trying, branch_tried}

-- an alternative comes to nothing
abbrev untried : Alternative → Unit {0}
untried = fold-Alternative (Unit {0}) (Going XStat) (Going XBranch) (Going XStat) no_alternative trial_step trial_branch trial_inner

pub trial_is : (x : Statement) (o : Statement-F Alternative Statement Branch Step) (loop : Bool) (s : State) → out-Statement x ≡ o
    → stating_tried x loop s ≡ trial_step (map-Statement Alternative Statement Branch Step (Unit {0}) (Going XStat) (Going XBranch) (Going XStat) untried stating_tried branch_tried trying o) loop s
unfolding stating_tried trying branch_tried
trial_is x o loop s h = ap (λ (g : Going XStat). g loop s) (fold_out-Statement (Unit {0}) (Going XStat) (Going XBranch) (Going XStat) no_alternative trial_step trial_branch trial_inner x
    ∙ ap (λ o. trial_step (map-Statement Alternative Statement Branch Step (Unit {0}) (Going XStat) (Going XBranch) (Going XStat) untried stating_tried branch_tried trying o)) h)

pub branch_is : (x : Branch) (loop : Bool) (s : State) → branch_tried x loop s ≡ trial_branch (record { condition = (out-Branch x).condition; block = map trying (out-Branch x).block }) loop s
unfolding stating_tried trying branch_tried
branch_is x loop s = ap (λ (g : Going XBranch). g loop s) (fold_out-Branch (Unit {0}) (Going XStat) (Going XBranch) (Going XStat) no_alternative trial_step trial_branch trial_inner x)

-- a step is its statement
pub step_is : (x : Step) (loop : Bool) (s : State) → trying x loop s ≡ stating_tried (out-Step x).statement loop s
unfolding stating_tried trying branch_tried
step_is x loop s = ap (λ (g : Going XStat). g loop s) (fold_out-Step (Unit {0}) (Going XStat) (Going XBranch) (Going XStat) no_alternative trial_step trial_branch trial_inner x)

-- one statement as that of an experiment
pub one_lined : (m : Option CStat) → option_map (map trial.Line) (one m) ≡ one (option_map trial.Line m)
one_lined None = refl
one_lined (Some s) = refl
