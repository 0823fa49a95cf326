use Rattle.std.proofs.Common.{◌≡◌, drop, map}
use Rattle.chi_check_types.specs.Faults.{first_of}
use Rattle.chi_check_stat_lines.specs.Stated.{in_turn, joined}
use Rattle.chi_check_experiments.specs.Experiments.{trying_in, branch_tried_in}
use Rattle.chi_check_experiments.proofs.statements.+trial.Given as goal

abbrev pub invariant-check_trials-loop-step : goal.invariant-check_trials-loop-step
invariant-check_trials-loop-step l =
    let whole = in_turn (map (trying_in l.loops) l.steps) l.fn.state in
    let rest = in_turn (map (trying_in l.loops) (drop l.step-index l.steps)) l.state in
    record { next : whole.next ≡ rest.next; made : whole.made ≡ joined l.all rest.made; noted : first_of l.fn.kept whole.faults ≡ first_of l.kept rest.faults }

abbrev pub invariant-check_branches-loop-branch : goal.invariant-check_branches-loop-branch
invariant-check_branches-loop-branch l =
    let whole = in_turn (map (branch_tried_in l.loops) l.branches) l.fn.state in
    let rest = in_turn (map (branch_tried_in l.loops) (drop l.branch-index l.branches)) l.state in
    record { next : whole.next ≡ rest.next; made : whole.made ≡ joined l.all rest.made; noted : first_of l.fn.kept whole.faults ≡ first_of l.kept rest.faults }
