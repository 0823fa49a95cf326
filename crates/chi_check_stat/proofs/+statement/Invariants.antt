use Rattle.std.proofs.Common.{◌≡◌, drop, map}
use Rattle.chi_check_types.specs.Faults.{first_of}
use Rattle.chi_check_stat_lines.specs.Stated.{in_turn, joined}
use Rattle.chi_check_stat.specs.Statements.{stepping_in, branching_in, offering_in}
use Rattle.chi_check_stat.proofs.+statement.Given as goal

abbrev pub invariant-statements::check_all-loop-step : goal.invariant-statements::check_all-loop-step
invariant-statements::check_all-loop-step l =
    let whole = in_turn (map (stepping_in l.home l.loops) l.steps) l.fn.state in
    let rest = in_turn (map (stepping_in l.home l.loops) (drop l.step-index l.steps)) l.state in
    record { next : whole.next ≡ rest.next; made : whole.made ≡ joined l.all rest.made; noted : first_of l.fn.kept whole.faults ≡ first_of l.kept rest.faults }

abbrev pub invariant-statements::check_branches-loop-branch : goal.invariant-statements::check_branches-loop-branch
invariant-statements::check_branches-loop-branch l =
    let whole = in_turn (map (branching_in l.home l.loops) l.branches) l.fn.state in
    let rest = in_turn (map (branching_in l.home l.loops) (drop l.branch-index l.branches)) l.state in
    record { next : whole.next ≡ rest.next; made : whole.made ≡ joined l.all rest.made; noted : first_of l.fn.kept whole.faults ≡ first_of l.kept rest.faults }

abbrev pub invariant-alternatives::check_alternatives-loop-alternative : goal.invariant-alternatives::check_alternatives-loop-alternative
invariant-alternatives::check_alternatives-loop-alternative l =
    let whole = in_turn (map (offering_in l.home l.loops) l.alternatives) l.fn.state in
    let rest = in_turn (map (offering_in l.home l.loops) (drop l.alternative-index l.alternatives)) l.state in
    record { next : whole.next ≡ rest.next; made : whole.made ≡ joined l.all rest.made; noted : first_of l.fn.kept whole.faults ≡ first_of l.kept rest.faults }
