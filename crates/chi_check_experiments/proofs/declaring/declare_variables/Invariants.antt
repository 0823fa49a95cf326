use Rattle.std.proofs.Common.{◌≡◌, drop, map}
use Rattle.chi_check_types.specs.Faults.{first_of}
use Rattle.chi_check_stat_lines.specs.Stated.{in_turn, joined}
use Rattle.chi_check_experiments.specs.Experiments.{variable_tried}
use Rattle.chi_check_experiments.proofs.declaring.declare_variables.Given as goal

abbrev pub invariant-loop-variable : goal.invariant-loop-variable
invariant-loop-variable l =
    let whole = in_turn (map (variable_tried l.line l.meant) l.variables) l.fn.state in
    let rest = in_turn (map (variable_tried l.line l.meant) (drop l.variable-index l.variables)) l.state in
    record { next : whole.next ≡ rest.next; made : whole.made ≡ joined l.all rest.made; noted : first_of l.fn.kept whole.faults ≡ first_of l.kept rest.faults }
