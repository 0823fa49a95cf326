use Rattle.std.proofs.Common.{◌≡◌, drop}
use Rattle.chi_check_types.specs.Faults.{first_of}
use Rattle.chi_check_stat_lines.specs.Stated.{in_turn, joined}
use Rattle.chi_check.specs.Bodies.{formals_bound}
use Rattle.chi_check.proofs.bodies.bind_formals.Given as goal

abbrev pub invariant-loop-formal : goal.invariant-loop-formal
invariant-loop-formal l =
    let whole = in_turn (formals_bound l.formals l.fn.types) l.fn.state in
    let rest = in_turn (formals_bound (drop l.formal-index l.formals) l.others) l.state in
    record { next : whole.next ≡ rest.next; made : whole.made ≡ joined l.all rest.made; noted : first_of l.fn.kept whole.faults ≡ first_of l.kept rest.faults }
