use Rattle.std.proofs.Common.{◌≡◌, drop}
use Rattle.chi_check_types.specs.Faults.{first_of}
use Rattle.chi_check_stat_lines.specs.States.{bindings}
use Rattle.chi_check_stat_lines.specs.Stated.{in_turn, joined}
use Rattle.chi_check_stat_lines.proofs.names.bind_all.Given as goal

abbrev pub invariant-loop-name : goal.invariant-loop-name
invariant-loop-name l =
    let whole = in_turn (bindings l.binder l.names l.fn.types) l.fn.state in
    let rest = in_turn (bindings l.binder (drop l.name-index l.names) l.others) l.state in
    record { next : whole.next ≡ rest.next; made : whole.made ≡ joined l.all rest.made; noted : first_of l.fn.kept whole.faults ≡ first_of l.kept rest.faults }
