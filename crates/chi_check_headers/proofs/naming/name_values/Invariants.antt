use Rattle.std.proofs.Common.{◌≡◌, drop}
use Rattle.chi_check_types.specs.Faults.{first_of}
use Rattle.chi_check_stat_lines.specs.Stated.{in_turn, joined}
use Rattle.chi_check_headers.specs.Definitions.{values_from}
use Rattle.chi_check_headers.proofs.naming.name_values.Given as goal

abbrev pub invariant-loop-value : goal.invariant-loop-value
invariant-loop-value l =
    let whole = in_turn (values_from l.enumeration 0 l.values) l.fn.sketch in
    let rest = in_turn (values_from l.enumeration l.position (drop l.value-index l.values)) l.sketch in
    record { next : whole.next ≡ rest.next; made : whole.made ≡ joined l.all rest.made; noted : first_of l.fn.kept whole.faults ≡ first_of l.kept rest.faults }
