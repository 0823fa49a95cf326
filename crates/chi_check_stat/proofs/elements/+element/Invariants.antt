use Rattle.std.proofs.Common.{◌≡◌, drop, map}
use Rattle.chi_check_types.specs.Faults.{first_of}
use Rattle.chi_check_stat_lines.specs.Stated.{in_turn, joined}
use Rattle.chi_check_stat.specs.Statements.{starting}
use Rattle.chi_check_stat.proofs.elements.+element.Given as goal

abbrev pub invariant-start_all-loop-element : goal.invariant-start_all-loop-element
invariant-start_all-loop-element l =
    let whole = in_turn (map (starting l.home) l.elements) l.fn.state in
    let rest = in_turn (map (starting l.home) (drop l.element-index l.elements)) l.state in
    record { next : whole.next ≡ rest.next; made : whole.made ≡ joined l.all rest.made; noted : first_of l.fn.kept whole.faults ≡ first_of l.kept rest.faults }
