use Rattle.std.proofs.Common.{◌≡◌, drop, map}
use Rattle.chi_check_types.specs.Faults.{first_of}
use Rattle.chi_check_stat_lines.specs.Stated.{in_turn, joined}
use Rattle.chi_check.specs.Bodies.{experiments_of}
use Rattle.chi_check.proofs.experiments.define_experiments.Given as goal

abbrev pub invariant-loop-item : goal.invariant-loop-item
invariant-loop-item l =
    let whole = in_turn (experiments_of (map (λ item. item.definition) l.items)) l.fn.names in
    let rest = in_turn (experiments_of (map (λ item. item.definition) (drop l.item-index l.items))) l.scope in
    record { next : whole.next ≡ rest.next; made : whole.made ≡ joined l.all rest.made; noted : first_of l.fn.kept whole.faults ≡ first_of l.kept rest.faults }
