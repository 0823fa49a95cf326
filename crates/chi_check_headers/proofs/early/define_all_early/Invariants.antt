use Rattle.std.proofs.Common.{◌≡◌, drop, map}
use Rattle.chi_check_types.specs.Faults.{first_of}
use Rattle.chi_check_stat_lines.specs.Stated.{in_turn, joined}
use Rattle.chi_check_headers.specs.Definitions.{early_defined}
use Rattle.chi_check_headers.proofs.early.define_all_early.Given as goal

abbrev pub invariant-loop-item : goal.invariant-loop-item
invariant-loop-item l =
    let whole = in_turn (map (early_defined l.all) (map (λ item. item.definition) l.items)) l.fn.early in
    let rest = in_turn (map (early_defined l.all) (map (λ item. item.definition) (drop l.item-index l.items))) l.early in
    record { next : whole.next ≡ rest.next; made : whole.made ≡ joined l.made_so_far rest.made; noted : first_of l.fn.kept whole.faults ≡ first_of l.kept rest.faults }
