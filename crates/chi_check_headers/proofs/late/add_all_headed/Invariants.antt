use Rattle.std.proofs.Common.{◌≡◌, drop, map}
use Rattle.chi_check_headers.specs.Definitions.{with_all_headed}
use Rattle.chi_check_headers.proofs.late.add_all_headed.Given as goal

abbrev pub invariant-loop-item : goal.invariant-loop-item
invariant-loop-item l =
    with_all_headed l.all (map (λ item. item.definition) l.items) l.fn.headers l.fn.named ≡ with_all_headed l.all (map (λ item. item.definition) (drop l.item-index l.items)) l.others l.named
