use Rattle.std.proofs.Common.{◌≡◌, drop, map}
use Rattle.chi_check_headers.specs.Definitions.{with_all_late}
use Rattle.chi_check_headers.proofs.late.add_all_late.Given as goal

abbrev pub invariant-loop-item : goal.invariant-loop-item
invariant-loop-item l = with_all_late l.all l.fn.scope (map (λ item. item.definition) l.items) ≡ with_all_late l.all l.scope (map (λ item. item.definition) (drop l.item-index l.items))
