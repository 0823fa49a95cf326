use Rattle.std.proofs.Common.{◌≡◌, map, drop}
use Rattle.chi_explain_counts.specs.Found.{first_found}
use Rattle.chi_explain_counts.specs.Programs.{counted_at, counted_in_item}
use Rattle.chi_explain_counts.proofs.definitions.counted_at.Given as goal

abbrev pub invariant-loop-item : goal.invariant-loop-item
invariant-loop-item l = counted_at l.place l.tree ≡ first_found (map (counted_in_item l.place) (drop l.item-index l.item-items))
