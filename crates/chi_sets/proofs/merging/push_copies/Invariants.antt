use Rattle.std.proofs.Common.{◌≡◌, ◌++◌, take}
use Rattle.chi_sets.proofs.merging.push_copies.Given as goal

abbrev pub invariant-loop-value : goal.invariant-loop-value
invariant-loop-value l = l.items.items ≡ l.fn.items.items ++ take l.value-index l.values
