use Rattle.std.proofs.Common.{◌≡◌, ◌++◌, option_map}
use Rattle.std.specs.Vec.Iter.{into_iter_items, into_iter_len}
use Rattle.chi_sets.specs.Dictionaries.{entries_of}
use Rattle.chi_ops.proofs.building.entries_of.Given as goal

abbrev pub decreases-loop-key : goal.decreases-loop-key
decreases-loop-key l = into_iter_len l.rest

abbrev pub invariant-loop-key : goal.invariant-loop-key
invariant-loop-key l = option_map (λ more. l.entries.items ++ more) (entries_of (into_iter_items l.rest)) ≡ entries_of l.fn.parts.items
