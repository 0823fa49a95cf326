use Rattle.std.proofs.Common.{◌≡◌, ◌++◌, drop}
use Rattle.chi_sets.specs.Dictionaries.{keys}
use Rattle.chi_ops.proofs.sorted.all_keys.Given as goal

abbrev pub invariant-loop-entry : goal.invariant-loop-entry
invariant-loop-entry l = l.copies.items ++ keys (drop l.entry-index l.entries) ≡ keys l.entries
