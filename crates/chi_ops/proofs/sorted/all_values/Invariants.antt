use Rattle.std.proofs.Common.{◌≡◌, ◌++◌, drop}
use Rattle.chi_sets.specs.Dictionaries.{values}
use Rattle.chi_ops.proofs.sorted.all_values.Given as goal

abbrev pub invariant-loop-entry : goal.invariant-loop-entry
invariant-loop-entry l = l.copies.items ++ values (drop l.entry-index l.entries) ≡ values l.entries
