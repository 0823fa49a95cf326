use Rattle.std.proofs.Common.{◌≡◌, ◌++◌, drop}
use Rattle.chi_sets.specs.Dictionaries.{minus_keys}
use Rattle.chi_sets.proofs.merging.minus_keys.Given as goal

abbrev pub invariant-loop-entry : goal.invariant-loop-entry
invariant-loop-entry l = l.kept.items ++ minus_keys (drop l.entry-index l.entries) l.removed ≡ minus_keys l.fn.entries l.fn.removed
