use Rattle.std.proofs.Common.{◌≡◌, drop}
use Rattle.chi_explain_counts.specs.Programs.{parameters_of}
use Rattle.chi_explain_counts.proofs.definitions.parameters_of.Given as goal

abbrev pub invariant-loop-item : goal.invariant-loop-item
invariant-loop-item l = parameters_of l.wanted l.fn.items ≡ parameters_of l.wanted (drop l.item-index l.items)
