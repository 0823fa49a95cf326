use Rattle.std.proofs.Common.{◌≡◌, ◌∷◌, drop}
use Rattle.chi_sets.specs.Sets.{is_ascending}
use Rattle.chi_value_tests.proofs.large.is_ascending.Given as goal

abbrev pub invariant-loop-item : goal.invariant-loop-item
invariant-loop-item l = is_ascending l.fn.items ≡ is_ascending (l.before ∷ drop l.item-index l.rest)
