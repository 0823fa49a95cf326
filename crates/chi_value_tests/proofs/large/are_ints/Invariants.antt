use Rattle.std.proofs.Common.{◌≡◌, drop}
use Rattle.std.specs.List.{list_all}
use Rattle.chi_ops.specs.Kinds.{is_int}
use Rattle.chi_value_tests.proofs.large.are_ints.Given as goal

abbrev pub invariant-loop-value : goal.invariant-loop-value
invariant-loop-value l = list_all is_int l.fn.values ≡ list_all is_int (drop l.value-index l.values)
