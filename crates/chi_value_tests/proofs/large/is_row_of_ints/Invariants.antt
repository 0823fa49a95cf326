use Rattle.std.proofs.Common.{◌≡◌, drop}
use Rattle.std.specs.List.{list_all}
use Rattle.chi_ops.specs.Kinds.{is_int}
use Rattle.chi_value_tests.proofs.large.is_row_of_ints.Given as goal

abbrev pub invariant-loop-place : goal.invariant-loop-place
invariant-loop-place l = list_all is_int l.fn.values ≡ list_all is_int (drop l.place l.values)
