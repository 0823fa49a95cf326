use Rattle.std.proofs.Common.{◌≡◌, map, drop}
use Rattle.std.specs.List.{list_all}
use Rattle.chi_value.specs.Plain.{itself, within}
use Rattle.chi_value_tests.proofs.conditions.+within.Given as goal

abbrev pub invariant-all_within-loop-value : goal.invariant-all_within-loop-value
invariant-all_within-loop-value l =
    list_all itself (map (within l.names.kinds) l.fn.values) ≡ list_all itself (map (within l.names.kinds) (drop l.value-index l.values))

abbrev pub invariant-is_row_within-loop-place : goal.invariant-is_row_within-loop-place
invariant-is_row_within-loop-place l =
    list_all itself (map (within l.names.kinds) l.fn.values) ≡ list_all itself (map (within l.names.kinds) (drop l.place l.values))
