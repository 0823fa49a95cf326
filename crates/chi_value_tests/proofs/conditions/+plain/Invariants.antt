use Rattle.std.proofs.Common.{◌≡◌, map, drop}
use Rattle.std.specs.List.{list_all}
use Rattle.chi_value.specs.Plain.{is_plain, itself}
use Rattle.chi_value_tests.proofs.conditions.+plain.Given as goal

abbrev pub invariant-all_plain-loop-value : goal.invariant-all_plain-loop-value
invariant-all_plain-loop-value l = list_all itself (map is_plain l.fn.values) ≡ list_all itself (map is_plain (drop l.value-index l.values))

abbrev pub invariant-is_row_plain-loop-place : goal.invariant-is_row_plain-loop-place
invariant-is_row_plain-loop-place l = list_all itself (map is_plain l.fn.values) ≡ list_all itself (map is_plain (drop l.place l.values))
