use Rattle.std.proofs.Common.{◌≡◌, map, drop}
use Rattle.std.specs.Cmp.Lexicographic.{slice_cmp}
use Rattle.chi_value.specs.Order.{order, against}
use Rattle.chi_value.proofs.ordering.+compare_any.Given as goal

abbrev pub invariant-compare_all-loop-value : goal.invariant-compare_all-loop-value
invariant-compare_all-loop-value l =
    slice_cmp against (map order l.fn.a) l.fn.b ≡ slice_cmp against (map order (drop l.value-index l.a)) l.others

abbrev pub invariant-compare_rows-loop-place : goal.invariant-compare_rows-loop-place
invariant-compare_rows-loop-place l =
    slice_cmp against (map order l.fn.a) l.fn.b ≡ slice_cmp against (map order (drop l.place l.a)) (drop l.place l.b)
