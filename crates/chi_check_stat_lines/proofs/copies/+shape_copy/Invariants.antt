use Rattle.std.proofs.Common.{◌≡◌, ◌++◌, drop}
use Rattle.chi_check_stat_lines.proofs.copies.+shape_copy.Given as goal

abbrev pub invariant-shape_copies-loop-shape : goal.invariant-shape_copies-loop-shape
invariant-shape_copies-loop-shape l = l.shapes ≡ l.copies.items ++ drop l.shape-index l.shapes
