use Rattle.std.proofs.Common.{◌≡◌, ◌++◌, drop}
use Rattle.chi_check_stat_lines.proofs.copies.+expr_copy.Given as goal

abbrev pub invariant-expr_copies-loop-e : goal.invariant-expr_copies-loop-e
invariant-expr_copies-loop-e l = l.es ≡ l.copies.items ++ drop l.e-index l.es
