use Rattle.std.proofs.Common.{◌≡◌, ◌++◌}
use Rattle.chi_check_stat_lines.specs.Lines.{placed}
use Rattle.chi_check_stat_lines.proofs.lines.placed.Given as goal

abbrev pub invariant-loop-value : goal.invariant-loop-value
invariant-loop-value l = placed l.fn.es l.fn.made ≡ l.all.items ++ placed l.others l.value-iterator.rest.items
