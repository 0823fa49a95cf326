use Rattle.std.proofs.Common.{◌≡◌, ◌++◌, drop}
use Rattle.chi_explain_waiting.specs.Joins.{not_over}
use Rattle.chi_explain_waiting.proofs.joins.not_over.Given as goal

abbrev pub invariant-loop-pid : goal.invariant-loop-pid
invariant-loop-pid l = l.some.items ++ not_over l.fn.configuration (drop l.pid-index l.pids) ≡ not_over l.fn.configuration l.pids
