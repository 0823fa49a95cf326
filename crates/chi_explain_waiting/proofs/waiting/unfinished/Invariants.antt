use Rattle.std.proofs.Common.{◌≡◌}
use Rattle.chi_core.specs.Options.{numbers}
use Rattle.chi_explain_waiting.specs.Joins.{not_over}
use Rattle.chi_explain_waiting.proofs.waiting.unfinished.Given as goal

abbrev pub invariant-loop-pid : goal.invariant-loop-pid
invariant-loop-pid l = l.some.items ≡ not_over l.fn.configuration (numbers l.pid)
