use Rattle.std.proofs.Common.{◌≡◌, length}
use Rattle.chi_explain_waiting.specs.Finding.{IsMarked}
use Rattle.chi_explain_waiting.specs.Joins.{waited}
use Rattle.chi_explain_waiting.proofs.Findings.{Round}
use Rattle.chi_explain_waiting.proofs.joins.is_in_ring.Given as goal

abbrev pub invariant-loop-round : goal.invariant-loop-round
invariant-loop-round l =
    IsMarked l.found.numbers.items l.found.marks.items × (length l.found.marks.items ≡ length l.fn.configuration.instances)
    × Round (waited l.fn.configuration) l.fn.pid l._round l.from l.found.numbers.items
