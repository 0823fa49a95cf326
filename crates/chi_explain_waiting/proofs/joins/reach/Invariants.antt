use Rattle.std.proofs.Common.{◌≡◌, length}
use Rattle.chi_explain_waiting.specs.Finding.{IsMarked, Reaches}
use Rattle.chi_explain_waiting.specs.Joins.{waited}
use Rattle.chi_explain_waiting.proofs.joins.reach.Given as goal

abbrev pub invariant-loop-at : goal.invariant-loop-at
invariant-loop-at l =
    IsMarked l.found.numbers.items l.found.marks.items × (length l.found.marks.items ≡ length l.fn.found.marks.items)
    × Reaches (waited l.fn.configuration) l.fn.from l.at l.fn.found.numbers.items l.found.numbers.items
