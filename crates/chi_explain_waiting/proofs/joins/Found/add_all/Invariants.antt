use Rattle.std.proofs.Common.{◌≡◌, length, take}
use Rattle.chi_explain_waiting.specs.Finding.{Adds, IsMarked}
use Rattle.chi_explain_waiting.specs.Joins.{with_numbers}
use Rattle.chi_explain_waiting.proofs.joins.Found.add_all.Given as goal

abbrev pub invariant-loop-pid : goal.invariant-loop-pid
invariant-loop-pid l =
    IsMarked l.self.numbers.items l.self.marks.items × (length l.self.marks.items ≡ length l.fn.self.marks.items)
    × Adds l.fn.self.numbers.items l.self.numbers.items (take l.pid-index l.pids)
    × (l.self.numbers.items ≡ with_numbers l.fn.self.numbers.items (take l.pid-index l.pids))
