use Rattle.std.proofs.Common.{arith}
use Rattle.chi_explain_waiting.proofs.Findings.{has_mark}
use Rattle.chi_explain_waiting.proofs.joins.Found.has.Goals as goal

pub returns-then-at-len : goal.returns-then-at-len
returns-then-at-len c =
    let found = c.args.self.now in
    has_mark found.numbers.items found.marks.items c.args.pid c.index.result.now c.requires (omega arith) c.index.ensures
