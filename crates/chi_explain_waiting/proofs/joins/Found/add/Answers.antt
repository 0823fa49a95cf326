use Rattle.chi_explain_waiting.proofs.Findings.{adds_has}
use Rattle.chi_explain_waiting.proofs.joins.Found.add.Goals as goal

pub returns-then-has-clause-adds : goal.returns-then-has-clause-adds
returns-then-has-clause-adds c = adds_has c.args.self.now.numbers.items c.args.pid c.has.result c.has.ensures c.if-has.true
