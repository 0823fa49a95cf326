use Rattle.chi_gen.proofs.AddedStatements.{add_return}
use Rattle.chi_gen.proofs.simple.give_back.Goals as goal

pub returns : goal.returns
returns c = add_return c.args.here.now.process c.args.here.now.slots.now c.args.here.now.near c.args.code.now.items c.args.line c.args.e.now _ _ _ c.in_ok-turn.ensures c.in_ok-expression.ensures c.in_ok-put.ensures
