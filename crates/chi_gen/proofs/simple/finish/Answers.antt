use Rattle.chi_gen.proofs.AddedStatements.{add_finish}
use Rattle.chi_gen.proofs.simple.finish.Goals as goal

pub returns : goal.returns
returns c = add_finish c.args.here.now.process c.args.here.now.slots.now c.args.here.now.near c.args.code.now.items c.args.line _ c.args.es.now _ _ _ c.in_ok-number_of.ensures c.in_ok-turn.ensures c.in_ok-expressions.ensures c.in_ok-put.ensures
