use Rattle.chi_gen.proofs.AddedStatements.{add_write}
use Rattle.chi_gen.proofs.simple.write.Goals as goal

pub returns : goal.returns
returns c = add_write c.args.here.now.process c.args.here.now.slots.now c.args.here.now.near c.args.code.now.items c.args.line c.args.pieces.now _ c.args.es.now _ _ _ c.in_ok-pieces_copy.ensures c.in_ok-turn.ensures c.in_ok-expressions.ensures c.in_ok-put.ensures
