use Rattle.chi_gen.proofs.AddedStatements.{add_declare}
use Rattle.chi_gen.proofs.simple.declare.Goals as goal

pub returns : goal.returns
returns c = add_declare c.args.here.now.process c.args.here.now.slots.now c.args.here.now.near c.args.code.now.items c.args.line c.args.slot c.args.e.now _ _ _ c.in_ok-turn.ensures c.in_ok-expression.ensures c.in_ok-put.ensures
