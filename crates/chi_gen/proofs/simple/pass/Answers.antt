use Rattle.chi_gen.proofs.AddedStatements.{add_pass}
use Rattle.chi_gen.proofs.simple.pass.Goals as goal

pub returns : goal.returns
returns c = add_pass c.args.here.now.process c.args.here.now.slots.now c.args.here.now.near c.args.code.now.items c.args.line _ c.in_ok-turn.ensures
