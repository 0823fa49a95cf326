use Rattle.chi_gen.proofs.AddedStatements.{add_start}
use Rattle.chi_gen.proofs.simple.start.Goals as goal

pub returns : goal.returns
returns c = add_start c.args.here.now.process c.args.here.now.slots.now c.args.here.now.near c.args.code.now.items c.args.line c.args.xs.now _ _ c.in_ok-turn.ensures c.in_ok-all_elements.ensures
