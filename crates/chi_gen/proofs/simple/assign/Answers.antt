use Rattle.chi_gen.proofs.AddedStatements.{add_assign}
use Rattle.chi_gen.proofs.simple.assign.Goals as goal

pub returns : goal.returns
returns c =
    add_assign c.args.here.now.process c.args.here.now.slots.now c.args.here.now.near c.args.code.now.items c.args.line c.args.targets.now c.args.es.now c.as_slice-places.result.now _ _ _ _ _ _ c.as_slice-places.ensures.same
    c.in_ok-turn.ensures c.in_ok-expressions.ensures c.in_ok-spread.ensures c.in_ok-indexes.ensures c.in_ok-aims.ensures c.in_ok-put.ensures
