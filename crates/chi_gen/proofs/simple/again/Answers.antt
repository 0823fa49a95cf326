use Rattle.chi_gen.proofs.AddedStatements.{add_continue}
use Rattle.chi_gen.proofs.Sounding.{none_inside}
use Rattle.chi_gen.proofs.simple.again.Goals as goal

pub returns : goal.returns
returns c = add_continue c.args.here.now.process c.args.here.now.slots.now c.args.here.now.near c.args.code.now.items c.args.line c.in-Some.near _ _ c.in-Some.is c.in_ok-turn-in-Some.ensures c.in_ok-put-in-Some.ensures

pub unreachable-requires : goal.unreachable-requires
unreachable-requires c = none_inside c.args.here.now.near c.requires c.in-None.is
