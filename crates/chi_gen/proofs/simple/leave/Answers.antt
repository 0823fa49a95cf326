use Rattle.chi_gen.proofs.AddedStatements.{add_break, add_leave}
use Rattle.chi_gen.proofs.Sounding.{none_inside}
use Rattle.chi_gen.proofs.simple.leave.Goals as goal

pub returns-in_ok-put-in-Some-2 : goal.returns-in_ok-put-in-Some-2
returns-in_ok-put-in-Some-2 c = add_leave c.args.here.now.process c.args.here.now.slots.now c.args.here.now.near c.args.code.now.items c.args.line c.in-Some.near _ _ _ c.in-Some.is c.if-near.true c.in_ok-turn-in-Some.ensures c.in_ok-put-in-Some.ensures c.in_ok-put-in-Some-2.ensures

pub returns-in_ok-put-in-Some-3 : goal.returns-in_ok-put-in-Some-3
returns-in_ok-put-in-Some-3 c = add_break c.args.here.now.process c.args.here.now.slots.now c.args.here.now.near c.args.code.now.items c.args.line c.in-Some.near _ _ c.in-Some.is c.if-near.false c.in_ok-turn-in-Some.ensures c.in_ok-put-in-Some-3.ensures

pub unreachable-requires : goal.unreachable-requires
unreachable-requires c = none_inside c.args.here.now.near c.requires c.in-None.is
