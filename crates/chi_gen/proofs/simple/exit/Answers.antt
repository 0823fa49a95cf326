use Rattle.chi_gen.proofs.AddedStatements.{add_exit, add_exit_with}
use Rattle.chi_gen.proofs.simple.exit.Goals as goal

pub returns-in_ok-put-in-None : goal.returns-in_ok-put-in-None
returns-in_ok-put-in-None c = add_exit c.args.here.now.process c.args.here.now.slots.now c.args.here.now.near c.args.code.now.items c.args.line c.args.value.now _ _ c.in-None.is c.in_ok-turn.ensures c.in_ok-put-in-None.ensures

pub returns-in_ok-put-in-Some : goal.returns-in_ok-put-in-Some
returns-in_ok-put-in-Some c = add_exit_with c.args.here.now.process c.args.here.now.slots.now c.args.here.now.near c.args.code.now.items c.args.line c.args.value.now c.in-Some.e _ _ _ c.in-Some.is c.in_ok-turn.ensures c.in_ok-expression-in-Some.ensures c.in_ok-put-in-Some.ensures
