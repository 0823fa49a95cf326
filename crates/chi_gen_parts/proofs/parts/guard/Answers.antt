use Rattle.chi_gen_parts.proofs.AddedParts.{add_no_guard, add_guard}
use Rattle.chi_gen_parts.proofs.parts.guard.Goals as goal

pub returns-in-None : goal.returns-in-None
returns-in-None c = add_no_guard c.args.end c.args.test.now c.args.code.now.items c.in-None.is

pub returns-in_ok-put-in-Some : goal.returns-in_ok-put-in-Some
returns-in_ok-put-in-Some c = add_guard c.args.end c.args.test.now c.in-Some.test c.args.code.now.items _ _ c.in-Some.is c.in_ok-expression-in-Some.ensures c.in_ok-put-in-Some.ensures
