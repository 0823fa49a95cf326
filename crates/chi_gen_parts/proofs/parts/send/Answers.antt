use Rattle.chi_code.specs.declared.instr.Instr.TheVariants as i
use Rattle.chi_gen_parts.proofs.AddedParts.{add_send, add_send_void, renamed}
use Rattle.chi_gen_parts.proofs.parts.send.Goals as goal

pub returns-in_ok-put-in-None : goal.returns-in_ok-put-in-None
returns-in_ok-put-in-None c =
    add_send_void c.args.within.now.slots.now c.args.within.now.names.now c.args.within.now.body c.args.target.now c.args.value.now c.args.code.now.items _ _ c.in-None.is c.in_ok-read.ensures (renamed (i.SendVoid c.args.within.now.body) _ _ _ _ c.in_ok-names-in-None.ensures c.in_ok-put-in-None.ensures)

pub returns-in_ok-put-in-Some : goal.returns-in_ok-put-in-Some
returns-in_ok-put-in-Some c =
    add_send c.args.within.now.slots.now c.args.within.now.names.now c.args.within.now.body c.args.target.now c.args.value.now c.in-Some.e c.args.code.now.items _ _ _ c.in-Some.is c.in_ok-read.ensures c.in_ok-expression-in-Some.ensures (renamed (i.Send c.args.within.now.body) _ _ _ _ c.in_ok-names-in-Some.ensures c.in_ok-put-in-Some.ensures)
