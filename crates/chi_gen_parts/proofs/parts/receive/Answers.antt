use Rattle.chi_code.specs.declared.instr.Instr.TheVariants as i
use Rattle.chi_gen_parts.proofs.AddedParts.{add_receive, add_receive_void, renamed}
use Rattle.chi_gen_parts.proofs.parts.receive.Goals as goal

pub returns-in_ok-put-in-None : goal.returns-in_ok-put-in-None
returns-in_ok-put-in-None c =
    add_receive_void c.args.within.now.slots.now c.args.within.now.names.now c.args.within.now.body c.args.target.now c.args.slot.now c.args.code.now.items _ _ c.in-None.is c.in_ok-read.ensures (renamed (i.ReceiveVoid c.args.within.now.body) _ _ _ _ c.in_ok-names.ensures c.in_ok-put-in-None.ensures)

pub returns-in_ok-put-in-Some : goal.returns-in_ok-put-in-Some
returns-in_ok-put-in-Some c =
    add_receive c.args.within.now.slots.now c.args.within.now.names.now c.args.within.now.body c.args.target.now c.args.slot.now c.in-Some.slot c.args.code.now.items _ _ c.in-Some.is c.in_ok-read.ensures (renamed (i.Receive c.args.within.now.body c.in-Some.slot) _ _ _ _ c.in_ok-names.ensures c.in_ok-put-in-Some.ensures)
