use Rattle.chi_code.specs.declared.instr.Instr.TheVariants as i
use Rattle.chi_gen_parts.proofs.AddedParts.{add_delay, renamed}
use Rattle.chi_gen_parts.proofs.parts.delay.Goals as goal

pub returns : goal.returns
returns c = add_delay c.args.within.now.slots.now c.args.within.now.names.now c.args.within.now.body c.args.e.now c.args.code.now.items _ _ c.in_ok-expression.ensures (renamed (i.Delay c.args.within.now.body) _ _ _ _ c.in_ok-names.ensures c.in_ok-put.ensures)
