use Rattle.chi_gen_parts.proofs.AddedTargets.{add_read}
use Rattle.chi_gen_parts.proofs.Sounding.{slot_there, leads_at}
use Rattle.chi_gen_parts.proofs.targets.read.Goals as goal

pub type_of-ty-requires : goal.type_of-ty-requires
type_of-ty-requires c = slot_there c.args.slots.now c.args.target.now c.requires

pub into-requires : goal.into-requires
into-requires c = leads_at c.args.slots.now c.args.target.now c.type_of-ty.result.now c.as_slice.result.now c.requires c.type_of-ty.ensures c.as_slice.ensures.same

pub returns : goal.returns
returns c =
    add_read c.args.slots.now c.args.target.now c.type_of-ty.result.now c.as_slice.result.now c.args.code.now.items _ _ c.type_of-ty.ensures c.as_slice.ensures.same c.in_ok-put.ensures c.in_ok-into.ensures
