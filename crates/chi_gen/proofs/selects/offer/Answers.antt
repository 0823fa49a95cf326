use Rattle.chi_gen.proofs.AddedBlocks.{add_offer}
use Rattle.chi_gen.proofs.selects.offer.Goals as goal

pub returns : goal.returns
returns c =
    add_offer c.args.within.now.slots.now c.args.within.now.names.now c.args.test.now c.args.comm.now c.args.within.now.body c.args.end c.args.code.now.items _ _ c.requires.known
    c.in_ok-guard.ensures c.in_ok-communication.ensures
