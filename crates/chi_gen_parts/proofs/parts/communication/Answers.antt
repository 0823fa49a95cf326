use Rattle.chi_gen_parts.proofs.Sounding.{sound_send, sound_receive}
use Rattle.chi_gen_parts.proofs.parts.communication.Goals as goal

pub send-requires : goal.send-requires
send-requires c = sound_send c.args.within.now.slots.now c.args.comm.now _ _ c.requires c.in-Send.is

pub receive-requires : goal.receive-requires
receive-requires c = sound_receive c.args.within.now.slots.now c.args.comm.now _ _ c.requires c.in-Receive.is
