use Rattle.chi_machine_told.proofs.Sent.{channel_there, channel_past}
use Rattle.chi_machine_told.proofs.sending.channel_in.Goals as goal

pub returns-in-Some : goal.returns-in-Some
returns-in-Some c =
    channel_there c.args.opened.now c.offers.result.now c.args.number c.offers.ensures.offers c.in-Some.offer.now c.channel_by.result
    c.in-Some.ensures.lookup.3.0 c.in-Some.ensures.lookup.1 c.channel_by.ensures

pub returns-in-None : goal.returns-in-None
returns-in-None c = channel_past c.args.opened.now c.offers.result.now c.args.number c.offers.ensures.offers c.in-None.ensures.lookup.3
