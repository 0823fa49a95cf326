use Rattle.std.proofs.Common.{refl}
use Rattle.chi_machine.proofs.Meetings.{pair_may, pair_next, pair_took}
use Rattle.chi_machine.proofs.world.World.meet.Goals as goal

pub take_offer-requires-clause-may : goal.take_offer-requires-clause-may
take_offer-requires-clause-may c =
    pair_may c.args.code.now c.args.self.now c.requires.kept c.args.left c.args.sender.pid c.args.sender.alternative c.args.receiver.pid c.args.receiver.alternative c.requires.may

pub take_offer-requires-2-clause-may : goal.take_offer-requires-2-clause-may
take_offer-requires-2-clause-may c =
    pair_next c.args.code.now c.args.self.now c.requires.kept c.args.left c.args.sender.pid c.args.sender.alternative c.args.receiver.pid c.args.receiver.alternative c.requires.may _ _
    c.in_ok-sent.ensures.resumed c.in_ok-sent.ensures.sent

pub returns : goal.returns
returns c =
    pair_took c.args.code.now c.args.self.now c.requires.kept c.args.left c.args.sender.pid c.args.sender.alternative c.args.receiver.pid c.args.receiver.alternative c.requires.may _ _
    c.in_ok-sent.ensures.resumed c.in_ok-sent.ensures.sent _ c.in_ok-take_offer.ensures.kept refl c.in_ok-take_offer.ensures.resumed
