use Rattle.std.proofs.Common.{refl}
use Rattle.chi_machine.proofs.Meetings.{wake_may, wake_took}
use Rattle.chi_machine.proofs.world.World.wake.Goals as goal

pub take_offer-requires-clause-may : goal.take_offer-requires-clause-may
take_offer-requires-clause-may c = wake_may c.args.code.now c.args.self.now c.requires.kept c.args.left c.args.p c.args.a c.requires.may

pub returns : goal.returns
returns c =
    wake_took c.args.code.now c.args.self.now c.requires.kept c.args.left c.args.p c.args.a c.requires.may _ c.in_ok-take_offer.ensures.kept refl c.in_ok-take_offer.ensures.resumed
