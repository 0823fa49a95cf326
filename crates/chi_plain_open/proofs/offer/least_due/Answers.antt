use Rattle.chi_plain_open.specs.Offered.{due_of}
use Rattle.chi_plain_open.proofs.Times.{least-turn}
use Rattle.chi_plain_open.proofs.offer.least_due.Goals as goal

pub loop-offer-preserved : goal.loop-offer-preserved
loop-offer-preserved c =
    least-turn due_of _ _ _ _ c.args.offers.now c.loop-offer.offer-index c.offer-item.result c.loop-offer-test.true c.offer-item.is
    c.due.ensures c.sooner-least.ensures c.loop-offer.invariant
