use Rattle.chi_plain_options.proofs.Keeping.{keeps-trans}
use Rattle.chi_plain_options.proofs.Listings.{reaches_below-all, reaches_below-more}
use Rattle.chi_plain_options.proofs.listing.reach_in.Goals as goal

pub loop-offer-preserved : goal.loop-offer-preserved
loop-offer-preserved c =
    let keeps = c.in_ok-reach_by.ensures.keeps in (
      keeps-trans c.args.reached.now.items c.loop-offer.reached.items c.reach_by.new.reached.items c.loop-offer.invariant.0 keeps,
      reaches_below-more c.args.parties.now c.loop-offer.offer-index c.args.offers.now c.offer-item.result c.loop-offer.reached.items
          c.reach_by.new.reached.items c.loop-offer.invariant.1 keeps c.loop-offer-test.true c.offer-item.is c.in_ok-reach_by.ensures.reached,
    )

pub returns-clause-reached : goal.returns-clause-reached
returns-clause-reached c =
    reaches_below-all c.args.parties.now c.loop-offer.offer-index c.args.offers.now c.loop-offer.reached.items c.loop-offer.invariant.1 c.loop-offer-test.false
