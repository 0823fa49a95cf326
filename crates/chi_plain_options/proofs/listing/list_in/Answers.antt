use Rattle.chi_plain_options.proofs.Listings.{parties-trans, party_below-all, party_below-more}
use Rattle.chi_plain_options.proofs.listing.list_in.Goals as goal

pub loop-offer-preserved : goal.loop-offer-preserved
loop-offer-preserved c =
    let keeps = c.in_ok-list_by.ensures.keeps in (
      parties-trans c.args.parties.now c.loop-offer.parties c.list_by.new.parties c.loop-offer.invariant.0 keeps,
      party_below-more c.loop-offer.parties c.list_by.new.parties c.args.pid c.loop-offer.offer-index c.args.offers.now c.offer-item.result
          c.loop-offer.invariant.1 keeps c.loop-offer-test.true c.offer-item.is c.in_ok-list_by.ensures.listed,
    )

pub returns-clause-listed : goal.returns-clause-listed
returns-clause-listed c =
    party_below-all c.loop-offer.parties c.args.pid c.loop-offer.offer-index c.args.offers.now c.loop-offer.invariant.1 c.loop-offer-test.false
