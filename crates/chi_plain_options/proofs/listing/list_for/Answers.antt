use Rattle.std.proofs.Common.{refl}
use Rattle.chi_plain_options.proofs.Listings.{listed_for_below-all, listed_for_below-more, lists-trans}
use Rattle.chi_plain_options.proofs.listing.list_for.Goals as goal

pub loop-other-preserved : goal.loop-other-preserved
loop-other-preserved c =
    let keeps = c.add.ensures.keeps in (
      lists-trans c.args.joiners.now c.loop-other.joiners c.add.new.self c.loop-other.invariant.0 keeps,
      listed_for_below-more c.loop-other.joiners c.add.new.self c.args.pid c.loop-other.other-index _ c.args.waited.now c.loop-other.invariant.1 keeps refl
          c.in_ok-add.ensures.added,
    )

pub returns-clause-listed : goal.returns-clause-listed
returns-clause-listed c =
    listed_for_below-all c.loop-other.joiners c.args.pid c.loop-other.other-index c.args.waited.now c.loop-other.invariant.1 c.loop-other-test.false
