use Rattle.std.proofs.Common.{◌≤◌, length, ap, arith}
use Rattle.chi_plain_options.proofs.Listings.{listed_below-all, listed_below-more, lists-trans, parties-trans}
use Rattle.chi_plain_options.proofs.listing.relist_from.Goals as goal

pub loop-pid-preserved : goal.loop-pid-preserved
loop-pid-preserved c =
    let before = c.loop-pid.invariant in
    let now = c.in_ok-relist.ensures in (
      parties-trans c.args.parties.now c.loop-pid.parties c.relist.new.parties before.0 now.parties,
      lists-trans c.args.joiners.now c.loop-pid.joiners c.relist.new.joiners before.1 now.joiners,
      listed_below-more c.loop-pid.parties c.relist.new.parties c.loop-pid.joiners c.relist.new.joiners c.args.config.now.instances c.args.from c.loop-pid.pid
          before.2 now.parties now.joiners now.party now.joiner,
    )

pub returns-clause-party : goal.returns-clause-party
returns-clause-party c p h =
    let all : length c.args.config.now.instances ≤ c.loop-pid.pid = omega (arith, ap length c.instances.ensures.instances, c.loop-pid-test.false) in
    let both = listed_below-all c.loop-pid.parties c.loop-pid.joiners c.args.config.now.instances c.args.from c.loop-pid.pid c.loop-pid.invariant.2 all p h in
    both.0

pub returns-clause-joiner : goal.returns-clause-joiner
returns-clause-joiner c p h =
    let all : length c.args.config.now.instances ≤ c.loop-pid.pid = omega (arith, ap length c.instances.ensures.instances, c.loop-pid-test.false) in
    let both = listed_below-all c.loop-pid.parties c.loop-pid.joiners c.args.config.now.instances c.args.from c.loop-pid.pid c.loop-pid.invariant.2 all p h in
    both.1
