use Rattle.std.proofs.Common.{◌≤◌, length, ap, arith}
use Rattle.chi_plain_options.proofs.Keeping.{keeps-trans}
use Rattle.chi_plain_options.proofs.Listings.{covers_below-all, covers_below-more}
use Rattle.chi_plain_options.proofs.listing.cover_from.Goals as goal

pub loop-pid-preserved : goal.loop-pid-preserved
loop-pid-preserved c =
    let before = c.loop-pid.covered.items in
    let one = c.cover.new.covered.items in
    let two = c.cover_joiners.new.covered.items in
    let more = c.in_ok-cover.ensures.keeps in
    let keeps = c.in_ok-cover_joiners.ensures.keeps in (
      keeps-trans c.args.covered.now.items before two c.loop-pid.invariant.0 (keeps-trans before one two more keeps),
      covers_below-more c.args.parties.now c.args.joiners.now c.args.config.now.instances c.args.from c.loop-pid.pid before one two c.loop-pid.invariant.1 more
          c.in_ok-cover.ensures.covered keeps c.in_ok-cover_joiners.ensures.joined,
    )

pub returns-in_err-cover_joiners-clause-keeps : goal.returns-in_err-cover_joiners-clause-keeps
returns-in_err-cover_joiners-clause-keeps c =
    let before = c.loop-pid.covered.items in
    let one = c.cover.new.covered.items in
    let two = c.cover_joiners.new.covered.items in
    keeps-trans c.args.covered.now.items before two c.loop-pid.invariant.0
    (keeps-trans before one two c.in_ok-cover.ensures.keeps c.in_err-cover_joiners.ensures.keeps)

pub returns-clause-covered : goal.returns-clause-covered
returns-clause-covered c =
    let all : length c.args.config.now.instances ≤ c.loop-pid.pid = omega (arith, ap length c.instances.ensures.instances, c.loop-pid-test.false) in
    covers_below-all c.args.parties.now c.args.joiners.now c.args.config.now.instances c.args.from c.loop-pid.pid c.loop-pid.covered.items c.loop-pid.invariant.1 all
