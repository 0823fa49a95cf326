use Rattle.std.proofs.Common.{◌-◌, arith}
use Rattle.chi_plain_options.proofs.Pairs.{offered-at}
use Rattle.chi_plain_options.proofs.choices.offered_at.Goals as goal

pub returns-then-i-seen : goal.returns-then-i-seen
returns-then-i-seen c =
    offered-at c.args.config.now c.args.pid c.loop-number.number c.loop-number.seen c.args.i (c.args.i - c.loop-number.seen) c.args.offers.now
    c.index-offers-number.result _ c.loop-number-test.true c.index-offers-number.is c.loop-number.invariant.0
    (let l = c.loop-number.invariant.1 in omega arith) c.offer_at.ensures
