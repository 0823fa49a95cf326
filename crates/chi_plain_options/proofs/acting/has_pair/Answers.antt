use Rattle.std.proofs.Common.{refl}
use Rattle.chi_plain_options.proofs.Havings.{none_pairs-more, pairs-none, pairs-some}
use Rattle.chi_plain_options.proofs.acting.has_pair.Goals as goal

pub returns-then-partner_count-gt0 : goal.returns-then-partner_count-gt0
returns-then-partner_count-gt0 c =
    pairs-some c.args.config.now _ c.args.pid c.args.channel c.partner_count.result c.partner_count.ensures.count c.if-partner_count-gt0.true

pub loop-other-preserved : goal.loop-other-preserved
loop-other-preserved c =
    none_pairs-more c.args.config.now c.args.pid c.args.channel c.loop-other.other-index _ c.partner_count.result c.at-other-items.result.now
    c.loop-other.invariant refl c.loop-other-test.true c.partner_count.ensures.count c.if-partner_count-gt0.false

pub returns : goal.returns
returns c =
    pairs-none c.args.config.now c.args.parties.now c.args.pid c.args.channel c.loop-other.other-index c.at-other-items.result.now c.requires
    c.at-other-items.ensures.listed c.loop-other-test.false c.loop-other.invariant
