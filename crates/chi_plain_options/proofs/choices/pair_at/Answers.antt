use Rattle.std.proofs.Common.{◌+◌, ◌-◌, ap, sym, ◌∙◌, refl, arith}
use Rattle.chi_plain_options.proofs.Pairs.{length-pairs_among-more, length-pairs_among-none, pairs-at}
use Rattle.chi_plain_options.proofs.choices.pair_at.Goals as goal

pub loop-other-init : goal.loop-other-init
loop-other-init c =
    (sym (length-pairs_among-none c.args.config.now c.args.pid c.args.alternative c.args.channel c.at-other-items.result.now), omega arith)

pub returns-then-i-seen : goal.returns-then-i-seen
returns-then-i-seen c =
    pairs-at c.args.config.now c.args.parties.now c.args.pid c.args.alternative c.args.channel c.at-other-items.result.now c.requires.parties
    c.at-other-items.ensures.listed c.at-other-items.ensures.ascending c.loop-other.other-index _ c.loop-other.seen c.args.i (c.args.i - c.loop-other.seen)
    c.partner_at.result c.loop-other-test.true refl c.loop-other.invariant.0 (let l = c.loop-other.invariant.1 in omega (arith, l)) c.partner_at.ensures

pub loop-other-preserved : goal.loop-other-preserved
loop-other-preserved c =
    let seen = c.loop-other.invariant.1 in
    let past = c.if-i-seen.false in (
      ap (λ k. k + c.partner_count-count.result) c.loop-other.invariant.0
          ∙ sym (length-pairs_among-more c.args.config.now c.args.pid c.args.alternative c.args.channel c.loop-other.other-index _ c.partner_count-count.result
          c.at-other-items.result.now c.loop-other-test.true refl c.partner_count-count.ensures.count),
      omega (arith, seen, past),
    )
