use Rattle.std.proofs.Common.{◌+◌, ap, sym, ◌∙◌, refl, arith}
use Rattle.chi_plain_options.proofs.Pairs.{length-pairs_among-more, length-pairs_among-none}
use Rattle.chi_plain_options.proofs.choices.pair_count.Goals as goal

pub loop-other-init : goal.loop-other-init
loop-other-init c = (sym (length-pairs_among-none c.args.config.now c.args.pid 0 c.args.channel c.at-other-items.result.now), omega arith)

pub loop-other-preserved : goal.loop-other-preserved
loop-other-preserved c =
    let few = c.loop-other.invariant.1 in
    let within = c.partner_count-count.ensures.within in (
      ap (λ k. k + c.partner_count-count.result) c.loop-other.invariant.0
          ∙ sym (length-pairs_among-more c.args.config.now c.args.pid 0 c.args.channel c.loop-other.other-index _ c.partner_count-count.result
          c.at-other-items.result.now c.loop-other-test.true refl c.partner_count-count.ensures.count),
      omega (arith, few, within),
    )
