use Rattle.std.proofs.Common.{arith}
use mir.Val.{to_z, of_z}
use mir.Syntax.{w64}
use Rattle.chi_chan.specs.declared.offers.Offer.TheVariants.{Send}
use Rattle.chi_chan.proofs.Scanning.{next-length}
use Rattle.chi_chan.proofs.options.count_among.Goals as goal

pub loop-offer-preserved : goal.loop-offer-preserved
loop-offer-preserved c =
    let k = to_z w64 (of_z w64 c.args.clock) in
    let i = c.loop-offer.invariant in
    let h = c.loop-offer-test.true in
    let n = next-length c.args.receivers.now k c.args.pid c.args.offers.now c.loop-offer.offer-index (Send 0) h in
    let e = c.count_by-count.ensures.count c.loop-offer.offer-index in
    let w = c.count_by-count.ensures.within in
    let t = i.count in
    let f = i.few in
    record {
      count = omega (arith, n, e, t);
      few = omega (arith, w, f);
    }
