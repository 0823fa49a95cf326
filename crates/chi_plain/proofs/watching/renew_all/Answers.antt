use Rattle.std.proofs.Common.{refl, arith}
use Rattle.chi_plain.proofs.Mending.{right-step}
use Rattle.chi_plain.proofs.watching.renew_all.Goals as goal

pub loop-pid-preserved : goal.loop-pid-preserved
loop-pid-preserved c = (
  (let e = c.renew.ensures.room in let h = c.loop-pid.invariant.0 in omega (arith, e, h)),
  right-step c.args.config.now c.loop-pid.marks c.renew.new.marks c.loop-pid.pid-index _ c.args.some.now c.loop-pid.invariant.1 c.loop-pid-test.true refl
      c.renew.ensures.renewed c.renew.ensures.others,
)
