use Rattle.chi_plain.proofs.Mending.{all-more}
use Rattle.chi_plain.proofs.watching.everyone.Goals as goal

pub loop-pid-preserved : goal.loop-pid-preserved
loop-pid-preserved c = all-more c.loop-pid.all.items c.push.new.self.items c.loop-pid.pid c.in_ok-push.ensures.items c.loop-pid.invariant
