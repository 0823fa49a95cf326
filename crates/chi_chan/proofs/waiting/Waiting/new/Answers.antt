use Rattle.std.proofs.Common.{ap}
use Rattle.chi_chan.specs.Held.{Offered, held}
use Rattle.chi_chan.proofs.Standing.{empty-waiting}
use Rattle.chi_chan.proofs.waiting.Waiting.new.Goals as goal

pub invariant_of-result : goal.invariant_of-result
invariant_of-result c = empty-waiting c.new.result c.new-2.result c.new-3.result c.new.ensures c.new-2.ensures c.new-3.ensures

pub returns : goal.returns
returns c q = ap (λ (m : Offered). held m q) c.new.ensures
