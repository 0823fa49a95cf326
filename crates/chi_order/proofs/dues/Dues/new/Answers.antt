use Rattle.chi_order.proofs.Dating.{no-dues, no-times}
use Rattle.chi_order.proofs.dues.Dues.new.Goals as goal

pub invariant_of-result : goal.invariant_of-result
invariant_of-result c = no-dues c.new.result.items c.new-2.result.items _ c.new.ensures.items c.new-2.ensures.items

pub returns : goal.returns
returns c = no-times c.new.result.items c.new-2.result.items c.new-2.ensures.items
