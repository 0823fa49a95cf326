use Rattle.std.proofs.Common.{rules}
use Rattle.chi_order.specs.Counted.{is_set}
use Rattle.chi_order.proofs.bits.is_set.Goals as goal

pub returns : goal.returns
unfolding is_set
returns c = search rules
