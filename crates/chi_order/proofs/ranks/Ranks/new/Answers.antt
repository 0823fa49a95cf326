use Rattle.std.proofs.Common.{ap, ◌∙◌, inl, refl, arith}
use Rattle.chi_order.proofs.Ranking.{counted-none}
use Rattle.chi_order.specs.Counted.{bits}
use Rattle.chi_order.proofs.Words.{bits-none}
use Rattle.chi_order.proofs.ranks.Ranks.new.Goals as goal

pub invariant_of-result : goal.invariant_of-result
invariant_of-result c = counted-none 0 c.new.result.items c.new-2.result.items (c.new.ensures.items) (c.new-2.ensures.items) (omega arith) (inl refl)

pub returns : goal.returns
returns c = ap bits c.new.ensures.items ∙ bits-none
