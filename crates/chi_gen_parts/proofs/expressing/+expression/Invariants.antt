use Rattle.std.proofs.Common.{take}
use Rattle.chi_gen_parts.specs.Added.{AddsExprs}
use Rattle.chi_gen_parts.proofs.expressing.+expression.Given as goal

abbrev pub invariant-all-loop-x : goal.invariant-all-loop-x
invariant-all-loop-x l = AddsExprs (take l.x-index l.xs) l.fn.code.items l.code.items
