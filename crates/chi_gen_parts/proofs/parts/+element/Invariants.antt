use Rattle.std.proofs.Common.{take}
use Rattle.chi_gen_parts.specs.Added.{AddsElems}
use Rattle.chi_gen_parts.proofs.parts.+element.Given as goal

abbrev pub invariant-elements-loop-x : goal.invariant-elements-loop-x
invariant-elements-loop-x l = AddsElems (take l.x-index l.xs) l.fn.code.items l.code.items
