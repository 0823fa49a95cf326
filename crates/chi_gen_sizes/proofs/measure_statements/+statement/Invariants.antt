use Rattle.std.proofs.Common.{take}
use Rattle.chi_gen_sizes.specs.Measuring.{AltsMeasured, BlockMeasured, BranchesMeasured}
use Rattle.chi_gen_sizes.proofs.measure_statements.+statement.Given as goal

abbrev pub invariant-block-loop-x : goal.invariant-block-loop-x
invariant-block-loop-x l = BlockMeasured l.fn.walks (take l.x-index l.xs) l.done.items

abbrev pub invariant-branches-loop-x : goal.invariant-branches-loop-x
invariant-branches-loop-x l = BranchesMeasured l.fn.walks (take l.x-index l.xs) l.done.items

abbrev pub invariant-alternatives-loop-x : goal.invariant-alternatives-loop-x
invariant-alternatives-loop-x l = AltsMeasured l.fn.walks (take l.x-index l.xs) l.done.items
