use Rattle.std.proofs.Common.{false, sym, subst}
use Rattle.chi_gen_sizes.specs.Measuring.{BlockMeasured}
use Rattle.chi_gen.proofs.programs.whole.Goals as goal

pub block-requires-2-clause-sound : goal.block-requires-2-clause-sound
block-requires-2-clause-sound c = c.requires

pub block-requires-2-clause-measured : goal.block-requires-2-clause-measured
block-requires-2-clause-measured c = subst (BlockMeasured false c.args.body.now) (sym c.as_slice.ensures.same) c.in_ok-sizes.ensures
