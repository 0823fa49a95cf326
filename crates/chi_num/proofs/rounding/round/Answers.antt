use Rattle.std.proofs.Common.{arith}
use Rattle.std.proofs.lemmas.Int.{ints}
use Rattle.chi_num.proofs.NearestWhole.{IsNearest-same}
use Rattle.chi_num.proofs.rounding.round.Goals as goal

pub returns : goal.returns
returns c = IsNearest-same _ _ _ _ _ _ c.whole_nearest.ensures.nearest (omega (arith, ints)) (omega (arith, ints)) (omega (arith, ints))
