use Rattle.std.proofs.Common.{arith}
use Rattle.std.proofs.lemmas.Int.{ints}
use Rattle.chi_num.proofs.Floors.{IsCeiling-from_floor}
use Rattle.chi_num.proofs.rounding.ceil.Goals as goal

pub returns : goal.returns
returns c = IsCeiling-from_floor _ _ _ _ _ c.whole_floor.ensures.floor (omega (arith, ints)) (omega (arith, ints))
