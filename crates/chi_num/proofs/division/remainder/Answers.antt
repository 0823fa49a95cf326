use Rattle.std.proofs.Common.{arith}
use Rattle.std.proofs.lemmas.Int.{ints}
use Rattle.chi_num.proofs.Rest.{IsRemainder-same}
use Rattle.chi_num.proofs.division.remainder.Goals as goal

pub returns : goal.returns
returns c = IsRemainder-same _ _ _ _ _ _ c.rest_of.ensures.rest (omega (arith, ints)) (omega (arith, ints)) (omega (arith, ints))
