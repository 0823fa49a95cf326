use Rattle.std.proofs.Common.{arith, to_z, of_z}
use Rattle.std.specs.Int.{w128}
use Rattle.std.proofs.lemmas.Int.{ints}
use Rattle.chi_num.proofs.Floors.{IsFloor-over_size}
use Rattle.chi_num.proofs.fraction.floor_over.Goals as goal

pub returns : goal.returns
returns c =
    let n = to_z w128 (of_z w128 c.args.number) in
    let d = to_z w128 c.args.divisor in
    IsFloor-over_size _ _ n d _ _ c.requires.divides c.div_euclid.ensures (omega (arith, ints)) (omega (arith, ints)) (omega (arith, ints))
