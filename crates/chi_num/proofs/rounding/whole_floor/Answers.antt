use Rattle.std.proofs.Common.{to_z, of_z, arith}
use Rattle.std.specs.Int.{w128}
use Rattle.std.proofs.lemmas.Int.{ints}
use Rattle.chi_num.proofs.Rest.{floor_bound}
use Rattle.chi_num.proofs.rounding.whole_floor.Goals as goal

pub returns-clause-bound : goal.returns-clause-bound
returns-clause-bound c =
    let q = to_z w128 (of_z w128 c.floor_of.result) in
    floor_bound c.args.units _ _ _ q c.floor_of.ensures c.requires (omega (arith, ints)) (omega (arith, ints)) (omega (arith, ints))
