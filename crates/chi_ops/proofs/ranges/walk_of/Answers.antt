use Rattle.std.proofs.Common.{arith}
use Rattle.std.proofs.lemmas.Int.{ints}
use Rattle.chi_ops.proofs.Walks.{as_they_are}
use Rattle.chi_ops.proofs.ranges.walk_of.Goals as goal

pub returns-clause-ints : goal.returns-clause-ints
returns-clause-ints c =
    as_they_are c.new.result c.args.from c.args.upto c.args.by _ _ _ c.new.ensures.ints
    (omega (arith, ints)) (omega (arith, ints)) (omega (arith, ints))
