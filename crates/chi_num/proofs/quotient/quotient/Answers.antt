use Rattle.std.proofs.Common.{pos, ◌*ℤ◌, arith}
use Rattle.std.proofs.lemmas.Int.{ints}
use Rattle.chi_num.proofs.Unique.{Gives-nearest}
use Rattle.chi_num.proofs.quotient.quotient.Goals as goal

pub returns : goal.returns
returns c =
    Gives-nearest (c.args.a *ℤ pos 1_000_000_000) c.args.b _ _ _ _ _ c.requires c.nearest_to.ensures c.fitted.ensures (omega (arith, ints)) (omega (arith, ints)) (omega (arith, ints))
