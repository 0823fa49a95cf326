use Rattle.std.proofs.Common.{pos, ◌*ℤ◌, arith}
use Rattle.std.proofs.lemmas.Int.{ints, to_z-of_z}
use Rattle.chi_num.proofs.Unique.{Gives-nearest}
use Rattle.chi_num.proofs.product.product.Goals as goal

pub returns : goal.returns
returns c =
    Gives-nearest (c.args.a *ℤ c.args.b) (pos 1_000_000_000) _ _ _ _ _ (λ e. omega (arith, ints)) c.nearest_to.ensures c.fitted.ensures (grind (arith, ints, to_z-of_z)) (omega (arith, ints)) (omega (arith, ints))
