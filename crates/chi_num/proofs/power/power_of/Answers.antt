use Rattle.std.proofs.Common.{refl, arith}
use Rattle.std.proofs.lemmas.Int.{ints}
use Rattle.chi_num.proofs.Powers.{power_out}
use Rattle.chi_num.proofs.power.power_of.Goals as goal

pub returns-else-count-lt64 : goal.returns-else-count-lt64
returns-else-count-lt64 c =
    (refl, λ r e f. power_out c.args.base c.args.count (omega (arith, ints)) (omega (arith, ints)) r e f)
