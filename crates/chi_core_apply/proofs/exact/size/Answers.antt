use Rattle.std.proofs.Common.{pos}
use Rattle.std.specs.Prelude.{nat_abs}
use Rattle.chi_core_apply.proofs.Numbers.{given_one}
use Rattle.chi_core_apply.proofs.exact.size.Goals as goal

pub returns : goal.returns
returns c = given_one c.int_abs.result (λ x. pos (nat_abs x)) c.args.x c.ranges.x c.int_abs.ensures
