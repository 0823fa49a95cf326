use Rattle.std.proofs.Common.{neg_ℤ}
use Rattle.chi_core_apply.proofs.Numbers.{given_one}
use Rattle.chi_core_apply.proofs.exact.opposite.Goals as goal

pub returns : goal.returns
returns c = given_one c.int_neg.result neg_ℤ c.args.x c.ranges.x c.int_neg.ensures
