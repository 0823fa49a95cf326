use Rattle.std.proofs.Common.{◌*ℤ◌}
use Rattle.chi_num.specs.Units.{units_per_one}
use Rattle.chi_core_apply.proofs.Numbers.{given_one}
use Rattle.chi_core_apply.proofs.exact.wide.Goals as goal

pub returns : goal.returns
returns c = given_one c.real_of.result (λ x. x *ℤ units_per_one) c.args.x c.ranges.x c.real_of.ensures
