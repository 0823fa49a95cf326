use Rattle.std.proofs.Common.{◌-ℤ◌}
use Rattle.chi_core_apply.proofs.Numbers.{given_two}
use Rattle.chi_core_apply.proofs.exact.difference.Goals as goal

pub returns : goal.returns
returns c = given_two c.int_sub.result (λ x y. x -ℤ y) c.args.x c.args.y c.ranges.x c.ranges.y c.int_sub.ensures
