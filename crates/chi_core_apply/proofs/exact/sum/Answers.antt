use Rattle.std.proofs.Common.{◌+ℤ◌}
use Rattle.chi_core_apply.proofs.Numbers.{given_two}
use Rattle.chi_core_apply.proofs.exact.sum.Goals as goal

pub returns : goal.returns
returns c = given_two c.int_add.result (λ x y. x +ℤ y) c.args.x c.args.y c.ranges.x c.ranges.y c.int_add.ensures
