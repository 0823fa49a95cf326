use Rattle.std.proofs.Common.{◌∙◌, w64}
use Rattle.std.proofs.lemmas.Int.{to_z-of_z}
use Rattle.chi_num.specs.Power.{power}
use Rattle.chi_core_apply.proofs.Numbers.{given_one}
use Rattle.chi_core_apply.proofs.exact.power_of.Goals as goal

pub returns : goal.returns
returns c = λ n e. given_one c.int_pow.result (λ x. power x n) c.args.x c.ranges.x (c.int_pow.ensures.power n (to_z-of_z w64 c.args.y c.ranges.y ∙ e))
