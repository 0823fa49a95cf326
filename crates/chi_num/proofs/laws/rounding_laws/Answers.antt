use Rattle.chi_num.proofs.OneEach.{one_floor, one_ceiling, one_nearest}
use Rattle.chi_num.proofs.laws.rounding_laws.Goals as goal

pub returns : goal.returns
returns c = record { floor = one_floor; ceiling = one_ceiling; nearest = one_nearest }
