use Rattle.chi_num.proofs.OfResults.{given}
use Rattle.chi_core_apply.proofs.exact.real_difference.Goals as goal

pub returns : goal.returns
returns c = given c.real_sub.result _ c.real_sub.ensures
