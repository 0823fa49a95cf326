use Rattle.chi_num.proofs.OfResults.{given}
use Rattle.chi_core_apply.proofs.exact.real_sum.Goals as goal

pub returns : goal.returns
returns c = given c.real_add.result _ c.real_add.ensures
