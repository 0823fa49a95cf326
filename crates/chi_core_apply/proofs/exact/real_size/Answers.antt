use Rattle.chi_num.proofs.OfResults.{given}
use Rattle.chi_core_apply.proofs.exact.real_size.Goals as goal

pub returns : goal.returns
returns c = given c.real_abs.result _ c.real_abs.ensures
