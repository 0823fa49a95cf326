use Rattle.chi_core_apply.proofs.Drawing.{mean}
use Rattle.chi_core_apply.proofs.distributions.exponential_from.Goals as goal

pub real_in-requires : goal.real_in-requires
real_in-requires c = mean c.args.stream c.args.view.now c.args.mean.now c.requires
