use Rattle.chi_core_apply.proofs.Drawing.{chance}
use Rattle.chi_core_apply.proofs.distributions.bernoulli_from.Goals as goal

pub real_in-requires : goal.real_in-requires
real_in-requires c = chance c.args.stream c.args.view.now c.args.chance.now c.requires
