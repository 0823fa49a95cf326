use Rattle.std.proofs.Common.{refl}
use Rattle.chi_dist.proofs.Leading.{parts_are}
use Rattle.chi_dist.proofs.exponential.log_parts.Goals as goal

pub returns-clause-parts : goal.returns-clause-parts
returns-clause-parts c = parts_are c.args.x c.from-whole.result _ c.log_digits.result c.requires c.ranges.x.fits c.from-whole.ensures refl c.log_digits.ensures.digits
