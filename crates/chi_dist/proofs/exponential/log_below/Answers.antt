use Rattle.std.proofs.Common.{sym}
use Rattle.chi_dist.proofs.Leading.{last_below}
use Rattle.chi_dist.proofs.exponential.log_below.Goals as goal

pub returns-in-None-clause-below : goal.returns-in-None-clause-below
returns-in-None-clause-below c = sym (last_below c.args.word c.ranges.word.fits c.in-None.ensures)
