use Rattle.chi_dist.proofs.Kept.{kept_new}
use Rattle.chi_dist.proofs.stream.Stream.new.Goals as goal

pub returns-clause-kept : goal.returns-clause-kept
returns-clause-kept c = kept_new _ _ _ c.new.result c.new.ensures c.state.ensures
