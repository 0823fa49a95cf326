use Rattle.chi_ops.proofs.Stored.{read_put}
use Rattle.chi_ops.proofs.laws.what_is_stored_is_read.Goals as goal

pub returns : goal.returns
returns c = read_put
