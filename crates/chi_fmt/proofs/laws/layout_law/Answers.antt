use Rattle.chi_fmt.proofs.Rereads.{reread}
use Rattle.chi_fmt.proofs.laws.layout_law.Goals as goal

pub returns : goal.returns
returns c = reread
