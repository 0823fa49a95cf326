use Rattle.chi_tool.proofs.Promises.{follows}
use Rattle.chi_tool.proofs.laws.meets_law.Goals as goal

pub returns : goal.returns
returns c = follows
