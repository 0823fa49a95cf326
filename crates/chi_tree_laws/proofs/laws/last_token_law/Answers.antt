use Rattle.chi_tree_laws.proofs.StatementEnds.{ends_with_end}
use Rattle.chi_tree_laws.proofs.laws.last_token_law.Goals as goal

pub returns : goal.returns
returns c = ends_with_end
