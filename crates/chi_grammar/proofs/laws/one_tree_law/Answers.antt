use Rattle.chi_grammar.proofs.OneTree.{one_tree}
use Rattle.chi_grammar.proofs.laws.one_tree_law.Goals as goal

pub returns : goal.returns
returns g c = one_tree
