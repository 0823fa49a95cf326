use Rattle.chi_tree.proofs.Fine.{grammar_fine}
use Rattle.chi_tree_laws.proofs.laws.grammar_law.Goals as goal

pub returns : goal.returns
returns c = grammar_fine
