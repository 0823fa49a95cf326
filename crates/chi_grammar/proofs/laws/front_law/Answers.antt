use Rattle.chi_grammar.proofs.Prefixes.{tree_front, front_before}
use Rattle.chi_grammar.proofs.laws.front_law.Goals as goal

pub returns : goal.returns
returns g c = record { of_a_tree = tree_front; of_a_front = front_before }
