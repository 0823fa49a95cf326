use Rattle.chi_tree_laws.proofs.PlacedOnce.{one_placed}
use Rattle.chi_tree_laws.proofs.laws.one_program_law.Goals as goal

pub returns : goal.returns
returns c = one_placed
