use Rattle.chi_tree_laws.proofs.OneExpr.{one_type, one_expr}
use Rattle.chi_tree_laws.proofs.OneProgram.{one_block, one_program}
use Rattle.chi_tree_laws.proofs.laws.one_tree_law.Goals as goal

pub returns : goal.returns
returns c = record { types = one_type; expressions = one_expr; blocks = one_block; programs = one_program }
