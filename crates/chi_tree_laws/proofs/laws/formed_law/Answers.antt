use Rattle.chi_tree_laws.proofs.ExprLaw.{formed_types, formed_exprs}
use Rattle.chi_tree_laws.proofs.StatementLaw.{formed_blocks, formed_items}
use Rattle.chi_tree_laws.proofs.laws.formed_law.Goals as goal

pub returns : goal.returns
returns c = record { types = formed_types; expressions = formed_exprs; blocks = formed_blocks; programs = formed_items }
