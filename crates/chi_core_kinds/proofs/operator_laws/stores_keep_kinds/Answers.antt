use Rattle.chi_core_kinds.proofs.Stated.{parts}
use Rattle.chi_core_kinds.proofs.operator_laws.stores_keep_kinds.Goals as goal

pub returns-clause-parts : goal.returns-clause-parts
returns-clause-parts c = parts
