use Rattle.chi_exec_law.proofs.Stated.{items_lead}
use Rattle.chi_exec_law.proofs.laws.items_law.Goals as goal

pub returns-clause-lead : goal.returns-clause-lead
returns-clause-lead c = items_lead
