use Rattle.chi_exec_law.proofs.Stated.{expressions_lead}
use Rattle.chi_exec_law.proofs.laws.expressions_law.Goals as goal

pub returns-clause-lead : goal.returns-clause-lead
returns-clause-lead c = expressions_lead
