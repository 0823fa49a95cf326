use Rattle.chi_exec_law.proofs.Stated.{calls_lead}
use Rattle.chi_exec_law.proofs.laws.calls_law.Goals as goal

pub returns : goal.returns
returns c = record { lead = calls_lead }
