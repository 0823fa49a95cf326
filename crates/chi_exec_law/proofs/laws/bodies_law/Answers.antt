use Rattle.chi_exec_law.proofs.Stated.{bodies_lead}
use Rattle.chi_exec_law.proofs.laws.bodies_law.Goals as goal

pub returns : goal.returns
returns c = record { lead = bodies_lead }
