use Rattle.chi_code.proofs.Naming.{pushes_told}
use Rattle.chi_code.proofs.laws.literals_can_be_listed.Goals as goal

pub returns : goal.returns
returns c = record { told = pushes_told }
