use Rattle.chi_machine_laws.proofs.Parts.{startings_lead}
use Rattle.chi_machine_laws.proofs.laws.startings_law.Goals as goal

pub returns : goal.returns
returns c = record { lead = startings_lead }
