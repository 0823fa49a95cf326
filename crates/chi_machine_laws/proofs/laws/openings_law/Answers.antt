use Rattle.chi_machine_laws.proofs.Parts.{openings_lead}
use Rattle.chi_machine_laws.proofs.laws.openings_law.Goals as goal

pub returns : goal.returns
returns c = record { lead = openings_lead }
