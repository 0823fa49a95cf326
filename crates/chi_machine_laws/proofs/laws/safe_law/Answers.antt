use Rattle.chi_machine_laws.proofs.Safety.{safe}
use Rattle.chi_machine_laws.proofs.laws.safe_law.Goals as goal

pub returns : goal.returns
returns c = record { safe = λ core sound pick lawful. safe core (c.kinded_law.ensures.keeps core sound) pick lawful }
