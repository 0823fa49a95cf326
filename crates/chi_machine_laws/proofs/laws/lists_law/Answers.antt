use Rattle.chi_machine_laws.proofs.Waiting.{lists_stay}
use Rattle.chi_machine_laws.proofs.laws.lists_law.Goals as goal

pub returns-clause-stay : goal.returns-clause-stay
returns-clause-stay c = lists_stay
