use Rattle.chi_machine_laws.proofs.Exact.{steps_are_right}
use Rattle.chi_machine_laws.proofs.laws.step_law.Goals as goal

pub returns-clause-exact : goal.returns-clause-exact
returns-clause-exact c = steps_are_right
