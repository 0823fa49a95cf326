use Rattle.chi_xper_runs.proofs.Outcomes.{something_comes}
use Rattle.chi_xper_runs.proofs.laws.outcomes_law.Goals as goal

pub returns : goal.returns
returns c = record { some = something_comes c.picked_law.ensures.always }
