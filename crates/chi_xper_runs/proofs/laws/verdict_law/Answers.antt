use Rattle.chi_xper_runs.proofs.Verdicts.{verdicts_can_be_told}
use Rattle.chi_xper_runs.proofs.laws.verdict_law.Goals as goal

pub returns : goal.returns
returns c = record { told = verdicts_can_be_told c.picked_law.ensures.derived c.endings_law.ensures.told c.time_law.ensures.in_time }
