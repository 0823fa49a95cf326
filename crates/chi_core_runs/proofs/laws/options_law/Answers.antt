use Rattle.chi_core_runs.proofs.Enabled.{once, may_come}
use Rattle.chi_core_runs.proofs.laws.options_law.Goals as goal

pub returns : goal.returns
returns c = record { once = once; may_come = may_come }
