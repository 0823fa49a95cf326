use Rattle.chi_core_runs.proofs.Tellings.{nothing_told, more_told, all_told, last_told}
use Rattle.chi_core_runs.proofs.laws.telling_law.Goals as goal

pub returns : goal.returns
returns c = record { begins = nothing_told; on = more_told; over = all_told; ends = last_told }
