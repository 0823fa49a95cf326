use Rattle.chi_core_runs.proofs.OwnNumbers.{listed-lawful, own_numbers_pick}
use Rattle.chi_core_runs.proofs.laws.own_numbers_law.Goals as goal

pub returns : goal.returns
returns c = record { lawful = listed-lawful; picks = own_numbers_pick }
