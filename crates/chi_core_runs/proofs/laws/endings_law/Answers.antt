use Rattle.chi_core_runs.proofs.Endings.{each_ending_is_told}
use Rattle.chi_core_runs.proofs.laws.endings_law.Goals as goal

pub returns : goal.returns
returns c = record { told = each_ending_is_told c.kinded_law.ensures.begins c.kinded_law.ensures.keeps }
