use Rattle.chi_exec_law.proofs.Ends.{one_end}
use Rattle.chi_exec_law.proofs.laws.ends_law.Goals as goal

pub returns : goal.returns
returns c = record { one = one_end }
