use Rattle.chi_code.proofs.Naming.{named_in_process}
use Rattle.chi_code.proofs.laws.what_a_process_names.Goals as goal

pub returns : goal.returns
returns c = record { there = named_in_process }
