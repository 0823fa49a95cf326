use Rattle.chi_code.proofs.Naming.{named_somewhere}
use Rattle.chi_code.proofs.laws.what_code_names.Goals as goal

pub returns : goal.returns
returns c = record { there = named_somewhere }
