use Rattle.chi_check_laws.proofs.Programs.{program_whole}
use Rattle.chi_check_laws.proofs.program_laws.unbroken_programs_come_to_cores.Goals as goal

pub returns : goal.returns
returns c = record { whole = program_whole }
