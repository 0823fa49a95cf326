use Rattle.chi_check_program_places.proofs.Statements.{stating-all-by}
use Rattle.chi_check_program_places.proofs.Trials.{trying-all-by}
use Rattle.chi_check_program_places.proofs.laws.statements_without_places.Goals as goal

pub returns : goal.returns
returns c = record { statements = stating-all-by; experiments = trying-all-by }
