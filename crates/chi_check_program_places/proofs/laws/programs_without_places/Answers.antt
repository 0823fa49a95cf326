use Rattle.chi_check_program_places.proofs.Programs.{checked-unplaced}
use Rattle.chi_check_program_places.proofs.laws.programs_without_places.Goals as goal

pub returns : goal.returns
returns c = checked-unplaced
