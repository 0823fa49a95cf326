use Rattle.chi_check_laws.proofs.Soundness.{program_sound}
use Rattle.chi_check_laws.proofs.program_laws.programs_are_sound.Goals as goal

pub returns : goal.returns
returns c = record { sound = program_sound }
