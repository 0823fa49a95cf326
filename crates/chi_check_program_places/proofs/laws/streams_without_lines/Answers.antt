use Rattle.chi_check_program_places.proofs.ProgramStreams.{streams-lineless}
use Rattle.chi_check_program_places.proofs.laws.streams_without_lines.Goals as goal

pub returns : goal.returns
returns c = streams-lineless
