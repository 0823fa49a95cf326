use Rattle.chi_check_parsed.proofs.Parsed.{parsed_whole, parsed_sound}
use Rattle.chi_check_parsed.proofs.laws.parsed_programs_are_sound.Goals as goal

pub returns : goal.returns
returns c = record { whole = parsed_whole c.unbroken_programs_come_to_cores.ensures.whole; sound = parsed_sound c.programs_are_sound.ensures.sound }
