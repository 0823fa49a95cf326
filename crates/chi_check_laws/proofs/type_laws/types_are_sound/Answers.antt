use Rattle.chi_check_laws.proofs.Types.{default_sound}
use Rattle.chi_check_laws.proofs.WholeParts.{type_sound}
use Rattle.chi_check_laws.proofs.type_laws.types_are_sound.Goals as goal

pub returns-clause-sound : goal.returns-clause-sound
returns-clause-sound c = type_sound

pub returns-clause-defaults : goal.returns-clause-defaults
returns-clause-defaults c = default_sound
