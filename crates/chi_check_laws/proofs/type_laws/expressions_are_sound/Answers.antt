use Rattle.chi_check_laws.proofs.WholeParts.{expression_sound}
use Rattle.chi_check_laws.proofs.type_laws.expressions_are_sound.Goals as goal

pub returns : goal.returns
returns c = record { sound = expression_sound }
