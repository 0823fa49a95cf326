use Rattle.chi_check_laws.proofs.Whole.{statements_sound}
use Rattle.chi_check_laws.proofs.statement_laws.statements_are_sound.Goals as goal

pub returns : goal.returns
returns c = record { sound = λ home scope set loop steps s body role whole have all made. statements_sound home scope role set loop steps s body whole have all made }
