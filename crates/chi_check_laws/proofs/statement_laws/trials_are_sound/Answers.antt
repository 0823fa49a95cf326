use Rattle.chi_check_laws.proofs.TrialTrees.{tried_sound}
use Rattle.chi_check_laws.proofs.statement_laws.trials_are_sound.Goals as goal

pub returns : goal.returns
returns c = record { sound = λ scope set loop steps s body role whole have all made. tried_sound scope role set loop steps s body whole have all made }
