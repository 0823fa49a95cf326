use Rattle.chi_check_laws.proofs.SoundValues.{condition_has, exiting_sound, fitted_has, instance_has, walked_sound}
use Rattle.chi_check_laws.proofs.part_laws.values_are_sound.Goals as goal

pub returns-clause-initial : goal.returns-clause-initial
returns-clause-initial c = fitted_has

pub returns-clause-conditions : goal.returns-clause-conditions
returns-clause-conditions c = condition_has

pub returns-clause-instances : goal.returns-clause-instances
returns-clause-instances c = instance_has

pub returns-clause-exits : goal.returns-clause-exits
returns-clause-exits c = exiting_sound

pub returns-clause-walks : goal.returns-clause-walks
returns-clause-walks c = walked_sound
