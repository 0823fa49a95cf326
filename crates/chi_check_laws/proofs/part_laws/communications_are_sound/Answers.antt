use Rattle.chi_check_laws.proofs.SoundCommunications.{delaying_sound, receiving_sound, sending_sound, void_receiving_sound, void_sending_sound}
use Rattle.chi_check_laws.proofs.part_laws.communications_are_sound.Goals as goal

pub returns-clause-sends : goal.returns-clause-sends
returns-clause-sends c = sending_sound

pub returns-clause-void_sends : goal.returns-clause-void_sends
returns-clause-void_sends c = void_sending_sound

pub returns-clause-receives : goal.returns-clause-receives
returns-clause-receives c = receiving_sound

pub returns-clause-void_receives : goal.returns-clause-void_receives
returns-clause-void_receives c = void_receiving_sound

pub returns-clause-delays : goal.returns-clause-delays
returns-clause-delays c = delaying_sound
