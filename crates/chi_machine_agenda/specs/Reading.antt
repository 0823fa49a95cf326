-- An agenda is read as a configuration in which no offer has a value, a slot or a body, and no instance has anything else.
-- So options, due times, endings and picks are those of the language.
use Rattle.std.specs.Prelude.{ℕ, Bool, false, List, [], ◌∷◌, None, is_some, map}
use Rattle.chi_core.specs.declared.act.Act.{Act}
use Rattle.chi_core.specs.declared.act.Act.TheVariants as act
use Rattle.chi_core.specs.Config as config
use Rattle.chi_core.specs.Config.{Config, Instance, State}
use Rattle.chi_core.specs.Options.{actors, advance}
use Rattle.chi_chan.specs.declared.offers.Offer.{Offer}
use Rattle.chi_chan.specs.declared.offers.Offer.TheVariants.{Send, Receive, Delay}
use Rattle.chi_chan_laws.specs.Agreement.{offered_as}
use Rattle.chi_machine_agenda.specs.Phases.{Phase, Running, Waiting, Joining, Finished, Agenda}

abbrev pub act_of : Offer → Act
act_of (Send channel) = act.Send channel None
act_of (Receive channel) = act.Receive channel None
act_of (Delay due) = act.Delay due

abbrev pub offer_of : Offer → config.Offer
offer_of offer = record { act = act_of offer; bindings = []; body = [] }

abbrev pub state_of : Phase → State
state_of Running = config.Running
state_of (Waiting offers) = config.Waiting (map offer_of offers)
state_of (Joining numbers) = config.Joining numbers
state_of Finished = config.Finished

abbrev pub instance_of : Phase → Instance
instance_of phase = record { definition = 0; variables = []; term = []; state = state_of phase }

abbrev pub config_of : Agenda → Config
config_of agenda = record {
  clock = agenda.clock;
  draws = [];
  channels = 0;
  instances = map instance_of agenda.phases;
  seed = 0;
  until = agenda.until;
  constants = [];
}

-- the agenda of a configuration

abbrev pub phase_in : State → Phase
phase_in config.Running = Running
phase_in (config.Waiting offers) = Waiting (map offered_as offers)
phase_in (config.Joining numbers) = Joining numbers
phase_in config.Finished = Finished

abbrev pub phase_of : Instance → Phase
phase_of i = phase_in i.state

abbrev pub agenda_of : Config → Agenda
agenda_of c = record { clock = c.clock; until = c.until; phases = map phase_of c.instances }

-- the time goes on next: no instance has an option, and the least due time may be reached

abbrev pub advances_among : Config → List ℕ → Bool
advances_among c [] = is_some (advance c)
advances_among c (p ∷ ps) = false

abbrev pub advances : Config → Bool
advances c = advances_among c (actors c)
