-- What may come next is read off the machine's own state: as of a configuration in which no instance has variables or
-- anything left to do, and no offer has a body. So options, endings, due times and picks are those of the language.
use Rattle.std.specs.Prelude.{[], map}
use Rattle.chi_core.specs.Config as config
use Rattle.chi_core.specs.Config.{Config, Instance, Offer, State}
use Rattle.chi_machine_laws.specs.Instances.{Kept, Standing, Running, Waiting, Joining, Finished, Held, Whole}

abbrev pub offer_of : Kept → Offer
offer_of k = record { act = k.act; bindings = k.bindings; body = [] }

abbrev pub state_of : Standing → State
state_of Running = config.Running
state_of (Waiting kept) = config.Waiting (map offer_of kept)
state_of (Joining numbers) = config.Joining numbers
state_of Finished = config.Finished

abbrev pub instance_of : Held → Instance
instance_of h = record { definition = h.definition; variables = []; term = []; state = state_of h.standing }

abbrev pub config_of : Whole → Config
config_of m = record {
  clock = m.clock;
  draws = m.draws;
  channels = m.channels;
  instances = map instance_of m.instances;
  seed = m.seed;
  until = m.until;
  constants = m.constants;
}
