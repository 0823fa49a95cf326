-- What may come next by the agenda of a configuration is what may come next in it.
use Rattle.std.specs.Prelude.{◌≡◌, ℕ}
use Rattle.chi_core.specs.Config.{Config}
use Rattle.chi_core.specs.Meeting.{next_due}
use Rattle.chi_core.specs.Options.{options, actors, advance, enabled, ending}
use Rattle.chi_core.specs.Picks.{Pick, picked_label}
use Rattle.chi_machine_agenda.specs.Reading.{config_of, agenda_of}

abbrev pub OptionsAlike : Type 0
OptionsAlike = (c : Config) (p : ℕ) → options (config_of (agenda_of c)) p ≡ options c p

abbrev pub ActorsAlike : Type 0
ActorsAlike = (c : Config) → actors (config_of (agenda_of c)) ≡ actors c

abbrev pub DueAlike : Type 0
DueAlike = (c : Config) → next_due (config_of (agenda_of c)) ≡ next_due c

abbrev pub AdvancesAlike : Type 0
AdvancesAlike = (c : Config) → advance (config_of (agenda_of c)) ≡ advance c

abbrev pub EnabledAlike : Type 0
EnabledAlike = (c : Config) → enabled (config_of (agenda_of c)) ≡ enabled c

abbrev pub EndingsAlike : Type 0
EndingsAlike = (c : Config) → ending (config_of (agenda_of c)) ≡ ending c

abbrev pub PicksAlike : Type 0
PicksAlike = (c : Config) (pick : Pick) (turn : ℕ) → picked_label pick turn (config_of (agenda_of c)) ≡ picked_label pick turn c
