-- What is said of the machine of processes: it takes exactly the steps of the language.
use Rattle.std.specs.Prelude.{◌≡◌, ℕ, ◌<◌, ℤ, List, [], ◌++◌, Option, Some, None, map, slice_set, slice_get, length}
use Rattle.chi_value.specs.declared.value.Value.{Value}
use Rattle.chi_core.specs.declared.label.Label.{Label}
use Rattle.chi_core.specs.declared.program.Core.{Core}
use Rattle.chi_core.specs.Beginning.{start}
use Rattle.chi_core.specs.Config.{Config}
use Rattle.chi_core.specs.Meeting.{next_due}
use Rattle.chi_core.specs.Options.{options, actors, advance, ending}
use Rattle.chi_core.specs.Picks.{Pick, IsLawful, picked_label}
use Rattle.chi_core.specs.Sound.{Sound}
use Rattle.chi_core.specs.Step.{step}
use Rattle.chi_code.specs.declared.code.Code.{Code}
use Rattle.chi_code.specs.Codes.{Codes}
use Rattle.chi_chan.specs.Held as chan
use Rattle.chi_chan_laws.specs.Agreement.{Agrees, label_of, offered_in}
use Rattle.chi_machine_laws.specs.Instances.{Kept, Waiting, Held, Whole}
use Rattle.chi_machine_laws.specs.Beginning.{Begun, Begins, BeginsAlike}
use Rattle.chi_machine_laws.specs.Choosing.{state_of, instance_of, config_of}
use Rattle.chi_machine_laws.specs.Labels.{Outcome, Takes}
use Rattle.chi_machine_laws.specs.Stands.{Stands, Follows}
use Rattle.chi_machine_laws.specs.Turns.{Event, Reached, AllAdvance, InBound, Safe, Follow}

-- Each label takes the machine to where the language's step leads.
abbrev pub StepsFollow : Type 0
StepsFollow =
    (core : Core) (code : Code) → Codes core code → (config : Config) (m : Whole) → Stands core code config m → (label : Label) (left : ℕ)
    → Follows (Takes code m label left) core code (step core config label left)

-- And to nothing else.
abbrev pub StepsAreRight : Type 0
StepsAreRight =
    (core : Core) (code : Code) → Codes core code → (config : Config) (m : Whole) → Stands core code config m → (label : Label) (left : ℕ) (o : Outcome) → Takes code m label left o
    → Follows (λ u. o ≡ u) core code (step core config label left)

-- The machine begins as the program's run does, and not otherwise.

abbrev pub BeginningsFollow : Type 0
BeginningsFollow =
    (core : Core) (code : Code) → Codes core code → (arguments : List Value) (seed : ℕ) (until : Option ℤ)
    → BeginsAlike core code (Begins code arguments seed until 0 []) (start core arguments seed until)

abbrev pub BeginningsAreRight : Type 0
BeginningsAreRight =
    (core : Core) (code : Code) → Codes core code → (arguments : List Value) (seed : ℕ) (until : Option ℤ) (o : Begun) → Begins code arguments seed until 0 [] o
    → BeginsAlike core code (λ u. o ≡ u) (start core arguments seed until)

-- What may come next by the machine's own state is what may come next in the configuration for which it stands.

abbrev pub OptionsAlike : Type 0
OptionsAlike = (core : Core) (code : Code) (config : Config) (m : Whole) → Stands core code config m → (p : ℕ) → options (config_of m) p ≡ options config p

abbrev pub ActorsAlike : Type 0
ActorsAlike = (core : Core) (code : Code) (config : Config) (m : Whole) → Stands core code config m → actors (config_of m) ≡ actors config

abbrev pub AdvancesAlike : Type 0
AdvancesAlike = (core : Core) (code : Code) (config : Config) (m : Whole) → Stands core code config m → advance (config_of m) ≡ advance config

abbrev pub DueAlike : Type 0
DueAlike = (core : Core) (code : Code) (config : Config) (m : Whole) → Stands core code config m → next_due (config_of m) ≡ next_due config

abbrev pub EndingsAlike : Type 0
EndingsAlike = (core : Core) (code : Code) (config : Config) (m : Whole) → Stands core code config m → ending (config_of m) ≡ ending config

abbrev pub PicksAlike : Type 0
PicksAlike =
    (core : Core) (code : Code) (config : Config) (m : Whole) → Stands core code config m → (pick : Pick) (turn : ℕ)
    → picked_label pick turn (config_of m) ≡ picked_label pick turn config

-- Where waiting lists have the offers of the instances that wait, the options of such an instance by the lists are its own.
abbrev pub WaitingOptions : Type 0
WaitingOptions =
    (offered : chan.Offered) (m : Whole) → Agrees offered (config_of m) → (p : ℕ) (h : Held) (kept : List Kept) → slice_get m.instances p ≡ Some h → h.standing ≡ Waiting kept
    → map (label_of p) (chan.options offered m.clock p) ≡ options (config_of m) p

-- What changes where one instance is set, and new ones come at the end.
abbrev pub OneChanges : Type 0
OneChanges =
    (m after : Whole) (p : ℕ) (h : Held) (made : List Held) → after.instances ≡ slice_set m.instances p h ++ made
    → (config_of after).instances ≡ slice_set (config_of m).instances p (instance_of h) ++ map instance_of made

-- So waiting lists that are changed for that one instance still have the offers of all that wait.
abbrev pub ListsStay : Type 0
ListsStay =
    (m after : Whole) (p : ℕ) (h : Held) (made : List Held) → after.instances ≡ slice_set m.instances p h ++ made → p < length m.instances
    → ((k : ℕ) (g : Held) → slice_get made k ≡ Some g → offered_in (state_of g.standing) ≡ None)
    → (old new : chan.Offered) → Agrees old (config_of m) → chan.Updates old new p (offered_in (state_of h.standing)) → Agrees new (config_of after)

-- Of a sound program each picked label of a kinded configuration leads to another, and one is picked unless the run has ended.
abbrev pub SafeAlways : Type 0
SafeAlways = (core : Core) → Sound core → (pick : Pick) → IsLawful pick → Safe core pick

-- What a list of calls comes to from a state that stands for a configuration.
pub record Calling (core : Core) (code : Code) (pick : Pick) (calls : List ℕ) (turn : ℕ) (config : Config) (m : Whole) (left : ℕ) : Type 0 where
  pub events : List Event
  pub text : List ℕ
  pub reached : Reached
  pub advance : AllAdvance code pick calls turn m left events text reached
  pub follow : Follow core code pick turn config left events text reached

-- Over any list of calls the machine takes the labels that the policy picks, and writes their text.
abbrev pub CallsFollow : Type 0
CallsFollow =
    (core : Core) (code : Code) → Codes core code → Sound core → (pick : Pick) → IsLawful pick → (calls : List ℕ) (turn : ℕ) (config : Config) (m : Whole) (left : ℕ)
    → InBound core turn config left → Stands core code config m → Calling core code pick calls turn config m left

-- And whatever it does over them is that.
abbrev pub CallsAreRight : Type 0
CallsAreRight =
    (core : Core) (code : Code) → Codes core code → Sound core → (pick : Pick) → IsLawful pick → (calls : List ℕ) (turn : ℕ) (config : Config) (m : Whole) (left : ℕ)
    → InBound core turn config left → Stands core code config m → (events : List Event) (text : List ℕ) (reached : Reached)
    → AllAdvance code pick calls turn m left events text reached → Follow core code pick turn config left events text reached
