-- The taking of a label.
use Rattle.std.specs.Prelude.{◌≡◌, ◌≤◌, ℕ, List, [], length, slice_get, Some}
use Rattle.chi_core.specs.declared.label.Label.{Label}
use Rattle.chi_core.specs.declared.label.Label.TheVariants.{Advance}
use Rattle.chi_core.specs.declared.limits.TheConstants.{MOST_INSTANCES}
use Rattle.chi_core.specs.Options.{actors}
use Rattle.chi_code.specs.declared.code.Code.{Code}
use Rattle.chi_machine_laws.specs.Choosing.{config_of}
use Rattle.chi_machine_laws.specs.Instances as law
use Rattle.chi_machine_laws.specs.Instances.{Held, Whole}
use Rattle.chi_machine_laws.specs.Labels.{Outcome, GoesOn, Takes}
use Rattle.chi_machine_laws.specs.Labels as came
use Rattle.chi_machine_agenda.specs.Phases.{AreThere}
use Rattle.chi_machine.specs.declared.taken.Taken.{Taken}
use Rattle.chi_machine.specs.declared.taken.Taken.TheVariants.{On, Over, Spent}
use Rattle.chi_machine.specs.declared.world.World.{World}
use Rattle.chi_machine.specs.Crowds.{IsWorld}
use Rattle.chi_machine.specs.Views.{whole_of}

-- There are no more instances than there may be, and those for which one waits are there.
pub record IsWell (m : Whole) : Type 0 where
  pub few : length m.instances ≤ MOST_INSTANCES
  pub there : (p : ℕ) (h : Held) (numbers : List ℕ) → slice_get m.instances p ≡ Some h → h.standing ≡ law.Joining numbers → AreThere (length m.instances) numbers

abbrev pub LeadsWell : Outcome → Type 0
LeadsWell (GoesOn m text left) = IsWell m
LeadsWell (came.Over verdict) = Unit {0}
LeadsWell came.Spent = Unit {0}

-- A label may be taken, where so much is left of the bound: it leads somewhere, and where it goes on to what is well; and
-- the time goes on where no instance has an option.
pub record MayTake (code : Code) (m : Whole) (label : Label) (left : ℕ) : Type 0 where
  pub outcome : Outcome
  pub takes : Takes code m label left outcome
  pub well : LeadsWell outcome
  pub idle : label ≡ Advance → actors (config_of m) ≡ []

-- A label was taken, and this text was written: to a state in which the machine goes on, with so much left of the bound;
-- or the run is over; or the label costs more than is left.
abbrev pub Took : Code → Whole → Label → ℕ → Taken → World → List ℕ → Type 0
Took code m label left (On rest) w text = Takes code m label left (GoesOn (whole_of w) text rest) × IsWorld code w
Took code m label left (Over verdict) w text = Takes code m label left (came.Over verdict) × (text ≡ [])
Took code m label left Spent w text = Takes code m label left came.Spent × (text ≡ [])
