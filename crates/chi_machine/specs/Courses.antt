-- What a turn and so many turns come to.
use Rattle.std.specs.Prelude.{◌≡◌, ◌≤◌, ℕ, suc, List, [], Option, Some, None}
use Rattle.chi_core.specs.declared.label.Label.{Label}
use Rattle.chi_core.specs.declared.verdict.Verdict.{Verdict}
use Rattle.chi_core.specs.declared.verdict.Verdict.TheVariants.{OutOfSteps}
use Rattle.chi_core.specs.Options.{Ending, ending_at}
use Rattle.chi_core.specs.Picks.{Pick, IsLawful, picked_label}
use Rattle.chi_code.specs.declared.code.Code.{Code}
use Rattle.chi_machine_laws.specs.Choosing.{config_of}
use Rattle.chi_machine_laws.specs.Instances.{Whole}
use Rattle.chi_machine_laws.specs.Labels.{GoesOn, Over, Spent, Takes}
use Rattle.chi_machine_laws.specs.Turns.{Event, Reached, Going, Ended, Advances}
use Rattle.chi_machine.specs.declared.course.Course.{Course}
use Rattle.chi_machine.specs.Crowds.{IsWorld}
use Rattle.chi_machine.specs.Sane.{IsSane}
use Rattle.chi_machine.specs.Views.{whole_of}
use Rattle.chi_machine.specs.Went.{Went}

-- The run of a sound program's code goes on there.
pub record IsCourse (code : Code) (c : Course) : Type 0 where
  pub kept : IsWorld code c.world
  pub sane : IsSane code c.turn (whole_of c.world) c.left

-- some lawful policy picks the label at this turn
pub record IsPicked (c : Course) (label : Label) : Type 0 where
  pub pick : Pick
  pub lawful : IsLawful pick
  pub picked : picked_label pick c.turn (config_of (whole_of c.world)) ≡ Some label

-- the label leads on to the next turn, and writes this text
pub record LeadsTo (code : Code) (c : Course) (label : Label) (new : Course) (text : List ℕ) : Type 0 where
  pub takes : Takes code (whole_of c.world) label c.left (GoesOn (whole_of new.world) text new.left)
  pub turn : new.turn ≡ suc c.turn
  pub course : IsCourse code new

-- the label ends the run, or costs more than is left
pub data EndsBy (code : Code) (c : Course) (label : Label) : Ending → Type 0 where
  over : (verdict : Verdict) → Takes code (whole_of c.world) label c.left (Over verdict) → EndsBy code c label (ending_at verdict (config_of (whole_of c.world)))
  cut_off : Takes code (whole_of c.world) label c.left Spent → EndsBy code c label (ending_at OutOfSteps (config_of (whole_of c.world)))

-- what taking a label comes to: where it ends the run nothing is written
abbrev pub TakesTo : Code → Course → Label → Option Ending → Course → List ℕ → Type 0
TakesTo code c label None new text = LeadsTo code c label new text
TakesTo code c label (Some end) new text = EndsBy code c label end × (text ≡ [])

abbrev pub advanced : Code → Pick → ℕ → Course → List ℕ → Reached → Type 0
advanced code pick turns c text r = (events : List Event) × Advances code pick turns c.turn (whole_of c.world) c.left events text r

-- so many turns have led there, or to the end of the run
abbrev pub AdvancesTo : Code → Pick → ℕ → Course → Course → Option Ending → List ℕ → Type 0
AdvancesTo code pick turns old new None text = advanced code pick turns old text (Going new.turn (whole_of new.world) new.left) × IsCourse code new
AdvancesTo code pick turns old new (Some end) text = advanced code pick turns old text (Ended end)

-- not more than so many labels were taken, and wrote this text
pub record HasGone (code : Code) (pick : Pick) (turns : ℕ) (c : Course) (text : List ℕ) : Type 0 where
  pub count : ℕ
  pub within : count ≤ turns
  pub events : List Event
  pub turn : ℕ
  pub whole : Whole
  pub left : ℕ
  pub went : Went code pick count c.turn (whole_of c.world) c.left events text turn whole left
