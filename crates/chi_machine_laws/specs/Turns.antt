-- The machine turn by turn: a policy is asked by the machine's own options.
use Rattle.std.specs.Prelude.{◌≡◌, ℕ, zero, suc, ◌+◌, ◌<◌, ◌^◌, ℤ, List, [], ◌∷◌, ◌++◌, map, Some, None}
use Rattle.chi_core.specs.declared.label.Label.{Label}
use Rattle.chi_core.specs.declared.program.Core.{Core}
use Rattle.chi_core.specs.declared.verdict.Verdict.{Verdict}
use Rattle.chi_core.specs.declared.verdict.Verdict.TheVariants.{OutOfSteps}
use Rattle.chi_core.specs.Config.{Config}
use Rattle.chi_core.specs.Kinded.{Kinded}
use Rattle.chi_core.specs.Options.{Ending, ending_at, ending}
use Rattle.chi_core.specs.Picks.{Pick, MayPick, picked_label, PicksFrom}
use Rattle.chi_core.specs.Runs.{Tells, along, nothing, Told}
use Rattle.chi_core.specs.Step as step
use Rattle.chi_code.specs.declared.code.Code.{Code}
use Rattle.chi_machine_laws.specs.Instances.{Whole}
use Rattle.chi_machine_laws.specs.Choosing.{config_of}
use Rattle.chi_machine_laws.specs.Labels.{GoesOn, Over, Spent, Takes}
use Rattle.chi_machine_laws.specs.Stands.{Stands}

-- a label that was taken at a turn, and the time after it
pub record Event : Type 0 where
  pub turn : ℕ
  pub label : Label
  pub clock : ℤ

abbrev pub event : ℕ → Label → ℤ → Event
event turn label clock = record { turn = turn; label = label; clock = clock }

abbrev pub labels_of : List Event → List Label
labels_of events = map (λ e. e.label) events

-- after some turns a run goes on, at a turn, in a state, with so much left of the bound; or it has ended
pub data Reached : Type 0 where
  Going : ℕ → Whole → ℕ → Reached
  Ended : Ending → Reached

-- In at most so many turns, from a turn on and with so much left of the bound, the machine takes labels, writes this text and
-- comes there. An ending that stands is told at once; a label that costs too much isn't taken.
pub data Advances (code : Code) (pick : Pick) : ℕ → ℕ → Whole → ℕ → List Event → List ℕ → Reached → Type 0 where
  pauses : (turn left : ℕ) (m : Whole) → ending (config_of m) ≡ None → Advances code pick zero turn m left [] [] (Going turn m left)
  rests : (turns turn left : ℕ) (m : Whole) (end : Ending) → ending (config_of m) ≡ Some end → Advances code pick turns turn m left [] [] (Ended end)
  cut_off : (turns turn left : ℕ) (m : Whole) (label : Label) → ending (config_of m) ≡ None → picked_label pick turn (config_of m) ≡ Some label → Takes code m label left Spent
      → Advances code pick (suc turns) turn m left [] [] (Ended (ending_at OutOfSteps (config_of m)))
  over : (turns turn left : ℕ) (m : Whole) (label : Label) (verdict : Verdict) → ending (config_of m) ≡ None → picked_label pick turn (config_of m) ≡ Some label → Takes code m label left (Over verdict)
      → Advances code pick (suc turns) turn m left (event turn label m.clock ∷ []) [] (Ended (ending_at verdict (config_of m)))
  goes : (turns turn left rest : ℕ) (m new : Whole) (label : Label) (text more : List ℕ) (events : List Event) (r : Reached)
      → ending (config_of m) ≡ None → picked_label pick turn (config_of m) ≡ Some label → Takes code m label left (GoesOn new text rest)
      → Advances code pick turns (suc turn) new rest events more r → Advances code pick (suc turns) turn m left (event turn label new.clock ∷ events) (text ++ more) r

-- calls in turn, each with at most so many turns; after one that ended the run, no more is done
pub data AllAdvance (code : Code) (pick : Pick) : List ℕ → ℕ → Whole → ℕ → List Event → List ℕ → Reached → Type 0 where
  no_call : (turn left : ℕ) (m : Whole) → AllAdvance code pick [] turn m left [] [] (Going turn m left)
  last_call : (n : ℕ) (ns : List ℕ) (turn left : ℕ) (m : Whole) (events : List Event) (text : List ℕ) (end : Ending) → Advances code pick n turn m left events text (Ended end)
      → AllAdvance code pick (n ∷ ns) turn m left events text (Ended end)
  a_call : (n : ℕ) (ns : List ℕ) (turn left later rest : ℕ) (m new : Whole) (events others : List Event) (text more : List ℕ) (r : Reached)
      → Advances code pick n turn m left events text (Going later new rest) → AllAdvance code pick ns later new rest others more r
      → AllAdvance code pick (n ∷ ns) turn m left (events ++ others) (text ++ more) r

-- the events of a run, by the language

abbrev pub time_after : Config → step.Outcome → ℤ
time_after config (step.Next new text left) = new.clock
time_after config _ = config.clock

abbrev pub event_told : Tells Event
event_told turn config label outcome = event turn label (time_after config outcome) ∷ []

abbrev pub events_from : Core → ℕ → Config → ℕ → List Label → List Event
events_from core = along event_told nothing core

-- kinded, at a turn that a run within a bound below 2 ^ 63 may come to
abbrev pub InBound : Core → ℕ → Config → ℕ → Type 0
InBound core turn config left = Kinded core config × (turn + left < 2 ^ 63)

abbrev pub StaysInBound : Core → ℕ → step.Outcome → Type 0
StaysInBound core turn (step.Next config text left) = InBound core (suc turn) config left
StaysInBound core turn (step.Over verdict) = Unit {0}
StaysInBound core turn step.Spent = Unit {0}
StaysInBound core turn step.Amiss = ⊥

-- Of such a configuration each picked label leads to another, or ends the run, or costs too much; and the policy picks a label
-- unless the run has ended.
pub record Safe (core : Core) (pick : Pick) : Type 0 where
  pub keeps : (turn : ℕ) (config : Config) (left : ℕ) → InBound core turn config left → (label : Label) → MayPick pick turn config label
      → StaysInBound core turn (step.step core config label left)
  pub chooses : (turn : ℕ) (config : Config) (left : ℕ) → InBound core turn config left → ending config ≡ None → (label : Label) × MayPick pick turn config label

abbrev pub told_of : List Event → List ℕ → Ending → Told
told_of events text end = record { labels = labels_of events; ending = end; output = text }

-- what is told of a run from there on comes after these events and this text
abbrev pub told_after : List Event → List ℕ → Told → Told
told_after events text told = record { labels = labels_of events ++ told.labels; ending = told.ending; output = text ++ told.output }

-- These events and this text are the first that the policy picks from a configuration at a turn, and it goes on in another: what it
-- picks from there comes after them.
pub record PicksFirst (core : Core) (pick : Pick) (turn : ℕ) (config : Config) (left : ℕ) (events : List Event) (text : List ℕ) (later : ℕ) (new : Config) (rest : ℕ) : Type 0 where
  pub picks : (told : Told) → PicksFrom core pick later new rest told → PicksFrom core pick turn config left (told_after events text told)
  pub are : (labels : List Label) → events_from core turn config left (labels_of events ++ labels) ≡ events ++ events_from core later new rest labels

-- They are all that the policy picks from there, with the run's end; or they are the first, and the machine goes on standing
-- for the configuration to which they lead.
abbrev pub Follow : Core → Code → Pick → ℕ → Config → ℕ → List Event → List ℕ → Reached → Type 0
Follow core code pick turn config left events text (Ended end) =
    PicksFrom core pick turn config left (told_of events text end) × (events_from core turn config left (labels_of events) ≡ events)
Follow core code pick turn config left events text (Going later m rest) =
    (new : Config) × InBound core later new rest × Stands core code new m × PicksFirst core pick turn config left events text later new rest
