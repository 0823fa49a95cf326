-- Private to proofs: a log that is read line by line, and the run that it tells.
use Rattle.std.specs.Prelude.{◌≡◌, ◌≢◌, ◌⊎◌, ℕ, suc, Bool, false, bytes_eq, List, [], ◌∷◌, ◌++◌, map, Option, Some, None, Contains}
use Rattle.std.specs.List.{flat_map}
use Rattle.chi_core.specs.declared.label.Label.{Label}
use Rattle.chi_core.specs.declared.program.Core.{Core}
use Rattle.chi_core.specs.Beginning.{Beginning, Begins, Breaks}
use Rattle.chi_core.specs.Beginning as beginning
use Rattle.chi_core.specs.Config.{Config}
use Rattle.chi_core.specs.Kinded.{Kinded}
use Rattle.chi_core.specs.Options.{Ending, enabled, ending_at}
use Rattle.chi_core.specs.Picks.{last_numbers, numbers_told, picks_of}
use Rattle.chi_core.specs.Runs.{IsAtRest, IsCutOff, MayDerive, RunsFrom, Told, along, nothing}
use Rattle.chi_core.specs.Step as outcome
use Rattle.chi_core.specs.Step.{Outcome, Next, Over, step}
use Rattle.chi_core_runs.specs.Turns.{told_last}
use Rattle.chi_trace.specs.declared.event.Event.{Event}
use Rattle.chi_trace.specs.Lines.{event_line, first_line}
use Rattle.chi_trace.specs.Logs.{ended}
use Rattle.chi_trace_events.specs.Traces.{event_at, event_told}
use Rattle.chi_log.specs.Allowed.{ending_line, first_lines, IsLogOf}

-- where a run stands: at a turn, in a configuration, with so much left of the bound; or at its end
pub data Place : Type 0 where
  At : ℕ → Config → ℕ → Place
  End : Ending → Place

-- a text is one line, with its line feed
abbrev pub IsLine : List ℕ → Type 0
IsLine line = first_lines 1 line ≡ Some line

-- the configuration is kinded, or the ending is told in one line
abbrev pub IsSoundAt : Core → Place → Type 0
IsSoundAt core (At turn config left) = Kinded core config
IsSoundAt core (End end) = IsLine (ending_line core end)

-- where a run stands at its beginning
abbrev pub Stands : Beginning → ℕ → Place → Type 0
Stands (Begins config) bound place = place ≡ At 0 config bound
Stands (Breaks end) bound place = place ≡ End end
Stands beginning.Amiss bound place = ⊥

-- a run from a configuration on, and what is logged of it
pub record GoesOn (core : Core) (turn : ℕ) (config : Config) (left : ℕ) (told : Told) (log : List ℕ) : Type 0 where
  pub runs : RunsFrom MayDerive core turn config left told
  pub events : List Event
  pub are : along (event_told core) nothing core turn config left told.labels ≡ map Some events
  pub is : log ≡ flat_map event_line events ++ ending_line core told.ending

-- the rest of a run, from a place on, and what is logged of it
abbrev pub Rest : Core → Place → Told → List ℕ → Type 0
Rest core (At turn config left) told log = GoesOn core turn config left told log
Rest core (End end) told log = (told ≡ told_last end) × (log ≡ ending_line core end)

-- the numbers by which the rest of a run is picked
abbrev pub numbers_left : Core → Place → Told → List ℕ
numbers_left core (At turn config left) told = along numbers_told (last_numbers core told.ending.verdict) core turn config left told.labels
numbers_left core (End end) told = []

-- labels and what they wrote, and then the rest of the run
abbrev pub told_before : List Label → List ℕ → Told → Told
told_before labels output rest = record { labels = labels ++ rest.labels; ending = rest.ending; output = output ++ rest.output }

-- What was read of a text: some lines, and what they tell: labels, what those wrote, and the numbers by which they are
-- picked; and the place to which they lead.
pub record Read : Type 0 where
  pub front : List ℕ
  pub count : ℕ
  pub labels : List Label
  pub output : List ℕ
  pub numbers : List ℕ
  pub place : Place

-- nothing is told by the first line of a trace
abbrev pub read_first : Place → Read
read_first place = record { front = ended first_line; count = 1; labels = []; output = []; numbers = []; place = place }

-- a line more is read, which tells a label
abbrev pub read_more : Read → List ℕ → Label → List ℕ → List ℕ → Place → Read
read_more r line label output numbers next = record {
  front = r.front ++ line;
  count = suc r.count;
  labels = r.labels ++ label ∷ [];
  output = r.output ++ output;
  numbers = r.numbers ++ numbers;
  place = next;
}

-- Whatever a run logs from the place on makes a log of the program together with what was read, and no other log begins
-- with that.
pub record ReadSoFar (core : Core) (beginning : Beginning) (bound : ℕ) (r : Read) : Type 0 where
  pub lines : first_lines r.count r.front ≡ Some r.front
  pub sound : IsSoundAt core r.place
  pub leads : (rest : Told) (log : List ℕ) → Rest core r.place rest log
      → IsLogOf core beginning bound (told_before r.labels r.output rest) (r.front ++ log)
      × (picks_of core beginning bound (told_before r.labels r.output rest) ≡ r.numbers ++ numbers_left core r.place rest)
  pub only : (told : Told) (log : List ℕ) → IsLogOf core beginning bound told (r.front ++ log)
      → (rest : Told) × Rest core r.place rest log × (told ≡ told_before r.labels r.output rest)

-- the run may end here so
abbrev pub MayEnd : Core → Place → Ending → Type 0
MayEnd core (At turn config left) end = IsAtRest config end ⊎ IsCutOff (MayDerive turn config) core config left end
MayEnd core (End last) end = end ≡ last

-- and these are the numbers that it ends with
abbrev pub numbers_last : Core → Place → Ending → List ℕ
numbers_last core (At turn config left) end = last_numbers core end.verdict config left
numbers_last core (End last) end = []

-- a label's line: that of its event
pub record IsLineOf (core : Core) (turn : ℕ) (config : Config) (label : Label) (line : List ℕ) : Type 0 where
  pub event : Event
  pub told : event_at core turn config label ≡ Some event
  pub is : event_line event ≡ line

-- a line is that of an event, or of a label
abbrev pub has_line : List ℕ → Option Event → Bool
has_line line None = false
has_line line (Some e) = bytes_eq (event_line e) line

abbrev pub has_line_at : Core → ℕ → Config → List ℕ → Label → Bool
has_line_at core turn config line label = has_line line (event_at core turn config label)

-- the place that a step leads to
abbrev pub LeadsTo : ℕ → Config → Outcome → List ℕ → Place → Type 0
LeadsTo turn config (Next new text left) output place = (output ≡ text) × (place ≡ At (suc turn) new left)
LeadsTo turn config (Over verdict) output place = (output ≡ []) × (place ≡ End (ending_at verdict config))
LeadsTo turn config outcome.Spent output place = ⊥
LeadsTo turn config outcome.Amiss output place = ⊥

-- a line tells what the run does next: a label that may come and costs no more than is left
pub record Tells (core : Core) (turn : ℕ) (config : Config) (left : ℕ) (line : List ℕ) (label : Label) (output : List ℕ) (next : Place) : Type 0 where
  pub may : Contains (enabled config) label
  pub line_of : IsLineOf core turn config label line
  pub leads : LeadsTo turn config (step core config label left) output next

-- no label that may come here and costs no more than is left has this line
abbrev pub NoLabel : Core → Place → List ℕ → Type 0
NoLabel core (At turn config left) line =
    (label : Label) → Contains (enabled config) label → IsLineOf core turn config label line → step core config label left ≡ outcome.Spent
NoLabel core (End end) line = Unit {0}

-- and no ending that the run may have here
abbrev pub NoEnding : Core → Place → List ℕ → Type 0
NoEnding core place line = (end : Ending) → MayEnd core place end → ending_line core end ≢ line
