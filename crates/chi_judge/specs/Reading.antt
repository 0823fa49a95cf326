-- Private to proofs: what a line of a log tells, and a log that is read line by line.
use Rattle.std.specs.Prelude.{◌≡◌, ◌⊎◌, ℕ, suc, ◌+◌, ◌≤◌, List, ◌++◌, Contains, length}
use Rattle.chi_core.specs.declared.label.Label.{Label}
use Rattle.chi_core.specs.declared.program.Core.{Core}
use Rattle.chi_core.specs.Beginning.{Beginning}
use Rattle.chi_core.specs.Config.{Config}
use Rattle.chi_core.specs.Options.{Ending, enabled}
use Rattle.chi_core.specs.Picks.{numbers_of}
use Rattle.chi_core.specs.Step as outcome
use Rattle.chi_core.specs.Step.{step}
use Rattle.chi_core_runs.specs.Picked.{IsBeginning}
use Rattle.chi_plain.specs.Stage as stage
use Rattle.chi_plain.specs.Stage.{Stage, Begun}
use Rattle.chi_trace.specs.Lines.{first_line}
use Rattle.chi_trace.specs.Logs.{ended}
use Rattle.chi_log.specs.Allowed.{ending_line}
use Rattle.chi_log.specs.Laws.{IsRefused}
use Rattle.chi_log.specs.Reading.{Place, At, End, LeadsTo, MayEnd, IsLineOf, NoEnding, NoLabel, Read, ReadSoFar, Tells, numbers_last}
use Rattle.chi_judge.specs.declared.judged.Judged.{Judged}
use Rattle.chi_judge.specs.declared.judged.Judged.TheVariants.{Yes, No, NoMemory}
use Rattle.chi_judge.specs.declared.places.Found.{Found}
use Rattle.chi_judge.specs.declared.reader.Reader.{Reader}
use Rattle.chi_judge.specs.declared.reader.Told.{Told}
use Rattle.chi_judge.specs.declared.reader.Told.TheVariants as told
use Rattle.chi_judge.specs.Judging.{IsLogBy}

-- a runner stands at a place
abbrev pub StandsAt : Stage → ℕ → ℕ → Place → Type 0
StandsAt (stage.At config) turn left place = place ≡ At turn config left
StandsAt (stage.Ended end) turn left place = place ≡ End end
StandsAt stage.Lost turn left place = ⊥

abbrev pub IsAt : Reader → Place → Type 0
IsAt r place = StandsAt r.runner.stage r.turn r.left place

-- a label that may come was taken: it led to a place, and its numbers and what it wrote were added
pub record Goes (core : Core) (turn : ℕ) (config : Config) (left : ℕ) (label : Label) (old new : Reader) (before after' : List ℕ) : Type 0 where
  pub output : List ℕ
  pub next : Place
  pub leads : LeadsTo turn config (step core config label left) output next
  pub stands : IsAt new next
  pub written : after' ≡ before ++ output
  pub picked : new.picks.items ≡ old.picks.items ++ numbers_of config label

-- or it costs too much
abbrev pub IsTakenIn : Core → Config → Found → Reader → Reader → List ℕ → List ℕ → Told → Type 0
IsTakenIn core config f old new before after' told.Label = Goes core old.turn config old.left f.label old new before after'
IsTakenIn core config f old new before after' told.Ending = ⊥
IsTakenIn core config f old new before after' told.Nothing = (step core config f.label old.left ≡ outcome.Spent) × (after' ≡ before)

abbrev pub IsTakenAt : Stage → Found → Reader → Reader → List ℕ → List ℕ → Told → Type 0
IsTakenAt (stage.At config) f old new before after' told = IsTakenIn old.runner.core config f old new before after' told
IsTakenAt (stage.Ended end) f old new before after' told = ⊥
IsTakenAt stage.Lost f old new before after' told = ⊥

abbrev pub IsTaken : Found → Reader → Reader → List ℕ → List ℕ → Told → Type 0
IsTaken f old new before after' told = IsTakenAt old.runner.stage f old new before after' told

-- the run ends so at a place, and the numbers by which it ends were added
pub record Ends (core : Core) (place : Place) (line : List ℕ) (old new : Reader) : Type 0 where
  pub ending : Ending
  pub may : MayEnd core place ending
  pub is : ending_line core ending ≡ line
  pub picked : new.picks.items ≡ old.picks.items ++ numbers_last core place ending

-- a line that tells no label: it tells how the run ends, or nothing
abbrev pub EndsBy : Core → List ℕ → Reader → Reader → Told → Type 0
EndsBy core line old new told.Label = ⊥
EndsBy core line old new told.Ending = (place : Place) → IsAt old place → Ends core place line old new
EndsBy core line old new told.Nothing = (place : Place) → IsAt old place → NoEnding core place line

-- a line tells a label, which was taken
pub record TellsOne (core : Core) (turn : ℕ) (config : Config) (left : ℕ) (line : List ℕ) (old new : Reader) (before after' : List ℕ) : Type 0 where
  pub label : Label
  pub output : List ℕ
  pub next : Place
  pub tells : Tells core turn config left line label output next
  pub stands : IsAt new next
  pub written : after' ≡ before ++ output
  pub picked : new.picks.items ≡ old.picks.items ++ numbers_of config label

-- a label that has the line costs too much
pub record IsTooDear (core : Core) (turn : ℕ) (config : Config) (left : ℕ) (line : List ℕ) : Type 0 where
  pub label : Label
  pub may : Contains (enabled config) label
  pub line_of : IsLineOf core turn config label line
  pub spent : step core config label left ≡ outcome.Spent

abbrev pub TellsAt : Core → Place → List ℕ → Reader → Reader → List ℕ → List ℕ → Type 0
TellsAt core (At turn config left) line old new before after' = TellsOne core turn config left line old new before after'
TellsAt core (End end) line old new before after' = ⊥

abbrev pub TooDearAt : Core → Place → List ℕ → Type 0
TooDearAt core (At turn config left) line = IsTooDear core turn config left line
TooDearAt core (End end) line = ⊥

-- what was read of a line at a place
abbrev pub IsReadAt : Core → Place → List ℕ → Reader → Reader → List ℕ → List ℕ → Told → Type 0
IsReadAt core place line old new before after' told.Label = TellsAt core place line old new before after'
IsReadAt core place line old new before after' told.Ending = Ends core place line old new × (after' ≡ before)
IsReadAt core place line old new before after' told.Nothing =
    ((NoLabel core place line × NoEnding core place line) ⊎ TooDearAt core place line) × (after' ≡ before)

abbrev pub IsRead : Core → List ℕ → Reader → Reader → List ℕ → List ℕ → Told → Type 0
IsRead core line old new before after' told = (place : Place) → IsAt old place → IsReadAt core place line old new before after' told

-- a log that is read

-- so much was read of a text, and told by it
pub record ReadTo (core : Core) (beginning : Beginning) (bound : ℕ) (text before : List ℕ) (reader : Reader) (rest : List ℕ) (count : ℕ) (after' : List ℕ) : Type 0 where
  pub read : Read
  pub so_far : ReadSoFar core beginning bound read
  pub at : IsAt reader read.place
  pub is : text ≡ read.front ++ rest
  pub counted : count ≡ read.count
  pub written : after' ≡ before ++ read.output
  pub picked : reader.picks.items ≡ read.numbers

pub record Keeps (core : Core) (first : Stage) (bound : ℕ) (lines before : List ℕ) (reader : Reader) (rest : List ℕ) (count : ℕ) (after' : List ℕ) : Type 0 where
  pub same_core : reader.runner.core ≡ core
  pub early : reader.turn ≤ count
  pub few : count + length rest ≤ suc (length lines)
  pub reads : (beginning : Beginning) → IsBeginning core beginning → Begun beginning first
      → ReadTo core beginning bound (ended first_line ++ lines) before reader rest count after'

-- something was added
abbrev pub Grows : List ℕ → List ℕ → Type 0
Grows before after' = (more : List ℕ) × (after' ≡ before ++ more)

-- a text is judged, and what was written meanwhile wasn't taken back
abbrev pub IsJudgedSoFar : Core → Beginning → ℕ → List ℕ → List ℕ → List ℕ → Judged → Type 0
IsJudgedSoFar core beginning bound text before after' (Yes picks) =
    (output : List ℕ) × (after' ≡ before ++ output) × IsLogBy core beginning bound text output picks.items
IsJudgedSoFar core beginning bound text before after' (No line) = Grows before after' × IsRefused core beginning bound text line
IsJudgedSoFar core beginning bound text before after' NoMemory = Grows before after'
