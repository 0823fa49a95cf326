-- Private to proofs: which label is looked for among those that may come next.
use Rattle.std.specs.Prelude.{◌≡◌, ◌↔◌, ℕ, List, [], ◌∷◌, Bool, true, false, Option, Some, None, IfSome, IsTrue, find, option_map, slice_get, Contains}
use Rattle.chi_core.specs.declared.label.Label.{Label}
use Rattle.chi_core.specs.declared.program.Core.{Core}
use Rattle.chi_core.specs.declared.verdict.Verdict.TheVariants.{OutOfSteps}
use Rattle.chi_core.specs.Config.{Config}
use Rattle.chi_core.specs.Options.{Ending, actors, options, enabled, ending, ending_at}
use Rattle.chi_core.specs.Picks.{is_spent, numbers_of}
use Rattle.chi_core.specs.Step as outcome
use Rattle.chi_core.specs.Step.{step}
use Rattle.chi_plain.specs.Stage.{Stage, At, Ended, Lost}
use Rattle.chi_log.specs.Allowed.{ending_line}
use Rattle.chi_log.specs.Reading.{has_line_at}
use Rattle.chi_judge.specs.declared.asking.Question.{Question}
use Rattle.chi_judge.specs.declared.asking.Question.TheVariants.{Line, Spent}
use Rattle.chi_judge.specs.declared.places.Found.{Found}

-- questions

-- the answer to a question on a label
abbrev pub passes : Core → Config → Question → Label → Bool
passes core config (Line turn line) label = has_line_at core turn config line.now label
passes core config (Spent left) label = is_spent (step core config label left)

abbrev pub HasLine : Core → Stage → ℕ → Label → List ℕ → Bool → Type 0
HasLine core (At config) turn label line has = has ≡ has_line_at core turn config line label
HasLine core (Ended end) turn label line has = ⊥
HasLine core Lost turn label line has = ⊥

abbrev pub Passes : Core → Stage → Question → Label → Bool → Type 0
Passes core (At config) question label is_so = is_so ≡ passes core config question label
Passes core (Ended end) question label is_so = ⊥
Passes core Lost question label is_so = ⊥

-- labels that are found

-- it may come, and these are the numbers by which it is picked
abbrev pub IsPlaced : Stage → Found → Type 0
IsPlaced (At config) f = Contains (enabled config) f.label × (numbers_of config f.label ≡ f.actor ∷ f.option ∷ [])
IsPlaced (Ended end) f = ⊥
IsPlaced Lost f = ⊥

abbrev pub label_in : Option Found → Option Label
label_in found = option_map (λ f. f.label) found

-- the first of some labels of which the answer is yes, with its numbers
abbrev pub IsFirstIn : Core → Config → Question → List Label → Option Found → Type 0
IsFirstIn core config question labels found = (find (passes core config question) labels ≡ label_in found) × IfSome found (IsPlaced (At config))

-- among the options of number i of the instances that have some
abbrev pub IsFirstOf : Core → Stage → Question → ℕ → Option Found → Type 0
IsFirstOf core (At config) question i found =
    (p : ℕ) → slice_get (actors config) i ≡ Some p → IsFirstIn core config question (options config p) found
IsFirstOf core (Ended end) question i found = ⊥
IsFirstOf core Lost question i found = ⊥

-- among all that may come
abbrev pub IsFirst : Core → Stage → Question → Option Found → Type 0
IsFirst core (At config) question found = IsFirstIn core config question (enabled config) found
IsFirst core (Ended end) question found = found ≡ None
IsFirst core Lost question found = found ≡ None

-- the label that has a line at a turn; or none has
abbrev pub IsLabelIn : Core → ℕ → Config → List ℕ → Option Found → Type 0
IsLabelIn core turn config line (Some f) = IsPlaced (At config) f × (has_line_at core turn config line f.label ≡ true)
IsLabelIn core turn config line None = (label : Label) → Contains (enabled config) label → has_line_at core turn config line label ≡ false

abbrev pub IsTheLabel : Core → Stage → ℕ → List ℕ → Option Found → Type 0
IsTheLabel core (At config) turn line found = IsLabelIn core turn config line found
IsTheLabel core (Ended end) turn line found = found ≡ None
IsTheLabel core Lost turn line found = found ≡ None

-- endings

-- the run is over or at rest, and the line tells that
abbrev pub RestsBy : Core → Stage → List ℕ → Bool → Type 0
RestsBy core (At config) line rests = IsTrue rests ↔ ((end : Ending) × (ending config ≡ Some end) × (ending_line core end ≡ line))
RestsBy core (Ended end) line rests = IsTrue rests ↔ (ending_line core end ≡ line)
RestsBy core Lost line rests = rests ≡ false

-- the line tells that the run is cut off, and this is the first label that costs too much; or it isn't so
abbrev pub IsCutIn : Core → Config → ℕ → List ℕ → Option Found → Type 0
IsCutIn core config left line (Some f) =
    (ending_line core (ending_at OutOfSteps config) ≡ line) × IsFirstIn core config (Spent left) (enabled config) (Some f)
IsCutIn core config left line None =
    (label : Label) → Contains (enabled config) label → step core config label left ≡ outcome.Spent → ending_line core (ending_at OutOfSteps config) ≡ line → ⊥

abbrev pub IsCutBy : Core → Stage → ℕ → List ℕ → Option Found → Type 0
IsCutBy core (At config) left line found = IsCutIn core config left line found
IsCutBy core (Ended end) left line found = found ≡ None
IsCutBy core Lost left line found = found ≡ None
