-- Runs that are picked turn by turn: each way to go on from a configuration.
use Rattle.std.specs.Prelude.{◌≡◌, ℕ, suc, ◌+◌, ◌≤◌, List, [], ◌∷◌, ◌++◌, Some, length}
use Rattle.chi_core.specs.declared.label.Label.{Label}
use Rattle.chi_core.specs.declared.program.Core.{Core}
use Rattle.chi_core.specs.declared.verdict.Verdict.{Verdict}
use Rattle.chi_core.specs.declared.verdict.Verdict.TheVariants.{OutOfSteps}
use Rattle.chi_core.specs.Beginning.{Beginning, Begins}
use Rattle.chi_core.specs.Config.{Config}
use Rattle.chi_core.specs.Options.{Ending, ending_at, ending}
use Rattle.chi_core.specs.Picks.{Pick, MayPick, PicksFrom, Picked}
use Rattle.chi_core.specs.Runs.{Told}
use Rattle.chi_core.specs.Step as outcome
use Rattle.chi_core.specs.Step.{Next, Over, step}

-- a label and what it wrote, and then the rest
abbrev pub told_first : Label → List ℕ → Told → Told
told_first label text told = record { labels = label ∷ told.labels; ending = told.ending; output = text ++ told.output }

-- no label, only an ending
abbrev pub told_last : Ending → Told
told_last end = record { labels = []; ending = end; output = [] }

-- a picked label goes on, and the policy picks the rest
abbrev pub PicksOn : Type 0
PicksOn =
    (core : Core) (pick : Pick) (turn : ℕ) (config : Config) (left : ℕ) (label : Label) (new : Config) (text : List ℕ) (rest : ℕ) (told : Told)
    → MayPick pick turn config label → step core config label left ≡ Next new text rest → PicksFrom core pick (suc turn) new rest told
    → PicksFrom core pick turn config left (told_first label text told)

-- a picked label ends the run
abbrev pub PicksOver : Type 0
PicksOver =
    (core : Core) (pick : Pick) (turn : ℕ) (config : Config) (left : ℕ) (label : Label) (verdict : Verdict)
    → MayPick pick turn config label → step core config label left ≡ Over verdict
    → PicksFrom core pick turn config left (told_first label [] (told_last (ending_at verdict config)))

-- a picked label costs too much
abbrev pub PicksCutOff : Type 0
PicksCutOff =
    (core : Core) (pick : Pick) (turn : ℕ) (config : Config) (left : ℕ) (label : Label)
    → MayPick pick turn config label → step core config label left ≡ outcome.Spent
    → PicksFrom core pick turn config left (told_last (ending_at OutOfSteps config))

-- nothing is enabled
abbrev pub PicksAtRest : Type 0
PicksAtRest =
    (core : Core) (pick : Pick) (turn : ℕ) (config : Config) (left : ℕ) (end : Ending)
    → ending config ≡ Some end → PicksFrom core pick turn config left (told_last end)

-- A run is under way: after these labels, which wrote this text, it is in a configuration with so much left of the bound.
-- Whatever the policy picks from there is the rest of the run that it picks; and as many labels as were taken, or more, are used up.
pub record UnderWay (core : Core) (beginning : Beginning) (pick : Pick) (bound : ℕ) (labels : List Label) (text : List ℕ) (config : Config) (left : ℕ) : Type 0 where
  pub within : length labels + left ≤ bound
  pub leads : (told : Told) → PicksFrom core pick (length labels) config left told
      → Picked core beginning pick bound (record { labels = labels ++ told.labels; ending = told.ending; output = text ++ told.output })

abbrev pub WayBegins : Type 0
WayBegins =
    (core : Core) (pick : Pick) (bound : ℕ) (config : Config) → UnderWay core (Begins config) pick bound [] [] config bound

abbrev pub WayGoesOn : Type 0
WayGoesOn =
    (core : Core) (beginning : Beginning) (pick : Pick) (bound : ℕ) (labels : List Label) (text : List ℕ) (config : Config) (left : ℕ)
    → UnderWay core beginning pick bound labels text config left
    → (label : Label) → MayPick pick (length labels) config label
    → (new : Config) (more : List ℕ) (rest : ℕ) → step core config label left ≡ Next new more rest
    → UnderWay core beginning pick bound (labels ++ label ∷ []) (text ++ more) new rest

-- the three ends of the way

abbrev pub WayIsOver : Type 0
WayIsOver =
    (core : Core) (beginning : Beginning) (pick : Pick) (bound : ℕ) (labels : List Label) (text : List ℕ) (config : Config) (left : ℕ)
    → UnderWay core beginning pick bound labels text config left
    → (label : Label) → MayPick pick (length labels) config label → (verdict : Verdict) → step core config label left ≡ Over verdict
    → Picked core beginning pick bound (record { labels = labels ++ label ∷ []; ending = ending_at verdict config; output = text })

abbrev pub WayIsCutOff : Type 0
WayIsCutOff =
    (core : Core) (beginning : Beginning) (pick : Pick) (bound : ℕ) (labels : List Label) (text : List ℕ) (config : Config) (left : ℕ)
    → UnderWay core beginning pick bound labels text config left
    → (label : Label) → MayPick pick (length labels) config label → step core config label left ≡ outcome.Spent
    → Picked core beginning pick bound (record { labels = labels; ending = ending_at OutOfSteps config; output = text })

abbrev pub WayRests : Type 0
WayRests =
    (core : Core) (beginning : Beginning) (pick : Pick) (bound : ℕ) (labels : List Label) (text : List ℕ) (config : Config) (left : ℕ)
    → UnderWay core beginning pick bound labels text config left → (end : Ending) → ending config ≡ Some end
    → Picked core beginning pick bound (record { labels = labels; ending = end; output = text })
