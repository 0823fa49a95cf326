-- The taking of a label.
use Rattle.std.specs.Prelude.{◌≡◌, ◌≢◌, ◌≤◌, List, [], ◌++◌, Option, None, MatchOption, length, ℕ}
use Rattle.chi_core.specs.declared.limits.TheConstants.{MOST_INSTANCES}
use Rattle.chi_core.specs.Config.{Config}
use Rattle.chi_core.specs.Step as outcome
use Rattle.chi_core.specs.Step.{Outcome}
use Rattle.chi_core.specs.declared.verdict.Verdict.TheVariants as verdict
use Rattle.chi_core_frame.specs.declared.stop.Stop.{Stop}
use Rattle.chi_core_frame.specs.declared.stop.Stop.TheVariants as stop
use Rattle.chi_plain_steps.specs.declared.stepping.Went.{Went}
use Rattle.chi_plain_steps.specs.declared.stepping.Went.TheVariants.{On, Over, Spent}

-- a step isn't amiss, and where it goes on there are as many instances as there may be
abbrev pub IsRight : Outcome → Type 0
IsRight (outcome.Next config text left) = length config.instances ≤ MOST_INSTANCES
IsRight (outcome.Over verdict) = Unit {0}
IsRight outcome.Spent = Unit {0}
IsRight outcome.Amiss = ⊥

-- a step has led from old to new, with a text that was written
abbrev pub Takes : Outcome → Config → Config → List ℕ → Went → Type 0
Takes it old new text (On left) = it ≡ outcome.Next new text left
Takes it old new text (Over verdict) = (it ≡ outcome.Over verdict) × (text ≡ [])
Takes it old new text Spent = (it ≡ outcome.Spent) × (new ≡ old) × (text ≡ [])

-- a fault has a name
abbrev pub HasName : Stop → Option (List ℕ) → Type 0
HasName (stop.Fault kind) name = name ≢ None
HasName stop.Spent name = Unit {0}
HasName stop.NoMemory name = Unit {0}

-- what an item comes to that isn't done, with the name of its definition and its line
abbrev pub StopsAs : Stop → Option (List ℕ) → ℕ → Went → Type 0
StopsAs (stop.Fault kind) name line went = MatchOption name ⊥ (λ n. went ≡ Over (verdict.Fault kind n line))
StopsAs stop.Spent name line went = went ≡ Spent
StopsAs stop.NoMemory name line went = ⊥

-- a text goes to the end of what was there, and P holds of it
abbrev pub Appends : List ℕ → List ℕ → (List ℕ → Type 0) → Type 0
Appends before after P = (text : List ℕ) × (after ≡ before ++ text) × P text
