-- What is told of the instances where the run that a policy picks comes to rest.
use Rattle.std.specs.Prelude.{◌≡◌, ℕ, List, [], ◌∷◌, ◌++◌}
use Rattle.chi_core.specs.declared.label.Label.{Label}
use Rattle.chi_core.specs.declared.program.Core.{Core}
use Rattle.chi_core.specs.declared.verdict.Verdict.{Verdict}
use Rattle.chi_core.specs.declared.verdict.Verdict.TheVariants.{OutOfSteps}
use Rattle.chi_core.specs.Beginning.{Beginning, Begins, Breaks}
use Rattle.chi_core.specs.Beginning as beginning
use Rattle.chi_core.specs.Config.{Config}
use Rattle.chi_core.specs.Picks.{Pick, Picked}
use Rattle.chi_core.specs.Runs.{Told, told_after}
use Rattle.chi_core.specs.Step.{step}
use Rattle.chi_explain_labels.specs.Labels.{taken}
use Rattle.chi_explain_labels.specs.LabelsText.{labels_text}
use Rattle.chi_explain_waiting.specs.WaitingText.{waiting_text}
use Rattle.chi_explain_waiting.specs.Whereabouts.{lines_after}

-- out of steps: the bound, and which instances took the most of these labels
abbrev pub spent_told : Core → ℕ → List Label → Config → Verdict → List ℕ
spent_told core bound labels config OutOfSteps = labels_text core config (taken labels) bound
spent_told core bound labels config _ = []

-- in the last configuration of a run, with the lines that instances did last: who waits for what, and that
abbrev pub rest_text : Core → List ℕ → ℕ → Told → List ℕ → Config → List ℕ
rest_text core source bound told lines config =
    waiting_text core source lines config ++ spent_told core bound told.labels config told.ending.verdict

-- Of the configuration to which labels lead something, with the lines that instances did last. Of a run that its last label ended
-- nothing is told.
unfoldable pub waits_along : (List ℕ → Config → List ℕ) → Core → List ℕ → Config → ℕ → List Label → List ℕ
waits_along last core lines config left [] = last lines config
waits_along last core lines config left (label ∷ labels) =
    told_after (λ new rest. waits_along last core (lines_after config label lines) new rest labels) (step core config label left)

-- from the beginning of a run, where instances have done nothing yet; of one that a constant ended nothing is told
abbrev pub waits_of : Core → List ℕ → Beginning → ℕ → Told → List ℕ
waits_of core source (Begins config) bound told = waits_along (rest_text core source bound told) core [] config bound told.labels
waits_of core source (Breaks ending) bound told = []
waits_of core source beginning.Amiss bound told = []

-- the text is what is told of where the run that the policy picks comes to rest
pub record IsWaitingTold (core : Core) (source : List ℕ) (beginning : Beginning) (pick : Pick) (bound : ℕ) (text : List ℕ) : Type 0 where
  pub told : Told
  pub picked : Picked core beginning pick bound told
  pub is : text ≡ waits_of core source beginning bound told
