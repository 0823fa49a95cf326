-- Runs: labels taken in turn, up to an ending. A derivation takes any enabled label.
use Rattle.std.specs.Prelude.{◌≡◌, ◌⊎◌, ℕ, suc, List, [], ◌∷◌, ◌++◌, Some, Contains}
use Rattle.chi_core.specs.declared.program.Core.{Core}
use Rattle.chi_core.specs.declared.label.Label.{Label}
use Rattle.chi_core.specs.declared.verdict.Verdict.TheVariants.{OutOfSteps}
use Rattle.chi_core.specs.Config.{Config}
use Rattle.chi_core.specs.Step.{Outcome, Next, Over, Spent, Amiss, step}
use Rattle.chi_core.specs.Options.{Ending, ending_at, enabled, ending}
use Rattle.chi_core.specs.Beginning.{Beginning, Begins, Breaks}
use Rattle.chi_core.specs.Beginning as beginning

-- What is told along a run: of each label in turn something, by its turn, the configuration before it and what
-- its step comes to. So are told the text that is written, the lines of a trace and the numbers of a policy.
abbrev pub Tells : Type 0 → Type 0
Tells A = ℕ → Config → Label → Outcome → List A

-- and after the last label something, by the configuration there and what is left of the bound
abbrev pub TellsLast : Type 0 → Type 0
TellsLast A = Config → ℕ → List A

abbrev pub nothing : {A : Type 0} → TellsLast A
nothing config left = []

-- where a step goes on, what is told from there
abbrev pub told_after : {A : Type 0} → (Config → ℕ → List A) → Outcome → List A
told_after rest (Next new text left) = rest new left
told_after rest (Over verdict) = []
told_after rest Spent = []
told_after rest Amiss = []

unfoldable pub along : {A : Type 0} → Tells A → TellsLast A → Core → ℕ → Config → ℕ → List Label → List A
along tells last core turn config left [] = last config left
along tells last core turn config left (label ∷ labels) =
    tells turn config label (step core config label left)
    ++ told_after (λ new rest. along tells last core (suc turn) new rest labels) (step core config label left)

-- the text that a step writes
abbrev pub text_in : Outcome → List ℕ
text_in (Next new text left) = text
text_in (Over verdict) = []
text_in Spent = []
text_in Amiss = []

abbrev pub text_told : Tells ℕ
text_told turn config label outcome = text_in outcome

-- nothing is enabled, and the run ends so
abbrev pub IsAtRest : Config → Ending → Type 0
IsAtRest config end = ending config ≡ Some end

-- a label that may come next costs more than is left, and the run is cut off before it
pub record IsCutOff (may : Label → Type 0) (core : Core) (config : Config) (left : ℕ) (end : Ending) : Type 0 where
  pub label : Label
  pub may_come : may label
  pub spent : step core config label left ≡ Spent
  pub out_of_steps : end ≡ ending_at OutOfSteps config

-- after a step, the labels that are left are those of a run from where it goes on
abbrev pub After : (Config → ℕ → Type 0) → Outcome → Config → List Label → Ending → Type 0
After Rest (Next new text left) config labels end = Rest new left
After Rest (Over verdict) config labels end = (labels ≡ []) × (end ≡ ending_at verdict config)
After Rest Spent config labels end = ⊥
After Rest Amiss config labels end = ⊥

-- From a configuration at a turn, with so much left of the bound, these labels are taken in turn, each
-- one that `may` come there, and the run ends so.
unfoldable pub Runs : (ℕ → Config → Label → Type 0) → Core → ℕ → Config → ℕ → List Label → Ending → Type 0
Runs may core turn config left [] end = IsAtRest config end ⊎ IsCutOff (may turn config) core config left end
Runs may core turn config left (label ∷ labels) end =
    may turn config label
    × After (λ new rest. Runs may core (suc turn) new rest labels end) (step core config label left) config labels end

-- all that a run did: its labels, how and when it ended, and what it wrote
pub record Told : Type 0 where
  pub labels : List Label
  pub ending : Ending
  pub output : List ℕ

-- a run from a configuration at a turn
abbrev pub RunsFrom : (ℕ → Config → Label → Type 0) → Core → ℕ → Config → ℕ → Told → Type 0
RunsFrom may core turn config left told =
    Runs may core turn config left told.labels told.ending × (told.output ≡ along text_told nothing core turn config left told.labels)

-- a run from the beginning, which a constant may have ended
abbrev pub RunsFromStart : (ℕ → Config → Label → Type 0) → Core → Beginning → ℕ → Told → Type 0
RunsFromStart may core (Begins config) bound told = RunsFrom may core 0 config bound told
RunsFromStart may core (Breaks ending) bound told = told ≡ record { labels = []; ending = ending; output = [] }
RunsFromStart may core beginning.Amiss bound told = ⊥

abbrev pub MayDerive : ℕ → Config → Label → Type 0
MayDerive turn config label = Contains (enabled config) label

-- a run within a bound, each label enabled in its turn
abbrev pub Derivation : Core → Beginning → ℕ → Told → Type 0
Derivation core beginning bound told = RunsFromStart MayDerive core beginning bound told
