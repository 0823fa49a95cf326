-- What is told along a run, turn by turn: its text, the lines of a trace, or the numbers of a policy.
use Rattle.std.specs.Prelude.{◌≡◌, ℕ, List, [], ◌∷◌, ◌++◌, length}
use Rattle.chi_core.specs.declared.label.Label.{Label}
use Rattle.chi_core.specs.declared.program.Core.{Core}
use Rattle.chi_core.specs.declared.verdict.Verdict.{Verdict}
use Rattle.chi_core.specs.Config.{Config}
use Rattle.chi_core.specs.Runs.{Tells, TellsLast, along}
use Rattle.chi_core.specs.Step.{Next, Over, step}

-- So much was told of a run from its first configuration on: along these labels, which led to a configuration with so
-- much left of the bound. Whatever is told from there comes after it.
pub record ToldSoFar {A : Type 0} (tells : Tells A) (last : TellsLast A) (core : Core) (first : Config) (bound : ℕ) (labels : List Label) (told : List A) (config : Config) (left : ℕ) : Type 0 where
  pub goes_on : (more : List Label)
      → along tells last core 0 first bound (labels ++ more) ≡ told ++ along tells last core (length labels) config left more

abbrev pub NothingTold : Type 0
NothingTold = (tells : Tells ℕ) (last : TellsLast ℕ) (core : Core) (first : Config) (bound : ℕ) → ToldSoFar tells last core first bound [] [] first bound

-- a step that goes on tells something of its label
abbrev pub MoreIsTold : Type 0
MoreIsTold =
    (tells : Tells ℕ) (last : TellsLast ℕ) (core : Core) (first : Config) (bound : ℕ) (labels : List Label) (told : List ℕ) (config : Config) (left : ℕ)
    → ToldSoFar tells last core first bound labels told config left
    → (label : Label) (new : Config) (text : List ℕ) (rest : ℕ) → step core config label left ≡ Next new text rest
    → ToldSoFar tells last core first bound (labels ++ label ∷ []) (told ++ tells (length labels) config label (Next new text rest)) new rest

-- all that is told of a run, where its last label ends it, and where it ends without one

abbrev pub AllIsTold : Type 0
AllIsTold =
    (tells : Tells ℕ) (last : TellsLast ℕ) (core : Core) (first : Config) (bound : ℕ) (labels : List Label) (told : List ℕ) (config : Config) (left : ℕ)
    → ToldSoFar tells last core first bound labels told config left
    → (label : Label) (verdict : Verdict) → step core config label left ≡ Over verdict
    → along tells last core 0 first bound (labels ++ label ∷ []) ≡ told ++ tells (length labels) config label (Over verdict)

abbrev pub LastIsTold : Type 0
LastIsTold =
    (tells : Tells ℕ) (last : TellsLast ℕ) (core : Core) (first : Config) (bound : ℕ) (labels : List Label) (told : List ℕ) (config : Config) (left : ℕ)
    → ToldSoFar tells last core first bound labels told config left
    → along tells last core 0 first bound labels ≡ told ++ last config left
