-- What holds of the experiments of sound programs.
use Rattle.std.specs.Prelude.{◌≡◌, ℕ, ◌^◌, ◌<◌, List}
use Rattle.chi_core.specs.declared.program.Core.{Core}
use Rattle.chi_core.specs.Picks.{Pick, IsLawful}
use Rattle.chi_core.specs.Sound.{Sound}
use Rattle.chi_xper_machines.specs.declared.tale.Ended.{Ended}
use Rattle.chi_xper_machines.specs.Trials.{Trial, IsTrial, EndsSo, Logs}

-- something comes of the experiment of a sound program, by a lawful policy, and it has a word and a line
abbrev pub SomethingComesOfIt : Type 0
SomethingComesOfIt =
    (core : Core) → Sound core → (seed : ℕ) (pick : Pick) → IsLawful pick → (bound : ℕ) → bound < 2 ^ 63
    → (trial : Trial) × IsTrial core seed pick bound trial × ((ended : Ended) × EndsSo trial ended) × ((line : List ℕ) × Logs core trial line)

-- and one thing alone
abbrev pub OneTrial : Type 0
OneTrial =
    (core : Core) → Sound core → (seed : ℕ) (pick : Pick) (bound : ℕ) (trial other : Trial)
    → IsTrial core seed pick bound trial → IsTrial core seed pick bound other → trial ≡ other

-- which has one word
abbrev pub OneWord : Type 0
OneWord = (trial : Trial) (ended other : Ended) → EndsSo trial ended → EndsSo trial other → ended ≡ other

-- and one line
abbrev pub OneLine : Type 0
OneLine = (core : Core) (trial : Trial) (line other : List ℕ) → Logs core trial line → Logs core trial other → line ≡ other
