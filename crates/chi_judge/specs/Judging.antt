-- What is said of a text that may be the log of a run.
use Rattle.std.specs.Prelude.{◌≡◌, ℕ, List, ◌++◌}
use Rattle.chi_core.specs.declared.program.Core.{Core}
use Rattle.chi_core.specs.Beginning.{Beginning}
use Rattle.chi_core.specs.Picks.{picks_of}
use Rattle.chi_core.specs.Runs.{Told}
use Rattle.chi_log.specs.Allowed.{IsLogOf}
use Rattle.chi_log.specs.Laws.{IsRefused}
use Rattle.chi_judge.specs.declared.judged.Judged.{Judged}
use Rattle.chi_judge.specs.declared.judged.Judged.TheVariants.{Yes, No, NoMemory}

-- the text is the log of a derivation, which wrote this output and is made by these picks
pub record IsLogBy (core : Core) (beginning : Beginning) (bound : ℕ) (text output picks : List ℕ) : Type 0 where
  pub told : Told
  pub log_of : IsLogOf core beginning bound told text
  pub output_is : output ≡ told.output
  pub picks_are : picks ≡ picks_of core beginning bound told

-- Yes says that the text is a log, with its picks, and the run's output comes after what was there. No says that it is
-- none, with its first wrong line. Want of memory is tied to nothing. Only yes adds to the output.
abbrev pub IsJudged : Core → Beginning → ℕ → List ℕ → List ℕ → List ℕ → Judged → Type 0
IsJudged core beginning bound text before after' (Yes picks) =
    (output : List ℕ) × (after' ≡ before ++ output) × IsLogBy core beginning bound text output picks.items
IsJudged core beginning bound text before after' (No line) = (after' ≡ before) × IsRefused core beginning bound text line
IsJudged core beginning bound text before after' NoMemory = after' ≡ before
