-- How runs of sound programs end.
use Rattle.std.specs.Prelude.{ℕ}
use Rattle.chi_core.specs.declared.program.Core.{Core}
use Rattle.chi_core.specs.Beginning.{Beginning}
use Rattle.chi_core.specs.Runs.{Told, Derivation}
use Rattle.chi_core.specs.Sound.{Sound}
use Rattle.chi_core.specs.VerdictLine.{MayTell}
use Rattle.chi_core_runs.specs.Picked.{IsBeginning}

-- the verdict of each derivation can be told
abbrev pub EachEndingIsTold : Type 0
EachEndingIsTold =
    (core : Core) → Sound core → (beginning : Beginning) → IsBeginning core beginning → (bound : ℕ) (told : Told)
    → Derivation core beginning bound told → MayTell core told.ending.verdict
