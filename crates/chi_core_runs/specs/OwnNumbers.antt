-- A derivation is picked by its own numbers.
use Rattle.std.specs.Prelude.{ℕ, List}
use Rattle.chi_core.specs.declared.program.Core.{Core}
use Rattle.chi_core.specs.Beginning.{Beginning}
use Rattle.chi_core.specs.Picks.{IsLawful, listed, picks_of}
use Rattle.chi_core.specs.Runs.{Told, Derivation}
use Rattle.chi_core_runs.specs.Picked.{PicksOnly}

-- the policy that answers a list of numbers is lawful
abbrev pub ListedIsLawful : Type 0
ListedIsLawful = (numbers : List ℕ) → IsLawful (listed numbers)

-- the policy that answers a derivation's own numbers picks that derivation and no other
abbrev pub OwnNumbersPickIt : Type 0
OwnNumbersPickIt =
    (core : Core) (beginning : Beginning) (bound : ℕ) (told : Told)
    → Derivation core beginning bound told → PicksOnly core beginning (listed (picks_of core beginning bound told)) bound told
