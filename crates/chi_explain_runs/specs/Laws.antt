-- What is told of where a run comes to rest is one text.
use Rattle.std.specs.Prelude.{◌≡◌, ℕ, ◌^◌, ◌<◌, List}
use Rattle.chi_core.specs.declared.program.Core.{Core}
use Rattle.chi_core.specs.Beginning.{Beginning}
use Rattle.chi_core.specs.Picks.{IsLawful, Pick}
use Rattle.chi_core.specs.Sound.{Sound}
use Rattle.chi_core_runs.specs.Picked.{IsBeginning}
use Rattle.chi_explain_runs.specs.Waits.{IsWaitingTold}

abbrev pub WaitingToldOnce : Type 0
WaitingToldOnce =
    (core : Core) (source : List ℕ) (beginning : Beginning) (pick : Pick) (bound : ℕ) (text other : List ℕ)
    → IsWaitingTold core source beginning pick bound text → IsWaitingTold core source beginning pick bound other → text ≡ other

-- and there is one, of a sound program with a policy that picks one of the choices, within any bound below 2 ^ 63
abbrev pub WaitingToldAlways : Type 0
WaitingToldAlways =
    (core : Core) → Sound core → (beginning : Beginning) → IsBeginning core beginning
    → (pick : Pick) → IsLawful pick → (bound : ℕ) → bound < 2 ^ 63 → (source : List ℕ)
    → (text : List ℕ) × IsWaitingTold core source beginning pick bound text
