-- The run by the list of a derivation's own picks is that derivation.
use Rattle.std.proofs.Common.{◌≡◌, ℕ, List, Option, Some, None, slice_get, refl, sym, ◌∙◌, ap, subst}
use Rattle.chi_core.specs.declared.program.Core.{Core}
use Rattle.chi_core.specs.Beginning.{Beginning, start}
use Rattle.chi_core.specs.Picks as core
use Rattle.chi_core.specs.Picks.{Pick, Picked, below_or_zero, picks_of}
use Rattle.chi_core_runs.specs.OwnNumbers.{OwnNumbersPickIt}
use Rattle.chi_sched.specs.Policies.{listed, listed_at}
use Rattle.chi_core.specs.Runs.{Told}
use Rattle.chi_engine.specs.Courses.{IsRunOf}
use Rattle.chi_engine.specs.Settings.{Settings}
use Rattle.chi_tool.specs.Simulations.{AreOwnPicks, IsDerived, course_of}

-- a list of numbers is one policy, by either definition
alike_at : (o : Option ℕ) (count : ℕ) → below_or_zero count o ≡ listed_at o count
alike_at None count = refl
alike_at (Some n) count = refl

listed_alike : (numbers : List ℕ) → core.listed numbers ≡ listed numbers
listed_alike numbers = λ i question count. alike_at (slice_get numbers question) count i

pub own_picks : OwnNumbersPickIt → (c : Core) (s : Settings) (told : Told) (log numbers : List ℕ) → IsDerived c s told log → AreOwnPicks c s told numbers
    → s.pick ≡ listed numbers → IsRunOf c s (course_of told log)
own_picks law c s told log numbers d own is =
    let begun : Beginning = start c s.arguments s.seed s.until in
    let same : core.listed (picks_of c begun s.bound told) ≡ s.pick = ap core.listed (sym own) ∙ listed_alike numbers ∙ sym is in
    let picked : Picked c begun (core.listed (picks_of c begun s.bound told)) s.bound told = (law c begun s.bound told d.derived).0 in
    record { labels = told.labels; picked = subst (λ (pick : Pick). Picked c begun pick s.bound told) same picked; logged = d.logged }
