-- Policies by formulas have an answer to each question: what the formula gives, which is one of the choices.
use Rattle.std.specs.Prelude.{◌≡◌, ℕ, ◌<◌, List, Option, Some, None, slice_get}
use Rattle.std.proofs.Common.{refl, arith}
use Rattle.std.proofs.lemmas.Bool.Decides.{nat_tests}
use Rattle.chi_sched.specs.Policies.{IsAsked, GivesSome, first, last, spread, listed, listed_at}

pub by_formula : (pick : ℕ → ℕ → ℕ) → ((question count : ℕ) → IsAsked question count → pick question count < count)
    → GivesSome (λ question count answer. answer ≡ pick question count)
by_formula pick below question count asked = ∣ (pick question count, below question count asked, refl) ∣₁

pub first_below : (question count : ℕ) → IsAsked question count → first question count < count
first_below question count asked = asked.some

pub last_below : (question count : ℕ) → IsAsked question count → last question count < count
last_below question count asked = let some : 0 < count = asked.some in omega arith

pub spread_below : (salt question count : ℕ) → IsAsked question count → spread salt question count < count
spread_below salt question count asked = let some : 0 < count = asked.some in omega arith

listed_at_below : (o : Option ℕ) (count : ℕ) → 0 < count → listed_at o count < count
listed_at_below None count some = some
listed_at_below (Some pick) count some = grind (arith, nat_tests)

pub listed_below : (picks : List ℕ) (question count : ℕ) → IsAsked question count → listed picks question count < count
listed_below picks question count asked = listed_at_below (slice_get picks question) count asked.some
