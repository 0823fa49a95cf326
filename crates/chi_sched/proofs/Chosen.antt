-- The function that tells what a chooser answers: where each question has one answer, and some answer.
use Rattle.std.proofs.Common.{◌≡◌, ℕ, ◌^◌, ◌<◌, Bool, true, false, nat_lt, ◌&&◌, refl, arith}
use Rattle.std.proofs.lemmas.Bool.Decides.{nat_tests}
use Rattle.std.proofs.Math.Logic.{∥∥₁_elim, ∥∥₁_map, ∥∥₁_prop}
use mathlib.Core.HLevel.{is_prop→PathP}
use Rattle.std.specs.Coded.{Coded-set, coded_ℕ}
use denote.Struct.Props.{props}
use Rattle.chi_sched.specs.Policies.{IsAsked, GivesOne, GivesSome, Answers}

module _ (gives : ℕ → ℕ → ℕ → Type 0) (one : GivesOne gives) (some : GivesSome gives) where
  -- an answer to a question
  abbrev Gives : ℕ → ℕ → ℕ → Type 0
  Gives question count answer = ∥ ((answer < count) × gives question count answer) ∥₁

  abbrev Answer : ℕ → ℕ → Type 0
  Answer question count = (answer : ℕ) × Gives question count answer

  same : (question count : ℕ) → IsAsked question count → (x y : Answer question count) → x.0 ≡ y.0
  same question count asked x y =
      ∥∥₁_elim x.1 (Coded-set coded_ℕ x.0 y.0) (λ a. ∥∥₁_elim y.1 (Coded-set coded_ℕ x.0 y.0) (λ b. one question count x.0 y.0 asked a.1 b.1))

  answer_prop : (question count : ℕ) → IsAsked question count → IsProp (Answer question count)
  answer_prop question count asked x y i =
      let p = same question count asked x y in (p i, is_prop→PathP (λ j. Gives question count (p j)) (λ j. ∥∥₁_prop) x.1 y.1 i)

  answer : (question count : ℕ) → IsAsked question count → Answer question count
  answer question count asked = ∥∥₁_elim (some question count asked) (answer_prop question count asked) (λ x. (x.0, ∣ (x.1, x.2) ∣₁))

  -- whether a question may be asked
  abbrev may_ask : ℕ → ℕ → Bool
  may_ask question count = nat_lt question (2 ^ 64) && nat_lt 0 count && nat_lt count (2 ^ 64)

  asked_by : (question count : ℕ) → may_ask question count ≡ true → IsAsked question count
  asked_by question count h = record { numbered = grind (arith, nat_tests); some = grind (arith, nat_tests); counted = grind (arith, nat_tests) }

  by_asking : (question count : ℕ) (b : Bool) → may_ask question count ≡ b → ℕ
  by_asking question count true h = (answer question count (asked_by question count h)).0
  by_asking question count false h = 0

  pick : ℕ → ℕ → ℕ
  pick question count = by_asking question count (may_ask question count) refl

  answered_by : (question count : ℕ) → IsAsked question count → (b : Bool) (h : may_ask question count ≡ b) → Gives question count (by_asking question count b h)
  unfolding by_asking answer
  answered_by question count asked true h = (answer question count (asked_by question count h)).1
  answered_by question count asked false h =
      let numbered : question < 2 ^ 64 = asked.numbered in
      let some' : 0 < count = asked.some in
      let counted : count < 2 ^ 64 = asked.counted in
      absurd (grind (arith, nat_tests))

  below : (question count n : ℕ) → Gives question count n → n < count
  below question count n given = let is : IsProp (n < count) = hlevel props in ∥∥₁_elim given is (λ x. x.0)

  pub answers : (pick : ℕ → ℕ → ℕ) × Answers gives pick
  unfolding pick
  answers = (
    pick,
    λ question count asked.
        let given = answered_by question count asked (may_ask question count) refl in
        (below question count (pick question count) given, ∥∥₁_map given (λ x. x.1)),
  )
