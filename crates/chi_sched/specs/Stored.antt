-- The one answer of a stored policy, from what it keeps of its closure, and that there is one.
use Rattle.std.specs.Prelude.{◌≡◌, ℕ, ◌<◌, ◌^◌}
use Rattle.std.proofs.Common.{◌∙◌, sym, arith}
use Rattle.std.proofs.Math.Logic.{∥∥₁_elim, ∥∥₁_map}
use Rattle.std.specs.Coded.{Coded-set, coded_ℕ}
use Rattle.chi_sched.specs.Policies.{IsAsked, Lawful, AnswersBelow, GivesSome}

-- what may be answered to a question is the one pick
only_pick : (may_call : ℕ → ℕ → Type 0) (may_answer : ℕ → ℕ → ℕ → Type 0) (question count answer : ℕ)
    → (lawful : Lawful may_call may_answer) → IsAsked question count → AnswersBelow may_answer question count answer
    → answer ≡ lawful.pick question count
only_pick may_call may_answer question count answer lawful asked a =
    let counted : count < 2 ^ 64 = asked.counted in
    let below : answer < count = a.0 in
    lawful.only question count answer asked (omega arith) a.1

pub one_answer : (may_call : ℕ → ℕ → Type 0) (may_answer : ℕ → ℕ → ℕ → Type 0) → ∥ Lawful may_call may_answer ∥₁
    → (question count answer other : ℕ) → IsAsked question count → AnswersBelow may_answer question count answer
    → AnswersBelow may_answer question count other → answer ≡ other
one_answer may_call may_answer lawful question count answer other asked a b =
    ∥∥₁_elim lawful (Coded-set coded_ℕ answer other) (λ l. only_pick may_call may_answer question count answer l asked a
    ∙ sym (only_pick may_call may_answer question count other l asked b))

pub some_answer : (may_call : ℕ → ℕ → Type 0) (may_answer : ℕ → ℕ → ℕ → Type 0) → ∥ Lawful may_call may_answer ∥₁ → GivesSome (AnswersBelow may_answer)
some_answer may_call may_answer lawful question count asked =
    ∥∥₁_map lawful (λ l. (l.pick question count, l.below question count asked, (l.below question count asked, l.answers question count asked)))
