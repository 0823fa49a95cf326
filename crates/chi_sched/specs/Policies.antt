-- Policies: what is picked at each question of a run, among so many choices.
use Rattle.std.specs.Prelude.{◌≡◌, ℕ, ◌+◌, ◌-◌, ◌*◌, ◌/◌, ◌%◌, ◌^◌, ◌<◌, List, Option, Some, None, slice_get, nat_lt, if◌then◌else◌}

-- a question of this number, of so many choices, may be asked
pub record IsAsked (question count : ℕ) : Type 0 where
  pub numbered : question < 2 ^ 64
  pub some : 0 < count
  pub counted : count < 2 ^ 64

-- no question that may be asked has two answers
abbrev pub GivesOne : (ℕ → ℕ → ℕ → Type 0) → Type 0
GivesOne gives = (question count answer other : ℕ) → IsAsked question count
    → gives question count answer → gives question count other → answer ≡ other

-- each question that may be asked has an answer, which is one of the choices
abbrev pub GivesSome : (ℕ → ℕ → ℕ → Type 0) → Type 0
GivesSome gives = (question count : ℕ) → IsAsked question count → ∥ ((answer : ℕ) × (answer < count) × gives question count answer) ∥₁

-- the function tells what is given to each question that may be asked, and that is one of the choices
abbrev pub Answers : (ℕ → ℕ → ℕ → Type 0) → (ℕ → ℕ → ℕ) → Type 0
Answers gives pick = (question count : ℕ) → IsAsked question count
    → (pick question count < count) × ∥ gives question count (pick question count) ∥₁

-- What is kept of a closure: it may be called for each question that may be asked, and has there one possible
-- answer, which is one of the choices.
pub record Lawful (may_call : ℕ → ℕ → Type 0) (may_answer : ℕ → ℕ → ℕ → Type 0) : Type 0 where
  pub callable : (question count : ℕ) → IsAsked question count → may_call question count
  pub pick : ℕ → ℕ → ℕ
  pub below : (question count : ℕ) → IsAsked question count → pick question count < count
  pub answers : (question count : ℕ) → IsAsked question count → may_answer question count (pick question count)
  pub only : (question count answer : ℕ) → IsAsked question count → answer < 2 ^ 64
      → may_answer question count answer → answer ≡ pick question count

-- an answer that a closure may give, among the choices
abbrev pub AnswersBelow : (ℕ → ℕ → ℕ → Type 0) → ℕ → ℕ → ℕ → Type 0
AnswersBelow may_answer question count answer = (answer < count) × may_answer question count answer

-- the first choice
abbrev pub first : ℕ → ℕ → ℕ
first question count = 0

-- the last one
abbrev pub last : ℕ → ℕ → ℕ
last question count = count - 1

-- one that the question and a salt spread over the choices
abbrev pub spread : ℕ → ℕ → ℕ → ℕ
spread salt question count = (salt * 31 + question * 2_654_435_761 + 12_345) % 2 ^ 64 / 65_536 % count

-- the number that a list has for a question, where it has one that is a choice; else the first choice
abbrev pub listed_at : Option ℕ → ℕ → ℕ
listed_at None count = 0
listed_at (Some pick) count = if nat_lt pick count then pick else 0

abbrev pub listed : List ℕ → ℕ → ℕ → ℕ
listed picks question count = listed_at (slice_get picks question) count
