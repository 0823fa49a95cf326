-- What it comes to when something is evaluated or done, and what that uses up.
use Rattle.std.specs.Prelude.{ℕ, zero, suc, Option, Some, None, List, [], ◌∷◌, ◌++◌}
use Rattle.chi_core.specs.declared.fault.FaultKind.{FaultKind}
pub use Rattle.chi_core.specs.declared.view.View.{View}

-- It gives something; or fails with a fault; or costs more than is left of the bound. It is amiss where a
-- value is of another kind than wanted, or something isn't there, which never happens in a sound program.
pub data Answer (A : Type 0) : Type 0 where
  Gives : A → View → Answer A
  Fails : FaultKind → Answer A
  Spent : Answer A
  Amiss : Answer A

-- something that is done
abbrev pub Does : Type 0 → Type 0
Does A = View → Answer A

-- the first, and then what is done with what it gives
abbrev pub then_do : {A B : Type 0} → Answer A → (A → Does B) → Answer B
then_do (Gives x view) next = next x view
then_do (Fails kind) next = Fails kind
then_do Spent next = Spent
then_do Amiss next = Amiss

-- it gives this, and nothing is used up
abbrev pub gives : {A : Type 0} → A → Does A
gives x view = Gives x view

abbrev pub fails : {A : Type 0} → FaultKind → Does A
fails kind view = Fails kind

abbrev pub amiss : {A : Type 0} → Does A
amiss view = Amiss

-- what is wanted, which is there
abbrev pub wanted : {A : Type 0} → Option A → Does A
wanted (Some x) view = Gives x view
wanted None view = Amiss

-- with what it gives changed
abbrev pub giving : {A B : Type 0} → (A → B) → Answer A → Answer B
giving f answer = then_do answer (λ x. gives (f x))

-- one of the bound is used up
abbrev pub ticked : ℕ → View → Answer (Unit {0})
ticked zero view = Spent
ticked (suc left) view = Gives tt (record view { left = left })

abbrev pub tick : Does (Unit {0})
tick view = ticked view.left view

-- one after another, from left to right; what each gives joins what those before it gave
abbrev pub gathered : {A : Type 0} → List A → List (Does A) → Does (List A)
gathered xs [] view = Gives xs view
gathered xs (first ∷ rest) view = then_do (first view) (λ x. gathered (xs ++ x ∷ []) rest)

abbrev pub in_turn : {A : Type 0} → List (Does A) → Does (List A)
in_turn = gathered []

-- for each element in turn, from one state to the next
abbrev pub through : {X S : Type 0} → (X → S → Does S) → List X → S → Does S
through each [] state view = Gives state view
through each (x ∷ xs) state view = then_do (each x state view) (through each xs)

-- the same so many times; what each gives joins what those before it gave
abbrev pub gathered_times : {A : Type 0} → List A → ℕ → Does A → Does (List A)
gathered_times xs zero each view = Gives xs view
gathered_times xs (suc count) each view = then_do (each view) (λ x. gathered_times (xs ++ x ∷ []) count each)

abbrev pub times : {A : Type 0} → ℕ → Does A → Does (List A)
times = gathered_times []
