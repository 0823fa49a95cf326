-- Due times of numbers, as a list that has each number's due time or nothing, below some room.
use Rattle.std.specs.Prelude.{◌≡◌, ℕ, ◌≤◌, ℤ, ◌≤ℤ◌, List, Option, None, Some, get_or}

-- the due time of a number
abbrev pub due_of : List (Option ℤ) → ℕ → Option ℤ
due_of dues x = get_or dues x None

-- time t of number x doesn't come after time u of number y
pub record NotAfter (t : ℤ) (x : ℕ) (u : ℤ) (y : ℕ) : Type 0 where
  pub times : t ≤ℤ u
  pub numbers : u ≤ℤ t → x ≤ y

-- t is the least due time, and x the least number that has it
pub record IsLeast (dues : List (Option ℤ)) (t : ℤ) (x : ℕ) : Type 0 where
  pub is_due : due_of dues x ≡ Some t
  pub least : (y : ℕ) (u : ℤ) → due_of dues y ≡ Some u → NotAfter t x u y

-- no number has a due time
abbrev pub NoneDue : List (Option ℤ) → Type 0
NoneDue dues = (x : ℕ) → due_of dues x ≡ None

-- each number has the due time that it had
abbrev pub SameDues : List (Option ℤ) → List (Option ℤ) → Type 0
SameDues old new = (x : ℕ) → due_of new x ≡ due_of old x
