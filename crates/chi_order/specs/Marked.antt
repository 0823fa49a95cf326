-- A set of numbers, as a truth value for each number below some room.
use Rattle.std.specs.Prelude.{◌≡◌, ℕ, zero, suc, ◌++◌, List, [], ◌∷◌, Bool, false, filter, length, get_or}

-- the numbers below n, ascending
abbrev pub numbers : ℕ → List ℕ
numbers zero = []
numbers (suc n) = numbers n ++ n ∷ []

-- whether a number is in the set
abbrev pub is_marked : List Bool → ℕ → Bool
is_marked marks x = get_or marks x false

-- the members, ascending
unfoldable pub members : List Bool → List ℕ
members marks = filter (is_marked marks) (numbers (length marks))

-- the same numbers are in both
abbrev pub SameMembers : List Bool → List Bool → Type 0
SameMembers old new = (x : ℕ) → is_marked new x ≡ is_marked old x

-- no number is in the set
abbrev pub NoMembers : List Bool → Type 0
NoMembers marks = (x : ℕ) → is_marked marks x ≡ false
