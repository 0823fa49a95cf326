-- How what a sink has taken grows, and what one put does.
use Rattle.std.specs.Prelude.{◌≡◌, ℕ, ◌<◌, ◌≤◌, Bool, true, false, not, nat_eq, List, ◌++◌, length, take, Option, Some, None}
use Rattle.chi_io.specs.Counts.{next_count}
use Rattle.chi_io.specs.declared.sink.Put.{Put}
use Rattle.chi_io.specs.declared.sink.Put.TheVariants.{Took, Failed}

-- a list that the whole begins with
abbrev pub IsFrontOf : List ℕ → List ℕ → Type 0
IsFrontOf front whole = (rest : List ℕ) × (front ++ rest ≡ whole)

-- a front that isn't the whole
abbrev pub IsProperFrontOf : List ℕ → List ℕ → Type 0
IsProperFrontOf front whole = (rest : List ℕ) × (front ++ rest ≡ whole) × (0 < length rest)

-- what was taken, where it is told, grew by these bytes
abbrev pub Grew : Option (List ℕ) → Option (List ℕ) → List ℕ → Type 0
Grew None new bytes = new ≡ None
Grew (Some old) new bytes = new ≡ Some (old ++ bytes)

-- it grew by a front of these bytes
abbrev pub GrewByFront : Option (List ℕ) → Option (List ℕ) → List ℕ → Type 0
GrewByFront old new bytes = (front : List ℕ) × IsFrontOf front bytes × Grew old new front

-- it grew by a front of these bytes, and not by all of them
abbrev pub GrewByProperFront : Option (List ℕ) → Option (List ℕ) → List ℕ → Type 0
GrewByProperFront old new bytes =
    (front : List ℕ) × IsProperFrontOf front bytes × Grew old new front

-- A put takes one byte or more and the sink goes on, or it takes nothing, the count rose, and the
-- sink is stopped.
abbrev pub Puts : List ℕ → Option (List ℕ) → Option (List ℕ) → Type 0 → Bool → Put → Type 0
Puts bytes old new rose stopped (Took n) =
    (0 < n) × (n ≤ length bytes) × Grew old new (take n bytes) × (stopped ≡ false)
Puts bytes old new rose stopped Failed = rose × (new ≡ old) × (stopped ≡ true)

-- whether a sink that stops at its first failure is stopped, by its count of failures
abbrev pub is_stopped : ℕ → Bool
is_stopped faults = not (nat_eq faults 0)

-- the count of a sink after this answer
abbrev pub count_after_put : ℕ → Put → ℕ
count_after_put count (Took n) = count
count_after_put count Failed = next_count count
