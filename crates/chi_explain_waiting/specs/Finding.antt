-- Private to proofs: instances that are found, one after another.
use Rattle.std.specs.Prelude.{◌≡◌, ℕ, ◌≤◌, ◌<◌, ◌⊎◌, Bool, true, false, List, length, slice_index, slice_index_or, Contains}

-- at the number of each that is found, among so many, there is a mark, and at no other's
pub record IsMarked (numbers : List ℕ) (marks : List Bool) : Type 0 where
  pub marked : (p : ℕ) → slice_index_or marks p false ≡ true → Contains numbers p
  pub found : (p : ℕ) → p < length marks → Contains numbers p → slice_index_or marks p false ≡ true

-- the old numbers stay where they are
pub record Begins (old new : List ℕ) : Type 0 where
  pub longer : length old ≤ length new
  pub front : (j : ℕ) → j < length old → slice_index new j ≡ slice_index old j

-- and after them come those of some that weren't there
pub record Adds (old new some : List ℕ) : Type 0 where
  pub begins : Begins old new
  pub comes : (x : ℕ) → Contains new x → Contains old x ⊎ Contains some x
  pub adds : (x : ℕ) → Contains some x → Contains new x

-- or those that a step reaches from the old numbers, from one place on and before another
pub record Reaches (step : ℕ → List ℕ) (first stop : ℕ) (old new : List ℕ) : Type 0 where
  pub begins : Begins old new
  pub comes : (x : ℕ) → Contains new x → Contains old x ⊎ ((j : ℕ) × (j < stop) × Contains (step (slice_index old j)) x)
  pub adds : (j : ℕ) → first ≤ j → j < stop → (x : ℕ) → Contains (step (slice_index old j)) x → Contains new x
