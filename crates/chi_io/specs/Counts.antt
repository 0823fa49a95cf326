-- Counts of 64 bits, which stand still at the end of their type: what a call did to one.
use Rattle.std.specs.Prelude.{ℕ, ◌+◌, ◌-◌, ◌^◌, ◌<◌, ◌≤◌, min}

-- the count after one more
abbrev pub next_count : ℕ → ℕ
next_count count = min (count + 1) (2 ^ 64 - 1)

-- the count rose in between, or stands at the end of its type
abbrev pub Rose : ℕ → ℕ → Type 0
Rose before after = min before (2 ^ 64 - 2) < after

-- the count didn't rise in between, and stands below the end of its type
abbrev pub Stood : ℕ → ℕ → Type 0
Stood before after = after ≤ min before (2 ^ 64 - 2)
