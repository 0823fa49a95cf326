-- What a sink in memory is: bounds on what it takes, what it has taken, and its puts so far.
use Rattle.std.specs.Prelude.{◌≡◌, ℕ, ◌+◌, ◌-◌, ◌≤◌, ◌⊎◌, min, List, ◌++◌, length, take, Contains}
use Rattle.chi_io.specs.Counts.{next_count}
use Rattle.chi_io.specs.declared.sink.Put.{Put}
use Rattle.chi_io.specs.declared.sink.Put.TheVariants.{Took, Failed}

pub record MemSinkState : Type 0 where
  -- how many bytes it takes in all
  pub room : ℕ
  -- how many bytes one put takes
  pub most : ℕ
  -- the numbers of the puts that fail, counted from 0
  pub failing : List ℕ
  -- what it has taken
  pub bytes : List ℕ
  -- how many puts have taken something
  pub puts : ℕ
  -- how many puts have failed: it is stopped where one has
  pub faults : ℕ

-- the next put fails: its number is among those that do, or no room is left
abbrev pub FailsNext : MemSinkState → Type 0
FailsNext sink = Contains sink.failing sink.puts ⊎ (sink.room ≤ length sink.bytes)

-- how much the next put takes of so many bytes, if it doesn't fail
abbrev pub taken_of : MemSinkState → ℕ → ℕ
taken_of sink n = min (min sink.most n) (sink.room - length sink.bytes)

-- a put takes as much as it can, or fails and only the count of failures changes
abbrev pub PutsExactly : List ℕ → MemSinkState → MemSinkState → Put → Type 0
PutsExactly bytes old new (Took n) =
    (¬ FailsNext old)
    × (n ≡ taken_of old (length bytes))
    × (new ≡ record old { bytes = old.bytes ++ take n bytes; puts = old.puts + 1 })
PutsExactly bytes old new Failed =
    FailsNext old × (new ≡ record old { faults = next_count old.faults })
