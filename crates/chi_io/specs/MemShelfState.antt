-- What a shelf in memory is: files, and the calls that it has had.
use Rattle.std.specs.Prelude.{◌≡◌, ℕ, ◌<◌, ◌≤◌, List, map, length, Contains, bytes_eq, find, option_map, Option, Some, None, IsSomeAnd}
use Rattle.std.specs.Global.{Vec}
use Rattle.chi_io.specs.Counts.{next_count}
use Rattle.chi_io.specs.Shelf.{Files}
use Rattle.chi_io.specs.declared.shelf.Fetch.{Fetch}
use Rattle.chi_io.specs.declared.shelf.Fetch.TheVariants.{Bytes, NoSuch, TooLong, Failed, NoMemory}

pub record MemShelfState : Type 0 where
  -- each name with its bytes
  pub files : List (List ℕ × List ℕ)
  -- the numbers of the calls that fail, counted from 0
  pub failing : List ℕ
  -- how many calls there were
  pub calls : ℕ
  -- how many of them failed
  pub faults : ℕ

-- names and bytes as lists
abbrev pub files_of : List (Vec ℕ × Vec ℕ) → List (List ℕ × List ℕ)
files_of = map (λ file. (file.0.items, file.1.items))

-- what a name has: the bytes of the file of this name
abbrev pub contents : List (List ℕ × List ℕ) → Files
contents files name = option_map (λ file. file.1) (find (λ file. bytes_eq file.0 name) files)

-- the next call is one of those that fail
abbrev pub FailsNext : MemShelfState → Type 0
FailsNext shelf = Contains shelf.failing shelf.calls

-- The answer for a name that has this, or nothing, where the call fails or doesn't. Only the copy
-- of bytes within the limit may want memory.
abbrev pub AnswersExactly : Option (List ℕ) → ℕ → Type 0 → Fetch → Type 0
AnswersExactly file limit fails (Bytes bytes) =
    (¬ fails) × (file ≡ Some bytes.items) × (length bytes.items ≤ limit)
AnswersExactly file limit fails NoSuch = (¬ fails) × (file ≡ None)
AnswersExactly file limit fails TooLong =
    (¬ fails) × IsSomeAnd file (λ bytes. limit < length bytes)
AnswersExactly file limit fails Failed = fails
AnswersExactly file limit fails NoMemory =
    (¬ fails) × IsSomeAnd file (λ bytes. length bytes ≤ limit)

-- the shelf after a call: one call more, and one failure more where it failed
abbrev pub after_fetch : MemShelfState → Fetch → MemShelfState
after_fetch shelf (Bytes bytes) = record shelf { calls = next_count shelf.calls }
after_fetch shelf NoSuch = record shelf { calls = next_count shelf.calls }
after_fetch shelf TooLong = record shelf { calls = next_count shelf.calls }
after_fetch shelf Failed =
    record shelf { calls = next_count shelf.calls; faults = next_count shelf.faults }
after_fetch shelf NoMemory = record shelf { calls = next_count shelf.calls }
