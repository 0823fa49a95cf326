-- What reading a file up to a limit gives, and what one write to a stream does, where their bytes
-- are known.
use Rattle.std.specs.Prelude.{◌≡◌, ℕ, ◌<◌, ◌≤◌, List, length, take, Option, IfSome}
use Rattle.std.specs.Io.KnownBytes.{Consumes, Appends, Keeps}
use Rattle.chi_io.specs.declared.shelf.Fetch.{Fetch}
use Rattle.chi_io.specs.declared.shelf.Fetch.TheVariants.{Bytes, NoSuch, TooLong, Failed, NoMemory}
use Rattle.chi_io.specs.declared.sink.Put.{Put}
use Rattle.chi_io.specs.declared.sink.Put.TheVariants.{Took, Failed as PutFailed}

-- bytes are within the limit and are all that was left; what is too long had more than the limit
abbrev pub Reads : Option (List ℕ) → ℕ → Fetch → Type 0
Reads left limit (Bytes bytes) = (length bytes.items ≤ limit) × IfSome left (λ all. bytes.items ≡ all)
Reads left limit NoSuch = ⊥
Reads left limit TooLong = IfSome left (λ all. limit < length all)
Reads left limit Failed = Unit {0}
Reads left limit NoMemory = Unit {0}

-- so many bytes were consumed, or fewer
abbrev pub ConsumesAtMost : Option (List ℕ) → Option (List ℕ) → ℕ → Type 0
ConsumesAtMost old new most = (read : List ℕ) × Consumes old new read × (length read ≤ most)

-- one byte or more was written, or nothing and the stream failed
abbrev pub Writes : List ℕ → Option (List ℕ) → Option (List ℕ) → Put → Type 0
Writes bytes old new (Took n) = (0 < n) × (n ≤ length bytes) × Appends old new (take n bytes)
Writes bytes old new PutFailed = Keeps old new
