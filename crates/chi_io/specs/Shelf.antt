-- Files, and what a shelf answers when a name is fetched.
use Rattle.std.specs.Prelude.{◌≡◌, ℕ, ◌<◌, ◌≤◌, ◌⊎◌, List, length, Option, Some, None, IfSome, IsSomeAnd}
use Rattle.chi_io.specs.Counts.{next_count}
use Rattle.chi_io.specs.declared.shelf.Fetch.{Fetch}
use Rattle.chi_io.specs.declared.shelf.Fetch.TheVariants.{Bytes, NoSuch, TooLong, Failed, NoMemory}

-- a map from names to bytes
abbrev pub Files : Type 0
Files = List ℕ → Option (List ℕ)

-- Bytes are within the limit and, where the files are told, are what the name has. A refusal has
-- its cause: the told files, or that the count rose.
abbrev pub Answers : Option Files → List ℕ → ℕ → Type 0 → Fetch → Type 0
Answers files name limit rose (Bytes bytes) =
    (length bytes.items ≤ limit) × IfSome files (λ told. told name ≡ Some bytes.items)
Answers files name limit rose NoSuch = IsSomeAnd files (λ told. told name ≡ None) ⊎ rose
Answers files name limit rose TooLong =
    IsSomeAnd files (λ told. IsSomeAnd (told name) (λ bytes. limit < length bytes)) ⊎ rose
Answers files name limit rose Failed = rose
Answers files name limit rose NoMemory = Unit {0}

-- the count of a shelf that tells no files after this answer: each refusal counts but for want of
-- memory
abbrev pub count_after_fetch : ℕ → Fetch → ℕ
count_after_fetch count (Bytes bytes) = count
count_after_fetch count NoSuch = next_count count
count_after_fetch count TooLong = next_count count
count_after_fetch count Failed = next_count count
count_after_fetch count NoMemory = count
