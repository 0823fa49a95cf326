-- What a call of the program was given, and what it did.
use Rattle.std.specs.Prelude.{◌≡◌, ℕ, ◌<◌, Bool, List, ◌++◌, length, Option, Some, IsSomeAnd}
use Rattle.chi_io.specs.Counts.{Rose, Stood}
use Rattle.chi_io.specs.Shelf.{Files}
use Rattle.chi_io.specs.Sink.{Grew, GrewByFront}

-- a sink's part in a call: what it had taken before and after, where it tells, its count of failures
-- before and after, and whether it is stopped at the end
pub record SinkUse : Type 0 where
  pub before : Option (List ℕ)
  pub after : Option (List ℕ)
  pub faults_before : ℕ
  pub faults_after : ℕ
  pub stopped : Bool

abbrev pub sink_use : {S : Type 0} → (S → Option (List ℕ)) → (S → ℕ) → (S → Bool) → S → S → SinkUse
sink_use taken faults stopped old new =
    record { before = taken old; after = taken new; faults_before = faults old; faults_after = faults new; stopped = stopped new }

-- a shelf's part: the files, where it tells them, and its count of failures before and after
pub record ShelfUse : Type 0 where
  pub files : Option Files
  pub faults_before : ℕ
  pub faults_after : ℕ

abbrev pub shelf_use : {S : Type 0} → (S → Option Files) → (S → ℕ) → S → S → ShelfUse
shelf_use files faults old new = record { files = files old; faults_before = faults old; faults_after = faults new }

pub record Call : Type 0 where
  pub words : List (List ℕ)
  pub status : ℕ
  pub shelf : ShelfUse
  pub out : SinkUse
  pub log : SinkUse

-- the sink took exactly these bytes, where it tells
abbrev pub Took : SinkUse → List ℕ → Type 0
Took sink bytes = Grew sink.before sink.after bytes

-- it took a front of them
abbrev pub TookFront : SinkUse → List ℕ → Type 0
TookFront sink bytes = GrewByFront sink.before sink.after bytes

-- it tells, and took a byte
abbrev pub TookSome : SinkUse → Type 0
TookSome sink = IsSomeAnd sink.before (λ old. (front : List ℕ) × (0 < length front) × (sink.after ≡ Some (old ++ front)))

abbrev pub SinkRose : SinkUse → Type 0
SinkRose sink = Rose sink.faults_before sink.faults_after

abbrev pub SinkStood : SinkUse → Type 0
SinkStood sink = Stood sink.faults_before sink.faults_after

abbrev pub ShelfRose : ShelfUse → Type 0
ShelfRose shelf = Rose shelf.faults_before shelf.faults_after

abbrev pub ShelfStood : ShelfUse → Type 0
ShelfStood shelf = Stood shelf.faults_before shelf.faults_after
