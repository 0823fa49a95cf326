-- What a shelf that tells nothing is: another one, and how often it refused a name.
use Rattle.std.specs.Prelude.{ℕ}
use Rattle.chi_io.specs.Counts.{next_count}
use Rattle.chi_io.specs.declared.shelf.Fetch.{Fetch}
use Rattle.chi_io.specs.declared.shelf.Fetch.TheVariants.{Bytes, NoSuch, TooLong, Failed, NoMemory}

pub record MuteShelfState (H : Type 0) : Type 0 where
  pub inner : H
  -- how often a name was missing, or its file too long
  pub refusals : ℕ

-- the count of refusals after this answer: failures are the other's own
abbrev pub refusals_after : ℕ → Fetch → ℕ
refusals_after count (Bytes bytes) = count
refusals_after count NoSuch = next_count count
refusals_after count TooLong = next_count count
refusals_after count Failed = count
refusals_after count NoMemory = count
