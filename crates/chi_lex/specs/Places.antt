-- Where a byte of a source stands.
use Rattle.std.specs.Prelude.{ℕ, ◌+◌, ◌==◌, Bool, List, length, take, count_by}
use Rattle.std.specs.List.{after_last}
use Rattle.chi_token.specs.declared.place.Place.{Place}
use Rattle.chi_token.specs.Characters.{line_feed}

-- a line feed ends its line
abbrev pub is_line_feed : ℕ → Bool
is_line_feed c = c == line_feed

-- one more than the line feeds before the byte
abbrev pub line_of : List ℕ → ℕ
line_of before = 1 + count_by is_line_feed before

-- one more than the bytes before it on its line
abbrev pub column_of : List ℕ → ℕ
column_of before = 1 + length (after_last is_line_feed before)

-- the place of the byte at an offset of a source, or of the source's end
unfoldable pub place_of : List ℕ → ℕ → Place
place_of source offset = record { line = line_of (take offset source); column = column_of (take offset source) }
