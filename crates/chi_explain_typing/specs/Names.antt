-- The name at a place of a source, and words that have a name in them.
use Rattle.std.specs.Prelude.{ℕ, ◌==◌, List, [], ◌∷◌, flat_map, take_while, if◌then◌else◌}
use Rattle.chi_token.specs.declared.place.Place.{Place}
use Rattle.chi_token.specs.Characters.{is_name_byte}
use Rattle.chi_explain.specs.Excerpts.{from_place}

-- the letters, digits and underscores from a place on: the name, or the word, that begins there, or else what is left of one, or of
-- a number; none where there are none
abbrev pub name_at : List ℕ → Place → List ℕ
name_at source place = take_while is_name_byte (from_place source place)

-- what stands in words where the name goes: an `@`
abbrev pub name_mark : ℕ
name_mark = 64

-- a byte of words, or the name in its place
abbrev pub byte_with : List ℕ → ℕ → List ℕ
byte_with name c = if c == name_mark then name else c ∷ []

-- words, with a name where it goes
abbrev pub words_with : List ℕ → List ℕ → List ℕ
words_with name words = flat_map (byte_with name) words
