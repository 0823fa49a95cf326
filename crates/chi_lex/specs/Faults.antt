-- The fault at an offset of a source where no token is a prefix of the rest.
use Rattle.std.specs.Prelude.{ℕ, ◌+◌, ◌≡◌, ◌≢◌, ◌⊎◌, List, [], ◌∷◌, length, drop}
use Rattle.chi_token.specs.Characters.{line_feed, quote, backslash}
use Rattle.chi_token.specs.Prefixes.{longest_prefix, length_found}
use Rattle.chi_token.specs.Texts.{meaning}
use Rattle.chi_lex.specs.declared.fault.LexFault.{LexFault}
use Rattle.chi_lex.specs.declared.fault.LexFault.TheVariants.{BadByte, OpenString, BadEscape}
use Rattle.chi_lex.specs.Places.{place_of}

-- how many bytes the whole characters of a text take with which the bytes begin
abbrev pub characters_length : List ℕ → ℕ
characters_length bytes = length_found (longest_prefix meaning (length bytes) bytes)

-- the bytes from the first one on that no character of the text has
abbrev pub after_characters : List ℕ → List ℕ
after_characters bytes = drop (characters_length bytes) bytes

-- nothing is left, or the line ends
abbrev pub EndsLine : List ℕ → Type 0
EndsLine rest = (rest ≡ []) ⊎ ((more : List ℕ) × (rest ≡ line_feed ∷ more))

-- At an offset stands a byte that isn't a quote, and it is a bad one. Or a quote stands there, and the text is read to the
-- first thing that stops it: the line's or the source's end, told at the quote; a backslash without its letter; or another
-- byte that can't stand in a text, told where it stands.
pub data IsFaultAt (source : List ℕ) (offset : ℕ) : LexFault → Type 0 where
  bad_byte : (c : ℕ) (more : List ℕ) → drop offset source ≡ c ∷ more → c ≢ quote
      → IsFaultAt source offset (BadByte (place_of source offset))
  open_string : (text : List ℕ) → drop offset source ≡ quote ∷ text → EndsLine (after_characters text)
      → IsFaultAt source offset (OpenString (place_of source offset))
  bad_escape : (text more : List ℕ) → drop offset source ≡ quote ∷ text → after_characters text ≡ backslash ∷ more
      → IsFaultAt source offset (BadEscape (place_of source (offset + (1 + characters_length text))))
  bad_byte_in_text : (text : List ℕ) (c : ℕ) (more : List ℕ) → drop offset source ≡ quote ∷ text → after_characters text ≡ c ∷ more
      → c ≢ line_feed → c ≢ backslash
      → IsFaultAt source offset (BadByte (place_of source (offset + (1 + characters_length text))))
