-- What is wrong at the first place of a source where no token can be read, in words.
use Rattle.std.specs.Prelude.{ℕ, ◌+◌, ◌/◌, ◌%◌, ◌≡◌, ◌==◌, ◌<◌, ◌&&◌, nat_lt, nat_le, nat_eq, List, [], ◌∷◌, ◌++◌, length, slice_index, codes, if◌then◌else◌}
use Rattle.std.specs.List.{starts_with}
use Rattle.chi_lex.specs.declared.fault.LexFault.{LexFault}
use Rattle.chi_lex.specs.declared.fault.LexFault.TheVariants.{BadByte, OpenString, BadEscape, NoMemory}
use Rattle.chi_lex.specs.Gaps.{carriage_return}
use Rattle.chi_explain.specs.Excerpts.{from_place}
use Rattle.chi_explain.specs.Explanations.{explained}

-- the byte order mark of UTF-8, which some editors write before a text
abbrev pub byte_order_mark : List ℕ
byte_order_mark = 239 ∷ 187 ∷ 191 ∷ []

-- a digit of a hexadecimal number, and the two of a byte
abbrev pub hex_digit : ℕ → ℕ
hex_digit n = if nat_lt n 10 then 48 + n else 55 + n

abbrev pub hexadecimal : ℕ → List ℕ
hexadecimal c = hex_digit (c / 16) ∷ hex_digit (c % 16) ∷ []

-- a carriage return is a gap elsewhere, so it stands in a text
abbrev pub return_words : List ℕ
return_words = codes "this text isn't closed before a carriage return, which can't stand in it: a text ends on its line, with a quote"

-- a byte that can't stand where it does: none of 32 to 126 stops a text but a backslash, so such a byte begins no token
abbrev pub byte_words : ℕ → List ℕ
byte_words c =
    if c == carriage_return then return_words
    else if nat_le 32 c && nat_le c 126 then codes "no token begins with `" ++ c ∷ codes "`"
    else codes "the byte 0x" ++ hexadecimal c ++ codes " can't stand here: outside of comments there are tabs, line ends and the bytes 0x20 to 0x7E"

-- the bytes from one on that can't stand where it does, to the end of its line
abbrev pub bad_byte_words : List ℕ → List ℕ
bad_byte_words bytes =
    if starts_with nat_eq bytes byte_order_mark
    then codes "a byte order mark (0xEF 0xBB 0xBF) can't stand here: save the file without one"
    else byte_words (slice_index bytes 0)

abbrev pub open_words : List ℕ
open_words = codes "this text isn't closed: a text ends on its line, with a quote"

abbrev pub escape_words : List ℕ
escape_words = codes "this is no escape: those of a text are `\\n`, `\\t`, `\\\"` and `\\\\`"

-- the text explains the fault: a bad byte stands on the line of its place. Of want of memory nothing is said.
abbrev pub IsExplanation : List ℕ → List ℕ → LexFault → List ℕ → Type 0
IsExplanation file source (BadByte place) text =
    (0 < length (from_place source place)) × (text ≡ explained file source place (bad_byte_words (from_place source place)))
IsExplanation file source (OpenString place) text = text ≡ explained file source place open_words
IsExplanation file source (BadEscape place) text = text ≡ explained file source place escape_words
IsExplanation file source NoMemory text = ⊥
