-- Quoted text: what it means, and how it is spelled.
use Rattle.std.specs.Prelude.{ℕ, ◌-◌, ◌==◌, Option, Some, None, List, [], ◌∷◌, ◌++◌, length, take, slice_index_or, find, option_map, if◌then◌else◌}
use Rattle.std.specs.List.{flat_map}
use Rattle.chi_token.specs.declared.escape.TheConstants.{ESCAPES}
use Rattle.chi_token.specs.Characters.{quote, backslash, is_plain}

-- the byte that a letter stands for after a backslash, by the table of escapes
abbrev pub escaped : ℕ → Option ℕ
escaped letter = option_map (λ row. row.1) (find (λ row. row.0 == letter) ESCAPES)

-- the letter that stands for a byte after a backslash, by the same table
abbrev pub letter_for : ℕ → Option ℕ
letter_for byte = option_map (λ row. row.0) (find (λ row. row.1 == byte) ESCAPES)

-- a byte before what the rest means, where both have a meaning
abbrev pub byte_then : Option ℕ → Option (List ℕ) → Option (List ℕ)
byte_then (Some c) rest = option_map (λ bytes. c ∷ bytes) rest
byte_then None rest = None

-- what a run of whole characters means: plain bytes and escapes
unfoldable mutual
  pub meaning : List ℕ → Option (List ℕ)
  meaning [] = Some []
  meaning (c ∷ cs) =
      if c == backslash then escape_meaning cs
      else if is_plain c then byte_then (Some c) (meaning cs)
      else None

  -- the same after a backslash
  pub escape_meaning : List ℕ → Option (List ℕ)
  escape_meaning [] = None
  escape_meaning (letter ∷ cs) = byte_then (escaped letter) (meaning cs)

-- what a text means, told by the bytes after its opening quote: a run of characters and the closing quote
abbrev pub text_of : List ℕ → Option (List ℕ)
text_of bytes =
    if slice_index_or bytes (length bytes - 1) 0 == quote then meaning (take (length bytes - 1) bytes)
    else None

-- a byte within quotes: by its escape where it has one
abbrev pub quoted_by : Option ℕ → ℕ → List ℕ
quoted_by (Some letter) byte = backslash ∷ letter ∷ []
quoted_by None byte = byte ∷ []

-- the same by the table of escapes
abbrev pub quoted_byte : ℕ → List ℕ
quoted_byte byte = quoted_by (letter_for byte) byte

-- bytes in quotes, with their escapes
unfoldable pub quoted : List ℕ → List ℕ
quoted bytes = (quote ∷ []) ++ flat_map quoted_byte bytes ++ (quote ∷ [])
