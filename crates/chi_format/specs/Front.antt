-- What stands at the front of a format. Private to proofs.
use Rattle.std.specs.Prelude.{ℕ, ◌-◌, nat_le, ◌==◌, Bool, true, false, ◌&&◌, Option, Some, None, List, [], ◌∷◌, take, drop, if◌then◌else◌}
use Rattle.std.specs.Char.{is_ascii_digit}
use Rattle.std.specs.List.{prefix_len}
use Rattle.std.specs.Option.{option_and_then}
use Rattle.chi_num.specs.Decimal.{number_of}
use Rattle.chi_value.specs.declared.format.Field.{Field}
use Rattle.chi_value.specs.declared.format.Piece.TheVariants.{Any, Whole, Fixed}
use Rattle.chi_format.specs.declared.reading.front.Taken.{Taken}
use Rattle.chi_format.specs.declared.reading.front.Taken.TheVariants.{Byte, Code}

-- what comes first, and what is left after it
abbrev pub Front : Type 0
Front = Option (Taken × List ℕ)

abbrev pub taking : Taken → List ℕ → Front
taking t rest = Some (t, rest)

abbrev pub at_most : ℕ → ℕ → Option ℕ
at_most most n = if nat_le n most then Some n else None

-- the width that digits write: no leading zero, and at most 255
unfoldable pub width_of : List ℕ → Option ℕ
width_of [] = Some 0
width_of (d ∷ ds) = if d == 48 then None else at_most 255 (number_of (d ∷ ds))

-- a code after its point
unfoldable pub point_after : Field → List ℕ → Front
point_after field [] = None
point_after field (k ∷ []) = None
point_after field (k ∷ c ∷ rest) = if is_ascii_digit k && c == 102 then taking (Code (Fixed field (k - 48))) rest else None

abbrev pub letter_after : Field → ℕ → List ℕ → Front
letter_after field c rest =
    if c == 115 then taking (Code (Any field)) rest
    else if c == 100 then taking (Code (Whole field)) rest
    else if c == 102 then taking (Code (Fixed field 6)) rest
    else if c == 46 then point_after field rest
    else None

-- a code after its field
unfoldable pub field_after : Field → List ℕ → Front
field_after field [] = None
field_after field (c ∷ rest) = letter_after field c rest

-- a code after its side
unfoldable pub side_after : Bool → List ℕ → Front
side_after left text =
    let count = prefix_len is_ascii_digit text in
    option_and_then (λ width. field_after (record { left = left; width = width }) (drop count text)) (width_of (take count text))

-- what a percent sign begins
unfoldable pub percent_after : List ℕ → Front
percent_after [] = None
percent_after (c ∷ rest) =
    if c == 37 then taking (Byte 37) rest
    else if c == 45 then side_after true rest
    else side_after false (c ∷ rest)

unfoldable pub next_part : List ℕ → Front
next_part [] = None
next_part (c ∷ rest) = if c == 37 then percent_after rest else taking (Byte c) rest
