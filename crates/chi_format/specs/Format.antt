-- Formats: the text of their pieces with values.
use Rattle.std.specs.Prelude.{ℕ, ◌-◌, ◌^◌, nat_le, Bool, true, false, ◌&&◌, ℤ, pos, int_lt, nat_abs, Option, Some, None, option_map, List, [], ◌∷◌, ◌++◌, length, replicate, if◌then◌else◌}
use Rattle.std.specs.Option.{option_and_then}
use Rattle.std.specs.Fmt.{signed_decimal}
use Rattle.chi_num.specs.Decimal.{signed}
use Rattle.chi_num.specs.FixedText.{fixed_text_of}
use Rattle.chi_num.specs.Nearest.{nearest}
use Rattle.chi_value.specs.declared.format.Field.{Field}
use Rattle.chi_value.specs.declared.format.Piece.{Piece}
use Rattle.chi_value.specs.declared.format.Piece.TheVariants as piece
use Rattle.chi_value.specs.declared.value.Value.{Value, Value-F, out-Value}
use Rattle.chi_value.specs.Plain.{is_plain, within}
use Rattle.chi_value.specs.Text.{text}

-- a text in its field: a short one has spaces before it, or after it where it stands on the left
abbrev pub filled : Field → List ℕ → List ℕ
filled field text =
    let spaces = replicate (field.width - length text) 32 in
    if field.left then text ++ spaces else spaces ++ text

-- so many units of a billionth in steps of the last of k decimals: the nearest, a tie away from zero
abbrev pub steps_of : ℕ → ℤ → ℤ
steps_of k units = signed (int_lt units (pos 0)) (nearest (nat_abs units) (10 ^ (9 - k)))

-- the text of any plain value whose enumeration values have names
abbrev pub any_text : List (List (List ℕ)) → Value → Option (List ℕ)
any_text names v = if is_plain v && within names v then Some (text names v) else None

-- the text of an int
abbrev pub whole_text : Value-F Value → Option (List ℕ)
whole_text (Value-F.Int number) = Some (signed_decimal number)
whole_text _ = None

-- the text of a real with k decimals, at most 9
abbrev pub fixed_text : ℕ → Value-F Value → Option (List ℕ)
fixed_text k (Value-F.Real units) = if nat_le k 9 then Some (fixed_text_of k (steps_of k units)) else None
fixed_text k _ = None

-- the text of a value in a piece that takes it
abbrev pub shown : List (List (List ℕ)) → Piece → Value → Option (List ℕ)
shown names (piece.Plain bytes) v = None
shown names (piece.Any field) v = option_map (filled field) (any_text names v)
shown names (piece.Whole field) v = option_map (filled field) (whole_text (out-Value v))
shown names (piece.Fixed field k) v = option_map (filled field) (fixed_text k (out-Value v))

-- a text with what comes after it, if there is any
abbrev pub before : Option (List ℕ) → List ℕ → Option (List ℕ)
before rest text = option_map (λ after. text ++ after) rest

-- the text of the pieces in turn, each that isn't plain with the next of the values: none where a value is missing, left
-- over, or of another kind than its piece takes
abbrev pub rendered : List (List (List ℕ)) → List Piece → List Value → Option (List ℕ)
rendered names [] [] = Some []
rendered names [] (v ∷ values) = None
rendered names (piece.Plain bytes ∷ pieces) values = before (rendered names pieces values) bytes
rendered names (p ∷ pieces) [] = None
rendered names (p ∷ pieces) (v ∷ values) = option_and_then (before (rendered names pieces values)) (shown names p v)

-- the condition of rendering

abbrev pub is_whole : Value-F Value → Bool
is_whole (Value-F.Int number) = true
is_whole _ = false

abbrev pub is_real : Value-F Value → Bool
is_real (Value-F.Real units) = true
is_real _ = false

-- a piece shows a value: `%s` any plain one within the names, `%d` an int, `%f` a real with at most 9 decimals
abbrev pub takes : List (List (List ℕ)) → Piece → Value → Bool
takes names (piece.Plain bytes) v = false
takes names (piece.Any field) v = is_plain v && within names v
takes names (piece.Whole field) v = is_whole (out-Value v)
takes names (piece.Fixed field k) v = is_real (out-Value v) && nat_le k 9

-- each piece that isn't plain takes the value of its turn, and no value is left over
abbrev pub may_render : List (List (List ℕ)) → List Piece → List Value → Bool
may_render names [] [] = true
may_render names [] (v ∷ values) = false
may_render names (piece.Plain bytes ∷ pieces) values = may_render names pieces values
may_render names (p ∷ pieces) [] = false
may_render names (p ∷ pieces) (v ∷ values) = takes names p v && may_render names pieces values
