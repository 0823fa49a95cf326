-- Formats as they are written: bytes, percent signs, and codes.
use Rattle.std.specs.Prelude.{◌≡◌, ◌≢◌, ℕ, ◌+◌, ◌≤◌, Bool, true, false, List, [], ◌∷◌, ◌++◌, length, All, codes, ◌==◌, if◌then◌else◌}
use Rattle.std.specs.List.{flat_map}
use Rattle.std.specs.Fmt.{decimal}
use Rattle.chi_value.specs.declared.format.Field.{Field}
use Rattle.chi_value.specs.declared.format.Piece.{Piece}
use Rattle.chi_value.specs.declared.format.Piece.TheVariants as piece

-- a part of a format as it is written
pub data Part : Type 0 where
  byte : ℕ → Part
  percent : Part
  any_code : Field → Part
  whole_code : Field → Part
  fixed_code : Field → ℕ → Part
  six_code : Field → Part

abbrev pub side_text : Bool → List ℕ
side_text true = codes "-"
side_text false = []

abbrev pub width_text : ℕ → List ℕ
width_text width = if width == 0 then [] else decimal width

abbrev pub field_text : Field → List ℕ
field_text field = codes "%" ++ side_text field.left ++ width_text field.width

-- how a part is written
abbrev pub part_text : Part → List ℕ
part_text (byte b) = b ∷ []
part_text percent = codes "%%"
part_text (any_code field) = field_text field ++ codes "s"
part_text (whole_code field) = field_text field ++ codes "d"
part_text (fixed_code field k) = field_text field ++ codes "." ++ (48 + k) ∷ codes "f"
part_text (six_code field) = field_text field ++ codes "f"

-- a byte that isn't a percent sign; a width of at most 255, and at most 9 decimals
abbrev pub IsPart : Part → Type 0
IsPart (byte b) = b ≢ 37
IsPart percent = Unit {0}
IsPart (any_code field) = field.width ≤ 255
IsPart (whole_code field) = field.width ≤ 255
IsPart (fixed_code field k) = (field.width ≤ 255) × (k ≤ 9)
IsPart (six_code field) = field.width ≤ 255

abbrev pub text_of_parts : List Part → List ℕ
text_of_parts parts = flat_map part_text parts

-- a byte before the pieces, as a part of a plain one
abbrev pub with_byte : ℕ → List Piece → List Piece
with_byte b (piece.Plain bytes ∷ pieces) = piece.Plain (b ∷ bytes) ∷ pieces
with_byte b pieces = piece.Plain (b ∷ []) ∷ pieces

-- the pieces that parts mean: bytes and percent signs one after another are one plain piece
abbrev pub pieces_of : List Part → List Piece
pieces_of [] = []
pieces_of (byte b ∷ parts) = with_byte b (pieces_of parts)
pieces_of (percent ∷ parts) = with_byte 37 (pieces_of parts)
pieces_of (any_code field ∷ parts) = piece.Any field ∷ pieces_of parts
pieces_of (whole_code field ∷ parts) = piece.Whole field ∷ pieces_of parts
pieces_of (fixed_code field k ∷ parts) = piece.Fixed field k ∷ pieces_of parts
pieces_of (six_code field ∷ parts) = piece.Fixed field 6 ∷ pieces_of parts

-- a text is a format of these pieces
abbrev pub MeansPieces : List ℕ → List Piece → Type 0
MeansPieces text pieces = (parts : List Part) × (All IsPart parts × (text ≡ text_of_parts parts) × (pieces ≡ pieces_of parts))

-- at an offset, after parts, stands a percent sign that begins no part
pub record HasBadCode (text : List ℕ) (offset : ℕ) : Type 0 where
  pub before : List Part
  pub rest : List ℕ
  pub are_parts : All IsPart before
  pub spelled : text ≡ text_of_parts before ++ 37 ∷ rest
  pub at : offset ≡ length (text_of_parts before)
  pub no_part : (p : Part) (others : List ℕ) → IsPart p → 37 ∷ rest ≡ part_text p ++ others → ⊥
