-- The pieces that were read, before those to come. Private to proofs.
use Rattle.std.specs.Prelude.{ℕ, Bool, true, false, List, [], ◌∷◌, ◌++◌}
use Rattle.chi_value.specs.declared.format.Piece.{Piece}
use Rattle.chi_value.specs.declared.format.Piece.TheVariants as piece
use Rattle.chi_format.specs.FormatCodes.{with_byte}
use Rattle.chi_format.specs.declared.reading.front.Taken.{Taken}
use Rattle.chi_format.specs.declared.reading.front.Taken.TheVariants.{Byte, Code}
use Rattle.chi_format.specs.declared.reading.so_far.SoFar.{SoFar}

-- a text as pieces, of which an empty one has none
abbrev pub plain_piece : List ℕ → List Piece
plain_piece [] = []
plain_piece (c ∷ cs) = piece.Plain (c ∷ cs) ∷ []

-- bytes of a plain piece, before the pieces
unfoldable pub with_bytes : List ℕ → List Piece → List Piece
with_bytes [] pieces = pieces
with_bytes (b ∷ bytes) pieces = with_byte b (with_bytes bytes pieces)

abbrev pub before : SoFar → List Piece → List Piece
before so_far later = so_far.pieces.items ++ with_bytes so_far.plain.items later

-- a byte or a code, before the pieces
abbrev pub with_taken : Taken → List Piece → List Piece
with_taken (Byte b) pieces = with_byte b pieces
with_taken (Code p) pieces = p ∷ pieces

-- each piece but a plain one shows a value
abbrev pub is_shown : Piece → Bool
is_shown (piece.Plain bytes) = false
is_shown (piece.Any field) = true
is_shown (piece.Whole field) = true
is_shown (piece.Fixed field k) = true

-- a code is no plain piece
abbrev pub is_front : Taken → Bool
is_front (Byte b) = true
is_front (Code p) = is_shown p
