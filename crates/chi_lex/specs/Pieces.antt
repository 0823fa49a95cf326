-- What the code finds at the front of the rest of a source. Private to proofs.
use Rattle.std.specs.Prelude.{ℕ, ◌≡◌, Some, None, List, length}
use Rattle.chi_token.specs.Prefixes.{longest_prefix}
use Rattle.chi_token.specs.Tokens.{token_spelled_by}
use Rattle.chi_lex.specs.declared.piece.Piece.{Piece}
use Rattle.chi_lex.specs.declared.piece.Piece.TheVariants.{Gap, Found, Stopped}
use Rattle.chi_lex.specs.Gaps.{gap_of}
use Rattle.chi_lex.specs.Stops.{stop_of}

-- the longest token at the front of the rest, or what stops it
abbrev pub IsTokenPiece : List ℕ → Piece → Type 0
IsTokenPiece rest (Gap size) = ⊥
IsTokenPiece rest (Found token size) = longest_prefix token_spelled_by (length rest) rest ≡ Some (token, size)
IsTokenPiece rest (Stopped stop) = (longest_prefix token_spelled_by (length rest) rest ≡ None) × (stop ≡ stop_of rest)

-- the gap at the front of the rest, or the token where there is none
abbrev pub IsPiece : List ℕ → Piece → Type 0
IsPiece rest (Gap size) = gap_of rest ≡ Some size
IsPiece rest (Found token size) = (gap_of rest ≡ None) × IsTokenPiece rest (Found token size)
IsPiece rest (Stopped stop) = (gap_of rest ≡ None) × IsTokenPiece rest (Stopped stop)
