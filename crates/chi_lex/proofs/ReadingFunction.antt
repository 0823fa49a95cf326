-- The reading of a source as a function: its tokens with their places, or its first fault.
use Rattle.std.proofs.Common.{ℕ, zero, suc, ◌+◌, Option, Some, None, Result, Ok, Err, List, [], ◌∷◌, length, drop}
use Rattle.chi_token.specs.declared.place.Spanned.{Spanned}
use Rattle.chi_token.specs.declared.token.Token.{Token}
use Rattle.chi_token.specs.Prefixes.{longest_prefix}
use Rattle.chi_token.specs.Tokens.{token_spelled_by}
use Rattle.chi_lex.specs.declared.fault.LexFault.{LexFault}
use Rattle.chi_lex.specs.Gaps.{gap_of}
use Rattle.chi_lex.specs.Reading.{spanned}
use Rattle.chi_lex.specs.Stops.{stop_of, fault_of}

-- a token before the tokens that are read next
abbrev pub token_then : Spanned → Result (List Spanned) LexFault → Result (List Spanned) LexFault
token_then token (Ok tokens) = Ok (token ∷ tokens)
token_then token (Err fault) = Err fault

-- the token that is found at an offset, or the fault there. `read` is the reading from a later offset on
abbrev pub from_token : List ℕ → ℕ → (ℕ → Result (List Spanned) LexFault) → Option (Token × ℕ) → Result (List Spanned) LexFault
from_token source offset read (Some found) = token_then (spanned source found.0 offset (offset + found.1)) (read (offset + found.1))
from_token source offset read None = Err (fault_of source offset (stop_of (drop offset source)))

-- the gap at an offset, or the longest token where there is none
abbrev pub from_gap : List ℕ → ℕ → (ℕ → Result (List Spanned) LexFault) → List ℕ → Option ℕ → Result (List Spanned) LexFault
from_gap source offset read rest (Some gap) = read (offset + gap)
from_gap source offset read rest None = from_token source offset read (longest_prefix token_spelled_by (length rest) rest)

-- nothing at the end, else a gap or a token
abbrev pub from_rest : List ℕ → ℕ → (ℕ → Result (List Spanned) LexFault) → List ℕ → Result (List Spanned) LexFault
from_rest source offset read [] = Ok []
from_rest source offset read (c ∷ cs) = from_gap source offset read (c ∷ cs) (gap_of (c ∷ cs))

-- Gaps and tokens in turn, from an offset on, each token the longest prefix of the rest that is one.
-- Each gap and each token has a byte, so it is enough to look as often as there are bytes left.
unfoldable pub reading_from : (left : ℕ) → (source : List ℕ) → (offset : ℕ) → Result (List Spanned) LexFault
reading_from zero source offset = Ok []
reading_from (suc left) source offset = from_rest source offset (reading_from left source) (drop offset source)

-- the tokens of a source, or its first fault
unfoldable pub reading : List ℕ → Result (List Spanned) LexFault
reading source = reading_from (length source) source 0
