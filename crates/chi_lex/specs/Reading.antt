-- The reading of a source: gaps and tokens in turn, each token the longest prefix of the rest that is one.
use Rattle.std.specs.Prelude.{ℕ, ◌≡◌, ◌+◌, ⊤, Option, Some, None, List, [], ◌∷◌, length, drop}
use Rattle.chi_token.specs.declared.place.Spanned.{Spanned}
use Rattle.chi_token.specs.declared.token.Token.{Token}
use Rattle.chi_token.specs.Prefixes.{longest_prefix}
use Rattle.chi_token.specs.Tokens.{token_spelled_by}
use Rattle.chi_lex.specs.declared.fault.LexFault.{LexFault}
use Rattle.chi_lex.specs.declared.fault.LexFault.TheVariants.{BadByte, OpenString, BadEscape, NoMemory}
use Rattle.chi_lex.specs.Faults.{IsFaultAt}
use Rattle.chi_lex.specs.Gaps.{gap_of}
use Rattle.chi_lex.specs.Places.{place_of}

-- a token of a source, from one offset to before another
abbrev pub spanned : List ℕ → Token → ℕ → ℕ → Spanned
spanned source token start stop = record { token = token; place = place_of source start; start = start; stop = stop }

-- the longest prefix that is a token, with its length, or none
abbrev pub longest_token : List ℕ → Option (Token × ℕ)
longest_token rest = longest_prefix token_spelled_by (length rest) rest

-- From an offset on these tokens are read, in turn and to the end, or to the fault where no token is a prefix of the rest.
pub data ReadsFrom (source : List ℕ) : ℕ → List Spanned → Option LexFault → Type 0 where
  at_end : (offset : ℕ) → drop offset source ≡ [] → ReadsFrom source offset [] None
  past_gap : (offset size : ℕ) (tokens : List Spanned) (fault : Option LexFault)
      → gap_of (drop offset source) ≡ Some size
      → ReadsFrom source (offset + size) tokens fault
      → ReadsFrom source offset tokens fault
  past_token : (offset : ℕ) (token : Token) (size : ℕ) (tokens : List Spanned) (fault : Option LexFault)
      → gap_of (drop offset source) ≡ None → longest_token (drop offset source) ≡ Some (token, size)
      → ReadsFrom source (offset + size) tokens fault
      → ReadsFrom source offset (spanned source token offset (offset + size) ∷ tokens) fault
  at_fault : (offset : ℕ) (fault : LexFault)
      → gap_of (drop offset source) ≡ None → longest_token (drop offset source) ≡ None → IsFaultAt source offset fault
      → ReadsFrom source offset [] (Some fault)

-- these are the tokens of a source
abbrev pub Reads : List ℕ → List Spanned → Type 0
Reads source tokens = ReadsFrom source 0 tokens None

-- this is the first fault of a source
abbrev pub HasFault : List ℕ → LexFault → Type 0
HasFault source fault = (tokens : List Spanned) × ReadsFrom source 0 tokens (Some fault)

-- the fault is the first one of the source, unless memory is wanting
abbrev pub IsFaultOf : List ℕ → LexFault → Type 0
IsFaultOf source NoMemory = ⊤
IsFaultOf source (BadByte place) = HasFault source (BadByte place)
IsFaultOf source (OpenString place) = HasFault source (OpenString place)
IsFaultOf source (BadEscape place) = HasFault source (BadEscape place)
