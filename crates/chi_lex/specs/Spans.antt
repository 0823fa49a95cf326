-- Where the tokens of a source lie in it.
use Rattle.std.specs.Prelude.{ℕ, ◌≡◌, ◌<◌, ◌≤◌, ⊤, Some, List, [], ◌∷◌, length, slice_range}
use Rattle.chi_token.specs.declared.place.Spanned.{Spanned}
use Rattle.chi_token.specs.declared.token.Token.{Token}
use Rattle.chi_token.specs.Spelling.{canonical_spelling}
use Rattle.chi_token.specs.Tokens.{token_spelled_by}
use Rattle.chi_lex.specs.Places.{place_of}

-- the token's bytes in the source spell it, and its place is that of the first of them
pub record IsSpanOf (source : List ℕ) (t : Spanned) : Type 0 where
  pub spelled : token_spelled_by (slice_range source t.start t.stop) ≡ Some t.token
  pub placed : t.place ≡ place_of source t.start
  pub some : t.start < t.stop
  pub within : t.stop ≤ length source

-- tokens of a source, one after another from an offset on
abbrev pub SpanFrom : List ℕ → ℕ → List Spanned → Type 0
SpanFrom source offset [] = ⊤
SpanFrom source offset (t ∷ ts) = (offset ≤ t.start) × IsSpanOf source t × SpanFrom source t.stop ts

-- a token that stands alone in a source, by its canonical spelling
abbrev pub alone : Token → Spanned
alone token = record { token = token; place = record { line = 1; column = 1 }; start = 0; stop = length (canonical_spelling token) }
