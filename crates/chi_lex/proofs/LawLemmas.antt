-- The lemmas that the contracts of the law functions say: crates above use these and no others.
use Rattle.std.proofs.Common.{ℕ, List, [], ◌∷◌}
use Rattle.chi_token.specs.declared.place.Spanned.{Spanned}
use Rattle.chi_token.specs.declared.token.Token.{Token}
use Rattle.chi_token.specs.Spelling.{canonical_spelling}
use Rattle.chi_token.specs.Tokens.{IsToken}
use Rattle.chi_lex.specs.Reading.{Reads}
use Rattle.chi_lex.specs.Spans.{SpanFrom, alone}
use Rattle.chi_lex.proofs.SpanLemmas.{reading-SpanFrom}
use Rattle.chi_lex.proofs.SpellingLemmas.{reading-spelled}
use Rattle.chi_lex.proofs.ReadingLaws.{Reads-reading, reading-Reads}
pub use Rattle.chi_lex.proofs.ReadingLaws.{some_reading, one_list, one_fault, never_both}

pub Reads-SpanFrom : (source : List ℕ) (tokens : List Spanned) → Reads source tokens → SpanFrom source 0 tokens
Reads-SpanFrom source tokens reads = reading-SpanFrom source tokens (Reads-reading source tokens reads)

pub Reads-spelled : (token : Token) → IsToken token → Reads (canonical_spelling token) (alone token ∷ [])
Reads-spelled token is = reading-Reads (canonical_spelling token) (alone token ∷ []) (reading-spelled is.0 token is.1)
