-- Keywords and their words, by the one table of them.
use Rattle.std.specs.Prelude.{ℕ, Option, List, [], map, slice_index_or}
use denote.Enum.Declared.{tag_of}
use Rattle.chi_token.specs.contracts.keyword.Keyword.{the_type}
use Rattle.chi_token.specs.declared.keyword.Keyword.{Keyword}
use Rattle.chi_token.specs.declared.keyword.TheConstants.{KEYWORDS}
use Rattle.chi_token.specs.Tables.{value_at}

-- the keyword that the bytes spell: that of the table's row with this word
unfoldable pub keyword_of : List ℕ → Option Keyword
keyword_of bytes = value_at bytes (map (λ row. (row.0.now, row.1)) KEYWORDS)

-- the word of a keyword: that of the table's row at the keyword's number
unfoldable pub word_of : Keyword → List ℕ
word_of keyword = slice_index_or (map (λ row. row.0.now) KEYWORDS) (tag_of the_type keyword) []
