-- Signs and their marks, by the one table of them.
use Rattle.std.specs.Prelude.{ℕ, Option, List, [], map, slice_index_or}
use denote.Enum.Declared.{tag_of}
use Rattle.chi_token.specs.contracts.sign.Sign.{the_type}
use Rattle.chi_token.specs.declared.sign.Sign.{Sign}
use Rattle.chi_token.specs.declared.sign.TheConstants.{SIGNS}
use Rattle.chi_token.specs.Tables.{value_at}

-- the sign that the bytes spell: that of the table's row with this mark
unfoldable pub sign_of : List ℕ → Option Sign
sign_of bytes = value_at bytes (map (λ row. (row.0.now, row.1)) SIGNS)

-- the mark of a sign: that of the table's row at the sign's number
unfoldable pub mark_of : Sign → List ℕ
mark_of sign = slice_index_or (map (λ row. row.0.now) SIGNS) (tag_of the_type sign) []
