-- How the lexer's place in a source stands to the bytes before it. Private to proofs.
use Rattle.std.specs.Prelude.{ℕ, ◌≡◌, List, length}
use Rattle.chi_lex.specs.Places.{line_of, column_of}
use Rattle.chi_lex.specs.declared.cursor.Cursor.{Cursor}

-- the cursor stands right after these bytes
pub record StandsAfter (before : List ℕ) (cursor : Cursor) : Type 0 where
  pub offset : cursor.offset ≡ length before
  pub line : cursor.line ≡ line_of before
  pub column : cursor.column ≡ column_of before
