use Rattle.std.proofs.Common.{◌≡◌, ◌+◌, List, ℕ, ◌++◌, take}
use Rattle.chi_lex.specs.Cursors.{StandsAfter}
use Rattle.chi_lex.proofs.cursor.Cursor.past.Given as goal

-- the cursor is past the bytes before this one
abbrev pub invariant-loop-byte : goal.invariant-loop-byte
invariant-loop-byte l = record {
  offset : l.cursor.offset ≡ l.fn.self.offset + l.byte-index;
  stands : (before : List ℕ) → StandsAfter before l.fn.self → StandsAfter (before ++ take l.byte-index l.bytes) l.cursor;
}
