-- Tables of spellings.
use Rattle.std.specs.Prelude.{ℕ, Option, Some, None, List, [], ◌∷◌, bytes_eq, if◌then◌else◌}

-- what the first row with this spelling stands for
unfoldable pub value_at : {K : Type 0} → List ℕ → List (List ℕ × K) → Option K
value_at bytes [] = None
value_at bytes (row ∷ rows) = if bytes_eq bytes row.0 then Some row.1 else value_at bytes rows
