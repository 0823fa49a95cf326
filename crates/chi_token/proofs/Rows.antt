-- Looking through a table of spellings, row by row.
use Rattle.std.proofs.Common.{◌≡◌, ℕ, ◌+◌, ◌<◌, true, false, cond, List, Option, Some, length, get_or, drop, map, bytes_eq, sym, ap, ◌∙◌, Bor}
use Rattle.std.proofs.lemmas.List.{at_drop_more}
use Rattle.chi_token.specs.Tables.{value_at}

-- what the rows from i on give
abbrev pub value_from : {K : Type 0} → List ℕ → List (Bor (List ℕ) × K) → Option K
value_from bytes rows = value_at bytes (map (λ row. (row.0.now, row.1)) rows)

-- the rows from i on begin with the row at i
value_from-row : {K : Type 0} (bytes : List ℕ) (rows : List (Bor (List ℕ) × K)) (i : ℕ) (row : Bor (List ℕ) × K) → i < length rows → row ≡ get_or rows i row → value_from bytes (drop i rows) ≡ cond (bytes_eq bytes row.0.now) (Some row.1) (value_from bytes (drop (i + 1) rows))
unfolding value_at
value_from-row bytes rows i row within is =
    at_drop_more (λ rows. value_from bytes rows) rows i row within
    ∙ ap (λ r. cond (bytes_eq bytes r.0.now) (Some r.1) (value_from bytes (drop (i + 1) rows))) (sym is)

pub value_from-found : {K : Type 0} (bytes : List ℕ) (rows : List (Bor (List ℕ) × K)) (i : ℕ) (row : Bor (List ℕ) × K) → i < length rows → row ≡ get_or rows i row → bytes_eq bytes row.0.now ≡ true → value_from bytes (drop i rows) ≡ Some row.1
value_from-found bytes rows i row within is eq =
    value_from-row bytes rows i row within is
    ∙ ap (λ b. cond b (Some row.1) (value_from bytes (drop (i + 1) rows))) eq

pub value_from-passed : {K : Type 0} (bytes : List ℕ) (rows : List (Bor (List ℕ) × K)) (i : ℕ) (row : Bor (List ℕ) × K) → i < length rows → row ≡ get_or rows i row → bytes_eq bytes row.0.now ≡ false → value_from bytes (drop i rows) ≡ value_from bytes (drop (i + 1) rows)
value_from-passed bytes rows i row within is eq =
    value_from-row bytes rows i row within is
    ∙ ap (λ b. cond b (Some row.1) (value_from bytes (drop (i + 1) rows))) eq
