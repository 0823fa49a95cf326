-- The names of enumeration values.
use Rattle.std.specs.Prelude.{ℕ, Option, List, [], slice_get, unwrap_or, option_and_then}

-- the name of a position of an enumeration, if it has one
abbrev pub name_at : List (List (List ℕ)) → ℕ → ℕ → Option (List ℕ)
name_at names kind position = option_and_then (λ positions. slice_get positions position) (slice_get names kind)

abbrev pub name_of : List (List (List ℕ)) → ℕ → ℕ → List ℕ
name_of names kind position = unwrap_or (name_at names kind position) []
