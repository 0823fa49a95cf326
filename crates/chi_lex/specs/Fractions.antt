-- The second part of a real number, as the code reads it. Private to proofs.
use Rattle.std.specs.Prelude.{ℕ, ◌+◌, zero, suc, List, [], ◌∷◌, if◌then◌else◌}
use Rattle.std.specs.List.{prefix_len}
use Rattle.chi_token.specs.Characters.{is_digit, is_point}

-- how many bytes a point takes with its digits, or 0 where it has none
abbrev pub fraction_by : ℕ → ℕ
fraction_by zero = 0
fraction_by (suc digits) = 1 + suc digits

-- how many bytes a point and digits take with which the bytes begin, or 0
abbrev pub fraction_length : List ℕ → ℕ
fraction_length [] = 0
fraction_length (c ∷ cs) = if is_point c then fraction_by (prefix_len is_digit cs) else 0
