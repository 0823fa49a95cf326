-- Defaults that were made before others.
use Rattle.std.proofs.Common.{ℕ, List, ◌++◌}
use Rattle.chi_value.specs.declared.value.Value.{Value}

-- some values, and then those that are made in turn
abbrev pub before : List Value → List Value × ℕ → List Value × ℕ
before values made = (values ++ made.0, made.1)
