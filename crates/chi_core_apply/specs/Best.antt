-- The greater of two numbers, or the lesser. Private to proofs.
use Rattle.std.specs.Prelude.{ℤ, Bool, true, false}
use Rattle.std.specs.Int.{int_min, int_max}

abbrev pub better_by : Bool → ℤ → ℤ → ℤ
better_by true = int_max
better_by false = int_min
