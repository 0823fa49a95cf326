-- The unit that reals count, a billionth.
use Rattle.std.specs.Prelude.{ℤ, pos}

-- how many units make 1
abbrev pub units_per_one : ℤ
units_per_one = pos 1_000_000_000
