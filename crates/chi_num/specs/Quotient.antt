-- Quotients of reals, in units.
use Rattle.std.specs.Prelude.{ℤ, ◌*ℤ◌}
use Rattle.chi_num.specs.Rounding.{IsNearest}
use Rattle.chi_num.specs.Units.{units_per_one}

-- r units are nearest to a units divided by b units, where b isn't 0
abbrev pub IsQuotient : ℤ → ℤ → ℤ → Type 0
IsQuotient a b r = IsNearest (a *ℤ units_per_one) b r
