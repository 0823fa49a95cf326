-- Products of reals, in units.
use Rattle.std.specs.Prelude.{ℤ, ◌*ℤ◌}
use Rattle.chi_num.specs.Rounding.{IsNearest}
use Rattle.chi_num.specs.Units.{units_per_one}

-- r units are nearest to the product of a units and b units
abbrev pub IsProduct : ℤ → ℤ → ℤ → Type 0
IsProduct a b r = IsNearest (a *ℤ b) units_per_one r
