-- Whether an instance has an option.
use Rattle.std.specs.Prelude.{ℕ, Bool, length, nat_lt}
use Rattle.chi_core.specs.Config.{Config}
use Rattle.chi_core.specs.Options.{options}

-- instance p has an option
abbrev pub acts : Config → ℕ → Bool
acts config p = nat_lt 0 (length (options config p))
