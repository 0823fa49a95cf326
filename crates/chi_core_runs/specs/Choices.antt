-- What a policy is asked at a turn, of how many choices, and which label it then picks.
use Rattle.std.specs.Prelude.{◌≡◌, ℕ, ◌+◌, ◌*◌, ◌^◌, ◌<◌, [], Some, None, length, Contains}
use Rattle.chi_core.specs.declared.label.Label.{Label}
use Rattle.chi_core.specs.declared.label.Label.TheVariants.{Advance}
use Rattle.chi_core.specs.declared.program.Core.{Core}
use Rattle.chi_core.specs.Config.{Config}
use Rattle.chi_core.specs.Kinded.{Kinded}
use Rattle.chi_core.specs.Options.{actors, options, enabled, ending}
use Rattle.chi_core.specs.Picks.{Pick, picked_from, MayPick}

-- it picks an instance among those with an option, and then one of its options
abbrev pub OptionIsPicked : Type 0
OptionIsPicked =
    (pick : Pick) (turn : ℕ) (config : Config) (p : ℕ) (label : Label)
    → picked_from pick (2 * turn) (actors config) ≡ Some p → picked_from pick (2 * turn + 1) (options config p) ≡ Some label
    → MayPick pick turn config label

-- where no instance has an option and the run goes on, Advance is picked
abbrev pub AdvanceIsPicked : Type 0
AdvanceIsPicked = (pick : Pick) (turn : ℕ) (config : Config) → actors config ≡ [] → ending config ≡ None → MayPick pick turn config Advance

-- what is picked may come
abbrev pub PickedMayCome : Type 0
PickedMayCome = (pick : Pick) (turn : ℕ) (config : Config) (label : Label) → MayPick pick turn config label → Contains (enabled config) label

-- there are choices: each instance among those with an option has one
abbrev pub ActorsHaveOptions : Type 0
ActorsHaveOptions = (config : Config) (p : ℕ) → Contains (actors config) p → 0 < length (options config p)

-- and they are few
abbrev pub ChoicesAreFew : Type 0
ChoicesAreFew =
    (core : Core) (config : Config) → Kinded core config → (length (actors config) < 2 ^ 64) × ((p : ℕ) → length (options config p) < 2 ^ 64)
