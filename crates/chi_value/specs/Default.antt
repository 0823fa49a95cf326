-- The value that a variable has before it is assigned.
use Rattle.std.specs.Prelude.{ℕ, ◌+◌, false, List, [], ◌∷◌, None, pos, ◌<◌}
use Rattle.chi_num.specs.declared.dist.Dist.TheVariants as dist
use Rattle.chi_value.specs.declared.defaults.TheConstants.{MOST_CHANNELS}
use Rattle.chi_value.specs.declared.defaults.DefaultFault.{DefaultFault}
use Rattle.chi_value.specs.declared.defaults.DefaultFault.TheVariants as fault
use Rattle.chi_value.specs.declared.value.Value.{Value}
use Rattle.chi_value.specs.declared.value.Value.TheVariants as value
use Rattle.chi_value.specs.declared.shape.Shape.{Shape, Shape-F, fold-Shape}

-- one after another, each with the channels that were made before it
abbrev pub in_turn : List (ℕ → Value × ℕ) → ℕ → List Value × ℕ
in_turn [] channels = ([], channels)
in_turn (make ∷ rest) channels =
    let made = make channels in
    let others = in_turn rest made.1 in
    (made.0 ∷ others.0, others.1)

-- the parts as one value
abbrev pub tuple_of : List Value × ℕ → Value × ℕ
tuple_of made = (value.TupleOf made.0, made.1)

abbrev pub default_step : Shape-F (ℕ → Value × ℕ) → ℕ → Value × ℕ
default_step Shape-F.Bool channels = (value.Bool false, channels)
default_step Shape-F.Int channels = (value.Int (pos 0), channels)
default_step Shape-F.Real channels = (value.Real (pos 0), channels)
default_step Shape-F.Text channels = (value.Text [], channels)
default_step (Shape-F.Choice kind) channels = (value.Choice kind 0, channels)
default_step (Shape-F.TupleOf parts) channels = tuple_of (in_turn parts channels)
default_step Shape-F.ListOf channels = (value.ListOf [], channels)
default_step Shape-F.SetOf channels = (value.SetOf [], channels)
default_step Shape-F.DictOf channels = (value.DictOf [], channels)
default_step Shape-F.Chan channels = (value.Chan channels, channels + 1)
default_step Shape-F.DistBool channels = (value.Dist (dist.ConstBool false), channels)
default_step Shape-F.DistInt channels = (value.Dist (dist.ConstInt (pos 0)), channels)
default_step Shape-F.DistReal channels = (value.Dist (dist.ConstReal (pos 0)), channels)
default_step Shape-F.Timer channels = (value.Timer (pos 0), channels)
default_step Shape-F.Inst channels = (value.Inst None, channels)

-- the default of a shape where there are so many channels, and how many there are then
abbrev pub default : Shape → ℕ → Value × ℕ
default = fold-Shape (ℕ → Value × ℕ) default_step

-- the fault of too many channels stands only where there would be more than there may be
abbrev pub PastChannels : DefaultFault → ℕ → Type 0
PastChannels fault.TooManyChannels channels = MOST_CHANNELS < channels
PastChannels fault.NoMemory channels = Unit {0}
