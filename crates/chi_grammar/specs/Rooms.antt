-- How much room for nesting there is inside one more level.
use Rattle.std.specs.Prelude.{◌≡◌, suc}
use Rattle.chi_grammar.specs.declared.room.Nesting.{Nesting}
use Rattle.chi_grammar.specs.declared.room.Nesting.TheVariants.{Block, Expression}
use Rattle.chi_grammar.specs.declared.room.Room.{Room}

-- a room and the one inside a level of a nesting, which has one level less of that nesting
abbrev pub IsInside : Nesting → Room → Room → Type 0
IsInside Block room inner = (room.blocks ≡ suc inner.blocks) × (room.expressions ≡ inner.expressions)
IsInside Expression room inner = (room.blocks ≡ inner.blocks) × (room.expressions ≡ suc inner.expressions)

-- no level of the nesting is left
abbrev pub IsFull : Nesting → Room → Type 0
IsFull Block room = room.blocks ≡ 0
IsFull Expression room = room.expressions ≡ 0
