-- The room inside expressions.
use Rattle.std.specs.Prelude.{ℕ, ◌-◌}
use Rattle.chi_grammar.specs.declared.room.Room.{Room}
use Rattle.chi_tree.specs.Limits.{whole_room}

-- what is left of the whole room inside so many levels of expressions
abbrev pub room_inside : ℕ → Room
room_inside nest = record whole_room { expressions = whole_room.expressions - nest }
