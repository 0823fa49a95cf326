-- How deep a source may nest, by the constants of the code.
use Rattle.chi_grammar.specs.declared.room.Room.{Room}
use Rattle.chi_tree.specs.declared.limits.TheConstants.{MOST_BLOCKS, MOST_EXPRESSIONS}

-- that many levels of blocks, and of expressions and types
abbrev pub whole_room : Room
whole_room = record { blocks = MOST_BLOCKS; expressions = MOST_EXPRESSIONS }
