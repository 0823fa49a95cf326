-- What tasks stand for.
use Rattle.std.specs.Prelude.{List, [], ◌∷◌, Option, Some, None, map, reverse}
use Rattle.chi_core.specs.Terms as terms
use Rattle.chi_core.specs.Terms.{Item, Term}
use Rattle.chi_core_frame.specs.declared.term.Task.{Task}
use Rattle.chi_core_frame.specs.declared.term.Task.TheVariants.{Do, Loop, Walk}

abbrev pub item_of : Task → Item
item_of (Do s) = terms.Do s.now
item_of (Loop line test block) = terms.Loop line test.now block.now
item_of (Walk line slots elements block) = terms.Walk line slots.now elements block.now

-- the items of tasks that are kept with the next one last
unfoldable pub todo : List Task → Term
todo tasks = map item_of (reverse tasks)

-- the first item, if there is one
abbrev pub first_of : Term → Option Item
first_of [] = None
first_of (item ∷ rest) = Some item
