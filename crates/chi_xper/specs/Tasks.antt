-- What tasks stand for, and what stands first of what is left to do. Private to proofs.
use Rattle.std.specs.Prelude.{◌≡◌, List, [], ◌∷◌, Option, Some, None, map, option_map, reverse}
use Rattle.chi_core.specs.Variables.{Variables, bound}
use Rattle.chi_xper.specs.Items as items
use Rattle.chi_xper.specs.Items.{Item, Term, first_the}
use Rattle.chi_xper.specs.declared.term.Head.{Head}
use Rattle.chi_xper.specs.declared.term.Head.TheVariants as head
use Rattle.chi_xper.specs.declared.term.Task.{Task}
use Rattle.chi_xper.specs.declared.term.Task.TheVariants.{Do, Loop, Walk}

abbrev pub item_of : Task → Item
item_of (Do s) = items.Do s.now
item_of (Loop line test block) = items.Loop line test.now block.now
item_of (Walk line slots elements block) = items.Walk line slots.now elements block.now

-- the items of tasks that are kept with the next one last
unfoldable pub todo : List Task → Term
todo tasks = map item_of (reverse tasks)

-- the first item, if there is one
abbrev pub first_of : Term → Option Item
first_of [] = None
first_of (item ∷ rest) = Some item

abbrev pub IsWalk : Option Item → Type 0
IsWalk None = ⊥
IsWalk (Some (items.Do s)) = ⊥
IsWalk (Some (items.Loop line test block)) = ⊥
IsWalk (Some (items.Walk line slots elements block)) = Unit {0}

abbrev pub IsHead : Head → Term → Type 0
IsHead (head.Do s) term = first_of term ≡ Some (items.Do s.now)
IsHead (head.Loop line test block) term = first_of term ≡ Some (items.Loop line test.now block.now)
IsHead head.Walk term = IsWalk (first_of term)
IsHead head.End term = term ≡ []

-- the walk that stands first goes on: with the next element, or to what is left after it
abbrev pub walk_done : Variables → Term → Option (Variables × Term)
walk_done variables [] = None
walk_done variables (items.Do s ∷ rest) = None
walk_done variables (items.Loop line test block ∷ rest) = None
walk_done variables (items.Walk line slots [] block ∷ rest) = Some (variables, rest)
walk_done variables (items.Walk line slots (x ∷ xs) block ∷ rest) =
    option_map (λ new. (new, first_the block (items.Walk line slots xs block ∷ rest))) (bound slots x variables)
