use Rattle.std.proofs.Common.{◌≡◌, ◌++◌, map, drop}
use Rattle.chi_tree_spell.specs.Words.{all}
use Rattle.chi_tree_spell.specs.Statements.{spelled_item}
use Rattle.chi_tree_spell.proofs.speller.Speller.items.Given as goal

abbrev pub invariant-loop-item : goal.invariant-loop-item
invariant-loop-item l =
    l.self.tokens.items ++ all (map spelled_item (drop l.item-index l.items)) ≡ l.fn.self.tokens.items ++ all (map spelled_item l.fn.items)
