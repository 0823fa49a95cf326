use Rattle.std.proofs.Common.{◌≡◌, ◌++◌, map, drop}
use Rattle.chi_token.specs.declared.sign.Sign.TheVariants.{Comma}
use Rattle.chi_token.specs.declared.token.Token.TheVariants.{Sign}
use Rattle.chi_tree_spell.specs.Words.{each_after}
use Rattle.chi_tree_spell.specs.Statements.{spelled_element, spelled_elements}
use Rattle.chi_tree_spell.proofs.speller.Speller.+elements.Given as goal

abbrev pub invariant-elements-loop-element : goal.invariant-elements-loop-element
invariant-elements-loop-element l =
    l.self.tokens.items ++ each_after (Sign Comma) (map spelled_element (drop l.element-index l.more))
    ≡ l.fn.self.tokens.items ++ spelled_elements l.fn.elements
