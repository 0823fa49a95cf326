use Rattle.std.proofs.Common.{◌≡◌, ◌++◌, map, drop}
use Rattle.chi_token.specs.declared.sign.Sign.TheVariants.{Comma}
use Rattle.chi_tree_spell.specs.Words.{each_after}
use Rattle.chi_fmt.specs.Parts.{sign, element_spots, elements_spots}
use Rattle.chi_fmt.proofs.draft.Draft.+elements.Given as goal

abbrev pub invariant-elements-loop-element : goal.invariant-elements-loop-element
invariant-elements-loop-element l =
    l.self.spots.items ++ each_after (sign Comma) (map element_spots (drop l.element-index l.more))
    ≡ l.fn.self.spots.items ++ elements_spots l.fn.elements
