use Rattle.std.proofs.Common.{◌+◌, ◌-◌, ◌*◌, ◌∷◌, length}
use Rattle.chi_token.specs.declared.sign.Sign.TheVariants as sign_of
use Rattle.chi_grammar.specs.Rules.{part, ◌▸◌}
use Rattle.chi_tree.specs.Parts as s
use Rattle.chi_tree.specs.Rules.{sign}
use Rattle.chi_tree.specs.Statements.{more_elements_of}
use Rattle.chi_parse_expr.proofs.Loops.{Gathered}
use Rattle.chi_parse.proofs.launches.+elements.Given as goal

abbrev pub invariant-more_elements-turn : goal.invariant-more_elements-turn
invariant-more_elements-turn l = Gathered (λ ts. l.fn.first ∷ more_elements_of ts) more_elements_of l.fn.tokens l.fn.room (sign sign_of.Comma ▸ part s.Element) l.fn.at l.end l.elements.items

abbrev pub decreases-more_elements-turn : goal.decreases-more_elements-turn
decreases-more_elements-turn l = length l.tokens - l.end

abbrev pub decreases-element : goal.decreases-element
decreases-element l = 5 * l.room.blocks + 2

abbrev pub decreases-unwound_elements : goal.decreases-unwound_elements
decreases-unwound_elements l = 5 * l.room.blocks + 1

abbrev pub decreases-repeated_elements : goal.decreases-repeated_elements
decreases-repeated_elements l = 5 * l.room.blocks + 0

abbrev pub decreases-more_elements : goal.decreases-more_elements
decreases-more_elements l = 5 * l.room.blocks + 3

abbrev pub decreases-elements : goal.decreases-elements
decreases-elements l = 5 * l.room.blocks + 4
