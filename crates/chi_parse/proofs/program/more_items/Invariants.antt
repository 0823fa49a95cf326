use Rattle.std.proofs.Common.{◌-◌, ◌∷◌, length}
use Rattle.chi_grammar.specs.Rules.{part}
use Rattle.chi_tree.specs.Parts as s
use Rattle.chi_tree.specs.Statements.{items_of}
use Rattle.chi_parse_expr.proofs.Loops.{Gathered}
use Rattle.chi_parse.proofs.program.more_items.Given as goal

abbrev pub invariant-turn : goal.invariant-turn
invariant-turn l = Gathered (λ ts. l.fn.first ∷ items_of ts) items_of l.fn.tokens l.fn.room (part s.Definition) l.fn.at l.end l.items.items

abbrev pub decreases-turn : goal.decreases-turn
decreases-turn l = length l.tokens - l.end
