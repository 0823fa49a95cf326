use Rattle.std.proofs.Common.{◌-◌, ◌∷◌, length}
use Rattle.chi_grammar.specs.Rules.{part}
use Rattle.chi_tree.specs.Parts as s
use Rattle.chi_tree.specs.View.{more_formals_of}
use Rattle.chi_parse_expr.proofs.Loops.{Gathered}
use Rattle.chi_parse.proofs.formal.more_formals.Given as goal

abbrev pub invariant-turn : goal.invariant-turn
invariant-turn l = Gathered (λ ts. l.fn.first ∷ more_formals_of ts) more_formals_of l.fn.tokens l.fn.room (part s.MoreFormal) l.fn.at l.end l.formals.items

abbrev pub decreases-turn : goal.decreases-turn
decreases-turn l = length l.tokens - l.end
