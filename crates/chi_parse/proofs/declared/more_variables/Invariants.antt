use Rattle.std.proofs.Common.{◌-◌, ◌∷◌, length}
use Rattle.chi_token.specs.declared.sign.Sign.TheVariants as sign_of
use Rattle.chi_grammar.specs.Rules.{part, ◌▸◌}
use Rattle.chi_tree.specs.Parts as s
use Rattle.chi_tree.specs.Rules.{sign}
use Rattle.chi_tree.specs.Statements.{more_variables_of}
use Rattle.chi_parse_expr.proofs.Loops.{Gathered}
use Rattle.chi_parse.proofs.declared.more_variables.Given as goal

abbrev pub invariant-turn : goal.invariant-turn
invariant-turn l = Gathered (λ ts. l.fn.first ∷ more_variables_of ts) more_variables_of l.fn.tokens l.fn.room (sign sign_of.Comma ▸ part s.Variable) l.fn.at l.end l.variables.items

abbrev pub decreases-turn : goal.decreases-turn
decreases-turn l = length l.tokens - l.end
