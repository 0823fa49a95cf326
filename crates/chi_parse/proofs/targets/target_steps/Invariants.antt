use Rattle.std.proofs.Common.{◌-◌, length}
use Rattle.chi_grammar.specs.Rules.{part}
use Rattle.chi_tree.specs.Parts as s
use Rattle.chi_tree.specs.View.{postfixes_of}
use Rattle.chi_parse_expr.proofs.Loops.{Gathered}
use Rattle.chi_parse.proofs.targets.target_steps.Given as goal

abbrev pub invariant-turn : goal.invariant-turn
invariant-turn l = Gathered postfixes_of postfixes_of l.fn.tokens l.fn.room (part s.TargetStep) l.fn.at l.end l.steps.items

abbrev pub decreases-turn : goal.decreases-turn
decreases-turn l = length l.tokens - l.end
