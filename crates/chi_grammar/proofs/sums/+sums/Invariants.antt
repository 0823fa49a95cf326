use Rattle.std.proofs.Common.{◌≡◌, ℕ, ◌+◌, ◌-◌, ◌*◌, ◌≤◌, length, List}
use Rattle.chi_grammar.specs.Rules.{Tree, none, part, word, ◌▸◌}
use Rattle.chi_grammar.specs.Reads.{Along, attach}
use Rattle.chi_grammar.specs.Sample.{Part, Term, sample, sample_table, has_round, plus}
use Rattle.chi_grammar.proofs.sums.+sums.Given as goal

abbrev pub decreases-more_terms : goal.decreases-more_terms
decreases-more_terms l = 4 * l.room.expressions + 2

abbrev pub decreases-round : goal.decreases-round
decreases-round l = 4 * l.room.expressions + 4

abbrev pub decreases-sum : goal.decreases-sum
decreases-sum l = 4 * l.room.expressions + 3

abbrev pub decreases-term : goal.decreases-term
decreases-term l = 4 * l.room.expressions + 1

abbrev pub invariant-more_terms-turn : goal.invariant-more_terms-turn
invariant-more_terms-turn l =
    (ts : List (Tree ℕ Part))
    × Along sample sample_table l.fn.tokens l.fn.room (word plus ▸ part Term) l.fn.at l.end ts
    × (l.found ≡ has_round (attach ts none))
    × (l.end ≤ length l.tokens)

abbrev pub decreases-more_terms-turn : goal.decreases-more_terms-turn
decreases-more_terms-turn l = length l.tokens - l.end
