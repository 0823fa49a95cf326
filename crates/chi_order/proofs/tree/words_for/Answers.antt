use Rattle.std.proofs.Common.{arith}
use Rattle.chi_order.proofs.Trees.{four-below}
use Rattle.chi_order.proofs.tree.words_for.Goals as goal

pub overflow_mul-words : goal.overflow_mul-words
overflow_mul-words c =
    let i = c.loop-level.invariant in
    let b = four-below c.loop-level._level 12 (omega arith) in omega (arith, i, b)

pub returns-then-numbers-words-clause-few : goal.returns-then-numbers-words-clause-few
returns-then-numbers-words-clause-few c =
    let i = c.loop-level.invariant in
    let b = four-below c.loop-level._level 12 (omega arith) in omega (arith, i, b)
