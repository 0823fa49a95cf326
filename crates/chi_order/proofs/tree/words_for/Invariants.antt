use Rattle.std.proofs.Common.{◌≡◌, ◌^◌}
use Rattle.chi_order.proofs.tree.words_for.Given as goal

abbrev pub invariant-loop-level : goal.invariant-loop-level
invariant-loop-level l = l.words ≡ 4 ^ l._level
