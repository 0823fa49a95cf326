use Rattle.std.proofs.Common.{◌≡◌, ◌+◌, ◌*◌, ◌<◌, ◌≤◌}
use Rattle.chi_order.specs.Counted.{Stands}
use Rattle.chi_order.proofs.tree.child_of.Given as goal

abbrev pub invariant-loop-turn : goal.invariant-loop-turn
invariant-loop-turn g l = record {
  stands : Stands l.words.items l.rank l.span l.branch.node l.branch.start l.branch.seen;
  inner : 1 < l.branch.node;
  start : l.branch.start ≡ l.initial.branch.start + l._turn * l.span;
  cost : l.steps ≤ l.initial.steps + l._turn;
}
