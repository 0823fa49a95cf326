use Rattle.std.proofs.Common.{◌≡◌, ℕ, ◌+◌, ◌*◌, ◌^◌, ◌<◌, ◌≤◌, length}
use Rattle.chi_order.specs.Counted.{below, Stands}
use Rattle.chi_order.proofs.tree.word_of.Given as goal

abbrev pub invariant-loop-span : goal.invariant-loop-span
invariant-loop-span g l = record {
  stands : Stands l.words.items l.rank l.span l.branch.node l.branch.start l.branch.seen;
  within : l.branch.start + l.span ≤ length l.words.items;
  after : l.rank < below l.words.items (64 * (l.branch.start + l.span));
  power : (j : ℕ) × (l.span ≡ 4 ^ j) × ((m : ℕ) → length l.words.items ≡ 4 ^ m → l.steps + 3 * j ≤ l.fn.steps + 3 * m);
}

abbrev pub decreases-loop-span : goal.decreases-loop-span
decreases-loop-span g l = l.span
