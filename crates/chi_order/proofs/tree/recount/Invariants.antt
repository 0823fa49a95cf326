use Rattle.std.proofs.Common.{ℕ, ◌-◌}
use Rattle.chi_order.proofs.Trees.{Recounting, Over}
use Rattle.chi_order.proofs.tree.recount.Given as goal

abbrev pub invariant-loop-span : goal.invariant-loop-span
invariant-loop-span l =
    Recounting l.fn.words l.fn.place l.fn.up l.fn.counts.items l.counts.items l.span
    × ((j : ℕ) × (e : ℕ) × (a : ℕ) × Over l.fn.words l.fn.place l.fn.up j e l.span l.node a)

abbrev pub decreases-loop-span : goal.decreases-loop-span
decreases-loop-span l = l.words - l.span
