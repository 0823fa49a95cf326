-- The successes among the draws so far.
use Rattle.std.proofs.Common.{◌≡◌, ◌≤◌, ℕ}
use Rattle.std.specs.Prelude.{count_by}
use Rattle.chi_dist.specs.Draws.{draws_from, succeeds, taken_after}
use Rattle.chi_dist.specs.Streams.{IsKept}
use Rattle.chi_dist.proofs.stream.Stream.successes.Given as goal

abbrev pub invariant-loop-trial : goal.invariant-loop-trial
invariant-loop-trial l =
    ((seed : ℕ) → IsKept seed l.number l.fn.self
    → (l.successes ≡ count_by (succeeds l.chance) (draws_from seed l.number l.fn.self.taken l._trial)) × IsKept seed l.number l.self)
    × (l.self.taken ≡ taken_after l.fn.self.taken l._trial) × (l.successes ≤ l._trial)
