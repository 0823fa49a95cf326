use Rattle.std.proofs.Common.{◌≡◌, ℕ, ◌+◌, ◌%◌, ◌^◌, ◌<◌, ◌≤◌}
use Rattle.std.specs.Prelude.{count_ones}
use Rattle.chi_order.proofs.bits.bit_of.Given as goal

abbrev pub invariant-loop-width : goal.invariant-loop-width
invariant-loop-width g l = record {
  before : count_ones (l.word % 2 ^ l.low) ≤ l.rank;
  after : l.rank < count_ones (l.word % 2 ^ (l.low + l.width));
  power : (e : ℕ) × (l.width ≡ 2 ^ e) × (l.steps + e ≤ l.fn.steps + 6);
  within : l.low + l.width ≤ 64;
}

abbrev pub decreases-loop-width : goal.decreases-loop-width
decreases-loop-width g l = l.width
