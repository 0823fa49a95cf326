use Rattle.std.proofs.Common.{◌≡◌, ℕ, ◌+◌, ◌-◌, ◌*◌, ◌^◌, ◌≤◌, length, vec_capacity}
use Rattle.chi_order.specs.Heaped.{Apart, Under}
use Rattle.chi_order.proofs.Sifting.{Moving}
use Rattle.chi_order.proofs.heap.sink.Given as goal

abbrev pub invariant-loop-at : goal.invariant-loop-at
invariant-loop-at g l = record {
  moving : Moving l.due l.fn.dues.items l.fn.places.items l.dues.items l.places.items l.at;
  apart : Apart l.dues.items l.at;
  under : Under l.dues.items l.at l.due;
  capacity : vec_capacity l.dues ≡ vec_capacity l.fn.dues;
  cost : (m : ℕ) × (2 ^ m ≤ l.at + 1) × (l.steps ≤ l.fn.steps + 2 * m);
}

abbrev pub decreases-loop-at : goal.decreases-loop-at
decreases-loop-at g l = length l.dues.items - l.at
