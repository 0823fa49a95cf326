use Rattle.std.proofs.Common.{ℕ, ◌-◌, ◌<◌, ◌≤◌, length, get_or}
use Rattle.chi_chan.specs.Lined.{code, nobody_here}
use Rattle.chi_chan.proofs.line.place_of.Given as goal

abbrev pub invariant-loop-low : goal.invariant-loop-low
invariant-loop-low l = record {
  order : l.low ≤ l.high;
  within : l.high ≤ length l.parties.items;
  before : (i : ℕ) → i < l.low → code (get_or l.parties.items i nobody_here) < l.key;
  after : (i : ℕ) → l.high ≤ i → i < length l.parties.items → l.key ≤ code (get_or l.parties.items i nobody_here);
}

abbrev pub decreases-loop-low : goal.decreases-loop-low
decreases-loop-low l = l.high - l.low
