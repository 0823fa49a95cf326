use Rattle.std.proofs.Common.{◌≡◌, ◌+◌, ◌-◌, ◌≤◌, ◌++◌, replicate, vec_capacity, vec_len}
use Rattle.chi_order.specs.declared.heap.TheConstants.{NOWHERE}
use Rattle.chi_order.proofs.dues.widen.Given as goal

abbrev pub invariant-loop-more : goal.invariant-loop-more
invariant-loop-more l = record {
  wide : l.places.items ≡ l.fn.places.items ++ replicate l._more NOWHERE;
  room : vec_len l.places + (l.few - l._more) ≤ vec_capacity l.places;
}
