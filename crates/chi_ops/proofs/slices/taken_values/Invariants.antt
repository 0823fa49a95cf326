use Rattle.std.proofs.Common.{◌≡◌, ◌++◌, length}
use Rattle.chi_ops.specs.Slices.{elements_at, slice_of}
use Rattle.chi_ops.specs.Walking.{rest_of, IsWalk}
use Rattle.chi_ops.proofs.slices.taken_values.Given as goal

abbrev pub decreases-loop-place : goal.decreases-loop-place
decreases-loop-place l = length (rest_of l.walk)

abbrev pub invariant-loop-place : goal.invariant-loop-place
invariant-loop-place l = record {
  fit : IsWalk l.walk;
  rest : l.taken.items ++ elements_at l.items (rest_of l.walk) ≡ slice_of l.items l.fn.from l.fn.upto l.fn.by;
}
