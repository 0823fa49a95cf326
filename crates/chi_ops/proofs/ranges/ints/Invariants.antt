use Rattle.std.proofs.Common.{◌≡◌, ◌++◌, length, map, FitsSigned, w64}
use Rattle.chi_value.specs.declared.value.Value.TheVariants.{Int}
use Rattle.chi_ops.specs.Progression.{progression}
use Rattle.chi_ops.specs.Walking.{rest_of, IsWalk}
use Rattle.chi_ops.proofs.ranges.ints.Given as goal

abbrev pub decreases-loop-next : goal.decreases-loop-next
decreases-loop-next l = length (rest_of l.walk)

abbrev pub invariant-loop-next : goal.invariant-loop-next
invariant-loop-next l = record {
  fit : IsWalk l.walk;
  rest : l.ints.items ++ map Int (rest_of l.walk) ≡ map Int (progression l.fn.from l.fn.upto l.fn.by);
  first : FitsSigned w64 l.walk.first;
  last : FitsSigned w64 l.walk.last;
}
