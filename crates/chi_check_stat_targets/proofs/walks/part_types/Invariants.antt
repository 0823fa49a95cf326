use Rattle.std.proofs.Common.{◌≡◌, ◌++◌, map, drop}
use Rattle.chi_check_stat_targets.proofs.walks.part_types.Given as goal

abbrev pub invariant-loop-part : goal.invariant-loop-part
invariant-loop-part l = map (λ part. part.1) l.parts ≡ l.types.items ++ map (λ part. part.1) (drop l.part-index l.parts)
