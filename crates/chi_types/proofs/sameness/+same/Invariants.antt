use Rattle.std.proofs.Common.{◌≡◌, map, drop}
use Rattle.chi_types.specs.Same.{same, each_passes, beside}
use Rattle.chi_types.proofs.sameness.+same.Given as goal

abbrev pub invariant-each_same-loop-part : goal.invariant-each_same-loop-part
invariant-each_same-loop-part l =
    each_passes (map (beside same) l.fn.a) l.fn.b ≡ each_passes (map (beside same) (drop l.part-index l.a)) l.others
