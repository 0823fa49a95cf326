use Rattle.std.proofs.Common.{◌≡◌, ◌-◌, ◌^◌, ◌≤◌, min, max, map, drop}
use Rattle.chi_types.specs.Same.{beside}
use Rattle.chi_types.specs.Depth.{depth, deepest}
use Rattle.chi_types.proofs.shape.+depth.Given as goal

abbrev pub invariant-greatest_depth-loop-part : goal.invariant-greatest_depth-loop-part
invariant-greatest_depth-loop-part l = record {
  fits : l.greatest ≤ 2 ^ 32 - 1;
  rest : min (deepest (map (beside depth) l.fn.parts)) (2 ^ 32 - 1) ≡
      min (max l.greatest (deepest (map (beside depth) (drop l.part-index l.parts)))) (2 ^ 32 - 1);
}
