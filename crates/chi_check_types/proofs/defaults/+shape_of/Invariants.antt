use Rattle.std.proofs.Common.{◌≡◌, map, drop}
use Rattle.chi_types.specs.Same.{beside}
use Rattle.chi_check_types.specs.Defaults.{shape_of, part_shapes}
use Rattle.chi_check_types.proofs.Parts.{before}
use Rattle.chi_check_types.proofs.defaults.+shape_of.Given as goal

abbrev pub invariant-part_shapes-loop-part : goal.invariant-part_shapes-loop-part
invariant-part_shapes-loop-part l =
    part_shapes (map (beside shape_of) l.fn.parts) ≡ before l.shapes.items (part_shapes (map (beside shape_of) (drop l.part-index l.parts)))
