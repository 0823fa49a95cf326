use Rattle.std.proofs.Common.{take, ◌≡◌}
use Rattle.chi_gen_parts.proofs.copies.+shape.Given as goal

abbrev pub invariant-shapes_copy-loop-shape : goal.invariant-shapes_copy-loop-shape
invariant-shapes_copy-loop-shape l = l.copies.items ≡ take l.shape-index l.shapes
