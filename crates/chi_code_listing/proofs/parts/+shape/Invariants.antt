use Rattle.std.proofs.Common.{◌≡◌, ◌++◌, drop, map}
use Rattle.std.specs.Prelude.{codes}
use Rattle.chi_value.specs.Text.{each_after}
use Rattle.chi_code_listing.specs.Listing.{shape_text, shapes_text}
use Rattle.chi_code_listing.proofs.parts.+shape.Given as goal

abbrev pub invariant-put_shapes-loop-shape : goal.invariant-put_shapes-loop-shape
invariant-put_shapes-loop-shape l = l.out.items ++ each_after (codes ", ") (map shape_text (drop l.shape-index l.rest)) ≡ l.fn.out.items ++ shapes_text l.fn.shapes
