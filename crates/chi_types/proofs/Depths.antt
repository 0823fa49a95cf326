-- How deep a tuple's type is.
use Rattle.std.proofs.Common.{◌≡◌, ℕ, ◌+◌, List, map, ap, sym, ◌∙◌}
use Rattle.chi_types.specs.declared.ty.Ty.{Ty, Ty-F, fold-roll-Ty}
use Rattle.chi_types.specs.declared.ty.Ty.TheVariants as ty
use Rattle.chi_types.specs.Same.{beside}
use Rattle.chi_types.specs.Depth.{depth, depth_step, deepest}

pub depth_of_tuple : (t : Ty) (parts : List (List ℕ × Ty)) → t ≡ ty.TupleOf parts →
    depth t ≡ 1 + deepest (map (beside depth) parts)
depth_of_tuple t parts is =
    ap depth (is ∙ sym (ty.rolls-TupleOf parts)) ∙ fold-roll-Ty ℕ depth_step (Ty-F.TupleOf parts)
