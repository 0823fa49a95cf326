-- Private to proofs. The shapes of tuples.
use Rattle.std.proofs.Common.{◌≡◌, ℕ, List, map, Option, ap, ◌∙◌}
use Rattle.chi_types.specs.declared.ty.Ty.{Ty, Ty-F, out-Ty, map-Ty, fold_out-Ty}
use Rattle.chi_types.specs.declared.ty.Ty.TheVariants as ty
use Rattle.chi_types.specs.Same.{beside}
use Rattle.chi_value.specs.declared.shape.Shape.{Shape}
use Rattle.chi_check_types.specs.Defaults.{shape_of, shape_step, part_shapes, tuple_shape}

pub shape_of_tuple : (t : Ty) (parts : List (List ℕ × Ty)) → t ≡ ty.TupleOf parts → shape_of t ≡ tuple_shape (part_shapes (map (beside shape_of) parts))
shape_of_tuple t parts e = fold_out-Ty (Option Shape) shape_step t ∙ ap (λ layer. shape_step (map-Ty Ty (Option Shape) shape_of layer)) (ap out-Ty e ∙ ty.outs-TupleOf parts)
