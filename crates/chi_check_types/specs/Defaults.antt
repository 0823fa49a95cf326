-- The expression of the default of a variable.
use Rattle.std.specs.Prelude.{ℕ, zero, suc, List, [], ◌∷◌, Option, Some, None, length, option_map}
use Rattle.std.specs.Option.{option_and_then}
use Rattle.chi_types.specs.declared.ty.Ty.{Ty, Ty-F, fold-Ty, out-Ty}
use Rattle.chi_value.specs.declared.shape.Shape.{Shape, Shape-F, out-Shape}
use Rattle.chi_value.specs.declared.shape.Shape.TheVariants as shape
use Rattle.chi_core.specs.declared.expression.CExpr.{CExpr}
use Rattle.chi_core.specs.declared.expression.CExpr.TheVariants as expression

-- the shape of a distribution, by that of what it draws
abbrev pub drawn_shape : Shape-F Shape → Option Shape
drawn_shape Shape-F.Bool = Some shape.DistBool
drawn_shape Shape-F.Int = Some shape.DistInt
drawn_shape Shape-F.Real = Some shape.DistReal
drawn_shape _ = None

abbrev pub dist_shape : Option Shape → Option Shape
dist_shape None = None
dist_shape (Some drawn) = drawn_shape (out-Shape drawn)

-- those of all parts, where each has one
abbrev pub part_shapes : List (List ℕ × Option Shape) → Option (List Shape)
part_shapes [] = Some []
part_shapes (part ∷ parts) = option_and_then (λ s. option_map (λ ss. s ∷ ss) (part_shapes parts)) part.1

abbrev pub tuple_shape : Option (List Shape) → Option Shape
tuple_shape None = None
tuple_shape (Some shapes) = Some (shape.TupleOf shapes)

abbrev pub shape_step : Ty-F (Option Shape) → Option Shape
shape_step Ty-F.Bool = Some shape.Bool
shape_step Ty-F.Int = Some shape.Int
shape_step Ty-F.Real = Some shape.Real
shape_step Ty-F.Text = Some shape.Text
shape_step Ty-F.Timer = Some shape.Timer
shape_step Ty-F.Inst = Some shape.Inst
shape_step Ty-F.Void = None
shape_step (Ty-F.Choice enumeration) = Some (shape.Choice enumeration)
shape_step (Ty-F.TupleOf parts) = tuple_shape (part_shapes parts)
shape_step (Ty-F.ListOf element) = Some shape.ListOf
shape_step (Ty-F.SetOf element) = Some shape.SetOf
shape_step (Ty-F.DictOf key value) = Some shape.DictOf
shape_step (Ty-F.Chan way carried) = Some shape.Chan
shape_step (Ty-F.Dist drawn) = dist_shape drawn

-- the shape of the defaults of a type; void has none, nor has a distribution of something else than bool, int and real
abbrev pub shape_of : Ty → Option Shape
shape_of = fold-Ty (Option Shape) shape_step

abbrev pub element_type : Ty-F Ty → Option Ty
element_type (Ty-F.ListOf element) = Some element
element_type _ = None

-- the type within so many lists
abbrev pub within : ℕ → Ty → Option Ty
within zero t = Some t
within (suc lists) t = option_and_then (within lists) (element_type (out-Ty t))

-- lists of so many of lists of so many, the innermost size first
abbrev pub repeated : List CExpr → CExpr → CExpr
repeated [] each = each
repeated (size ∷ sizes) each = repeated sizes (expression.Repeat size each)

-- the default of what is within the lists with sizes, as often as these say
abbrev pub default_of : Ty → List CExpr → Option CExpr
default_of t sizes = option_map (λ s. repeated sizes (expression.Default s)) (option_and_then shape_of (within (length sizes) t))
