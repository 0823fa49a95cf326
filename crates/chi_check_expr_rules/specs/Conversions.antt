-- What stands in the core where a value serves for one of another type.
use Rattle.std.specs.Prelude.{List, [], ◌∷◌, map, Option, Some, None, option_map, if◌then◌else◌}
use Rattle.chi_types.specs.declared.ty.Ty.{Ty, out-Ty}
use Rattle.chi_types.specs.declared.ty.Ty.TheVariants as ty
use Rattle.chi_types.specs.Fits.{fits, widens}
use Rattle.chi_core.specs.declared.expression.CExpr.{CExpr}
use Rattle.chi_core.specs.declared.expression.CExpr.TheVariants as expression
use Rattle.chi_core.specs.declared.op_name.OpName.{OpName}
use Rattle.chi_core.specs.declared.op_name.OpName.TheVariants as op
use Rattle.chi_check_types.specs.declared.meant.Made.{Made}

abbrev pub made : CExpr → Ty → Made
made core ty = record { core = core; ty = ty }

-- an int where a real is wanted is converted; nothing else is
abbrev pub converted : Made → Ty → CExpr
converted m wanted = if widens (out-Ty m.ty) (out-Ty wanted) then expression.Op op.Widen (m.core ∷ []) else m.core

-- as many as the types that are wanted, each of which it fits and is converted to
abbrev pub passed : List Made → List Ty → Option (List CExpr)
passed [] [] = Some []
passed (m ∷ ms) (t ∷ ts) = if fits m.ty t then option_map (λ es. converted m t ∷ es) (passed ms ts) else None
passed _ _ = None

-- an operation on operands of the types that it wants
abbrev pub wanting : OpName → List Ty → Ty → List Made → Option Made
wanting name wanted result operands = option_map (λ es. made (expression.Op name es) result) (passed operands wanted)

-- an operation on operands as they are
abbrev pub as_they_are : OpName → List Made → Ty → Made
as_they_are name operands result = made (expression.Op name (map (λ m. m.core) operands)) result

-- an operation on two operands, each converted to one type
abbrev pub both_as : OpName → Ty → Made → Made → Ty → Made
both_as name t a b result = made (expression.Op name (converted a t ∷ converted b t ∷ [])) result

-- a test of two operands, each converted to the type that they have in common
abbrev pub compared : OpName → Option Ty → Made → Made → Option Made
compared name common a b = option_map (λ t. both_as name t a b ty.Bool) common
