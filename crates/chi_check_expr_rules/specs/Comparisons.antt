-- The signs between two sums, by the types of their operands.
use Rattle.std.specs.Prelude.{Bool, true, false, ◌&&◌, [], ◌∷◌, Option, Some, None, option_map, if◌then◌else◌}
use Rattle.std.specs.Option.{option_and_then}
use Rattle.chi_token.specs.declared.place.Place.{Place}
use Rattle.chi_tree.specs.declared.operator.RelationSign.{RelationSign}
use Rattle.chi_tree.specs.declared.operator.RelationSign.TheVariants as sign
use Rattle.chi_types.specs.declared.ty.Ty.{Ty, Ty-F, out-Ty}
use Rattle.chi_types.specs.declared.ty.Ty.TheVariants as ty
use Rattle.chi_types.specs.Fits.{fits}
use Rattle.chi_types.specs.Joined.{joined}
use Rattle.chi_types.specs.Plain.{is_plain}
use Rattle.chi_types.specs.Same.{same}
use Rattle.chi_core.specs.declared.expression.CExpr.TheVariants as expression
use Rattle.chi_core.specs.declared.op_name.OpName.{OpName}
use Rattle.chi_core.specs.declared.op_name.OpName.TheVariants as op
use Rattle.chi_check_types.specs.declared.meant.Made.{Made}
use Rattle.chi_check_types.specs.declared.rules.TheConstants.{OPERATOR}
use Rattle.chi_check_types.specs.Typed.{Typed}
use Rattle.chi_check_expr_rules.specs.Conversions.{made, converted, as_they_are, compared}
use Rattle.chi_check_expr_rules.specs.Nodes.{of_two}

abbrev pub if_plain : Ty → Option Ty
if_plain t = if is_plain t then Some t else None

-- equal or not: joined and plain
abbrev pub equality : OpName → Made → Made → Option Made
equality name a b = compared name (option_and_then if_plain (joined a.ty b.ty)) a b

-- what has an order of its own: numbers, strings and the values of one enumeration
abbrev pub has_order : Ty-F Ty → Bool
has_order Ty-F.Int = true
has_order Ty-F.Real = true
has_order Ty-F.Text = true
has_order (Ty-F.Choice enumeration) = true
has_order _ = false

abbrev pub if_ordered : Ty → Option Ty
if_ordered t = if has_order (out-Ty t) then Some t else None

abbrev pub ordering : OpName → Made → Made → Option Made
ordering name a b = compared name (option_and_then if_ordered (joined a.ty b.ty)) a b

-- what may be in a container: the elements of a list or set, the keys of a dictionary
abbrev pub member_type : Ty-F Ty → Option Ty
member_type (Ty-F.ListOf element) = Some element
member_type (Ty-F.SetOf element) = Some element
member_type (Ty-F.DictOf key value) = Some key
member_type _ = None

-- plain, and what is given fits
abbrev pub if_member : Ty → Ty → Option Ty
if_member given t = if is_plain t && fits given t then Some t else None

abbrev pub member_of : Made → Made → Ty → Made
member_of a b t = made (expression.Op op.In (converted a t ∷ b.core ∷ [])) ty.Bool

abbrev pub membership : Made → Made → Option Made
membership a b = option_map (member_of a b) (option_and_then (if_member a.ty) (member_type (out-Ty b.ty)))

abbrev pub is_set : Ty-F Ty → Bool
is_set (Ty-F.SetOf element) = true
is_set _ = false

-- two sets of the same type
abbrev pub subset : Made → Made → Option Made
subset a b = if is_set (out-Ty a.ty) && same a.ty b.ty then Some (as_they_are op.Subset (a ∷ b ∷ []) ty.Bool) else None

abbrev pub related : RelationSign → Made → Made → Option Made
related sign.Less a b = ordering op.Less a b
related sign.LessEqual a b = ordering op.AtMost a b
related sign.Equal a b = equality op.Equal a b
related sign.NotEqual a b = equality op.NotEqual a b
related sign.Greater a b = ordering op.Greater a b
related sign.GreaterEqual a b = ordering op.AtLeast a b
related sign.In a b = membership a b
related sign.Sub a b = subset a b

abbrev pub relation_of : RelationSign → Place → Option Made → Option Made → Typed Made
relation_of sign place a b = of_two OPERATOR place (related sign) a b
