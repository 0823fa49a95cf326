-- The operators of chains, `^` and the prefixes, by the types of their operands.
use Rattle.std.specs.Prelude.{Bool, true, false, ◌&&◌, List, [], ◌∷◌, Option, Some, None, option_map, if◌then◌else◌}
use Rattle.chi_token.specs.declared.place.Place.{Place}
use Rattle.chi_tree.specs.declared.operator.Operator.{Operator}
use Rattle.chi_tree.specs.declared.operator.Operator.TheVariants as operator
use Rattle.chi_tree.specs.declared.operator.PrefixSign.{PrefixSign}
use Rattle.chi_tree.specs.declared.operator.PrefixSign.TheVariants as prefix
use Rattle.chi_types.specs.declared.ty.Ty.{Ty, Ty-F, out-Ty}
use Rattle.chi_types.specs.declared.ty.Ty.TheVariants as ty
use Rattle.chi_types.specs.Same.{same}
use Rattle.chi_core.specs.declared.expression.CExpr.TheVariants as expression
use Rattle.chi_core.specs.declared.op_name.OpName.{OpName}
use Rattle.chi_core.specs.declared.op_name.OpName.TheVariants as op
use Rattle.chi_check_types.specs.declared.fault.Fault.{Fault}
use Rattle.chi_check_types.specs.declared.meant.Made.{Made}
use Rattle.chi_check_types.specs.declared.rules.TheConstants.{OPERATOR}
use Rattle.chi_check_types.specs.declared.site.Site.{Site}
use Rattle.chi_check_types.specs.Typed.{Typed}
use Rattle.chi_check_expr_rules.specs.Conversions.{made, wanting, as_they_are, both_as}
use Rattle.chi_check_expr_rules.specs.Nodes.{of_one, of_two, barred}
use Rattle.chi_check_expr_rules.specs.Sites.{running_rule}

-- ---- numbers

-- int where both are ints, real where one is an int and the other a real, or both are reals
abbrev pub number_of : Ty-F Ty → Ty-F Ty → Option Ty
number_of Ty-F.Int Ty-F.Int = Some ty.Int
number_of Ty-F.Int Ty-F.Real = Some ty.Real
number_of Ty-F.Real Ty-F.Int = Some ty.Real
number_of Ty-F.Real Ty-F.Real = Some ty.Real
number_of _ _ = None

-- an operation on two numbers
abbrev pub calculated : OpName → Option Ty → Made → Made → Option Made
calculated name number a b = option_map (λ t. both_as name t a b t) number

abbrev pub arithmetic : OpName → Made → Made → Option Made
arithmetic name a b = calculated name (number_of (out-Ty a.ty) (out-Ty b.ty)) a b

-- ---- texts and containers

-- both of the same type
abbrev pub of_same : OpName → Made → Made → Option Made
of_same name a b = if same a.ty b.ty then Some (as_they_are name (a ∷ b ∷ []) a.ty) else None

abbrev pub add_by : Ty-F Ty → Made → Made → Option Made
add_by Ty-F.Text a b = of_same op.Add a b
add_by (Ty-F.ListOf element) a b = of_same op.Add a b
add_by (Ty-F.SetOf element) a b = of_same op.Add a b
add_by (Ty-F.DictOf key value) a b = of_same op.Add a b
add_by _ a b = arithmetic op.Add a b

abbrev pub is_set_of : Ty → Ty-F Ty → Bool
is_set_of element (Ty-F.SetOf t) = same t element
is_set_of element _ = false

-- a dictionary without the keys of a set
abbrev pub without_keys : Ty → Made → Made → Option Made
without_keys key a b = if is_set_of key (out-Ty b.ty) then Some (as_they_are op.Sub (a ∷ b ∷ []) a.ty) else None

abbrev pub subtract_by : Ty-F Ty → Made → Made → Option Made
subtract_by (Ty-F.SetOf element) a b = of_same op.Sub a b
subtract_by (Ty-F.DictOf key value) a b = without_keys key a b
subtract_by _ a b = arithmetic op.Sub a b

abbrev pub multiply_by : Ty-F Ty → Made → Made → Option Made
multiply_by (Ty-F.SetOf element) a b = of_same op.Mul a b
multiply_by _ a b = arithmetic op.Mul a b

-- ---- truth values

abbrev pub is_bool : Ty-F Ty → Bool
is_bool Ty-F.Bool = true
is_bool _ = false

abbrev pub are_bools : Made → Made → Bool
are_bools a b = is_bool (out-Ty a.ty) && is_bool (out-Ty b.ty)

abbrev pub conjunction : Made → Made → Option Made
conjunction a b = if are_bools a b then Some (made (expression.And a.core b.core) ty.Bool) else None

abbrev pub disjunction : Made → Made → Option Made
disjunction a b = if are_bools a b then Some (made (expression.Or a.core b.core) ty.Bool) else None

-- ---- the table

abbrev pub ints : List Ty
ints = ty.Int ∷ ty.Int ∷ []

abbrev pub reals : List Ty
reals = ty.Real ∷ ty.Real ∷ []

-- an operation on two ints, to an int
abbrev pub of_ints : OpName → Made → Made → Option Made
of_ints name a b = wanting name ints ty.Int (a ∷ b ∷ [])

-- the quotient of two numbers, as reals
abbrev pub divide : Made → Made → Option Made
divide a b = wanting op.Divide reals ty.Real (a ∷ b ∷ [])

-- what an operator of a chain makes of its operands
abbrev pub binary : Operator → Made → Made → Option Made
binary operator.Or a b = disjunction a b
binary operator.And a b = conjunction a b
binary operator.Add a b = add_by (out-Ty a.ty) a b
binary operator.Subtract a b = subtract_by (out-Ty a.ty) a b
binary operator.Multiply a b = multiply_by (out-Ty a.ty) a b
binary operator.Divide a b = divide a b
binary operator.DivideWhole a b = of_ints op.Div a b
binary operator.Remainder a b = of_ints op.Mod a b

-- `^`
abbrev pub power : Made → Made → Option Made
power a b = of_ints op.Power a b

-- `-` before an int or a real
abbrev pub negated : Ty-F Ty → Made → Option Made
negated Ty-F.Int m = Some (as_they_are op.Neg (m ∷ []) ty.Int)
negated Ty-F.Real m = Some (as_they_are op.Neg (m ∷ []) ty.Real)
negated _ m = None

-- `+` before an int or a real vanishes
abbrev pub unchanged : Ty-F Ty → Made → Option Made
unchanged Ty-F.Int m = Some m
unchanged Ty-F.Real m = Some m
unchanged _ m = None

-- what is drawn from a distribution
abbrev pub sampled : Ty-F Ty → Made → Option Made
sampled (Ty-F.Dist drawn) m = Some (as_they_are op.Sample (m ∷ []) drawn)
sampled _ m = None

abbrev pub prefixed : PrefixSign → Made → Option Made
prefixed prefix.Not m = wanting op.Not (ty.Bool ∷ []) ty.Bool (m ∷ [])
prefixed prefix.Minus m = negated (out-Ty m.ty) m
prefixed prefix.Plus m = unchanged (out-Ty m.ty) m
prefixed prefix.Sample m = sampled (out-Ty m.ty) m

-- ---- the nodes

abbrev pub chain_of : Operator → Place → Option Made → Option Made → Typed Made
chain_of sign place a b = of_two OPERATOR place (binary sign) a b

abbrev pub power_of : Place → Option Made → Option Made → Typed Made
power_of place a b = of_two OPERATOR place power a b

-- what is drawn depends on the run
abbrev pub prefix_rule : Site → PrefixSign → Place → List Fault
prefix_rule site prefix.Sample place = running_rule site place
prefix_rule site sign place = []

abbrev pub prefix_made : PrefixSign → Place → Option Made → Typed Made
prefix_made sign place m = of_one OPERATOR place (prefixed sign) m

abbrev pub prefix_of : Site → PrefixSign → Place → Option Made → Typed Made
prefix_of site sign place m = barred (prefix_rule site sign place) (prefix_made sign place m)
