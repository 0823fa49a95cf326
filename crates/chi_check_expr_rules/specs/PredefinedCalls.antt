-- Calls of predefined names, by the types of their arguments. Distributions that draw get their streams later, when all
-- of a program is known.
use Rattle.std.specs.Prelude.{ℕ, Bool, true, false, ◌&&◌, nat_eq, nat_lt, List, [], ◌∷◌, map, Option, Some, None, option_map, length, if◌then◌else◌}
use Rattle.std.specs.List.{list_all}
use Rattle.std.specs.Option.{option_and_then}
use Rattle.chi_token.specs.declared.place.Place.{Place}
use Rattle.chi_types.specs.declared.ty.Ty.{Ty, Ty-F, out-Ty}
use Rattle.chi_types.specs.declared.ty.Ty.TheVariants as ty
use Rattle.chi_types.specs.Fits.{fits}
use Rattle.chi_types.specs.Same.{same}
use Rattle.chi_core.specs.declared.expression.CExpr.TheVariants as expression
use Rattle.chi_core.specs.declared.op_name.OpName.{OpName}
use Rattle.chi_core.specs.declared.op_name.OpName.TheVariants as op
use Rattle.chi_core.specs.Kinds.{nameless_parts}
use Rattle.chi_check_types.specs.declared.fault.Fault.{Fault}
use Rattle.chi_check_types.specs.declared.known.Known.{Known}
use Rattle.chi_check_types.specs.declared.known.Known.TheVariants as known
use Rattle.chi_check_types.specs.declared.known.NameKind.{NameKind}
use Rattle.chi_check_types.specs.declared.known.NameKind.TheVariants as kind
use Rattle.chi_check_types.specs.declared.meant.Made.{Made}
use Rattle.chi_check_types.specs.declared.predefined.Predefined.{Predefined}
use Rattle.chi_check_types.specs.declared.predefined.Predefined.TheVariants as name
use Rattle.chi_check_types.specs.declared.rules.TheConstants.{PREDEFINED}
use Rattle.chi_check_types.specs.declared.site.Site.{Site}
use Rattle.chi_check_types.specs.Typed.{Typed, untyped, refused}
use Rattle.chi_check_types.specs.TypeRules.{is_int, is_drawn}
use Rattle.chi_check_expr_rules.specs.Conversions.{made, converted, wanting, as_they_are, both_as}
use Rattle.chi_check_expr_rules.specs.Nodes.{settled, of_all, barred, all_made}
use Rattle.chi_check_expr_rules.specs.Operators.{number_of}
use Rattle.chi_check_expr_rules.specs.Sites.{calling_rule, running_rule}

-- a tuple of parts without names
abbrev pub tuple : List Ty → Ty
tuple ts = ty.TupleOf (nameless_parts ts)

-- ---- one argument, by its type

abbrev pub absolute_by : Ty-F Ty → Made → Option Made
absolute_by Ty-F.Int m = Some (as_they_are op.Abs (m ∷ []) ty.Int)
absolute_by Ty-F.Real m = Some (as_they_are op.Abs (m ∷ []) ty.Real)
absolute_by _ m = None

abbrev pub absolute : Made → Option Made
absolute m = absolute_by (out-Ty m.ty) m

-- -1, 0 or 1
abbrev pub sign_by : Ty-F Ty → Made → Option Made
sign_by Ty-F.Int m = Some (as_they_are op.Sign (m ∷ []) ty.Int)
sign_by Ty-F.Real m = Some (as_they_are op.Sign (m ∷ []) ty.Int)
sign_by _ m = None

abbrev pub sign : Made → Option Made
sign m = sign_by (out-Ty m.ty) m

-- what has elements or bytes that are counted
abbrev pub is_counted : Ty-F Ty → Bool
is_counted Ty-F.Text = true
is_counted (Ty-F.ListOf element) = true
is_counted (Ty-F.SetOf element) = true
is_counted (Ty-F.DictOf key value) = true
is_counted _ = false

abbrev pub counted : OpName → Ty → Made → Option Made
counted name result m = if is_counted (out-Ty m.ty) then Some (as_they_are name (m ∷ []) result) else None

-- the first, or the least, and the rest
abbrev pub popped_type : Ty → Ty-F Ty → Option Ty
popped_type whole (Ty-F.ListOf element) = Some (tuple (element ∷ whole ∷ []))
popped_type whole (Ty-F.SetOf element) = Some (tuple (element ∷ whole ∷ []))
popped_type whole (Ty-F.DictOf key value) = Some (tuple (key ∷ value ∷ whole ∷ []))
popped_type whole _ = None

-- an operation on what it takes apart, where that has a type
abbrev pub taken_by : OpName → Made → Option Ty → Option Made
taken_by name m result = option_map (as_they_are name (m ∷ [])) result

abbrev pub popped : Made → Option Made
popped m = taken_by op.Pop m (popped_type m.ty (out-Ty m.ty))

-- each element with its index
abbrev pub enumerated_type : Ty-F Ty → Option Ty
enumerated_type (Ty-F.ListOf element) = Some (ty.ListOf (tuple (ty.Int ∷ element ∷ [])))
enumerated_type _ = None

abbrev pub enumerated : Made → Option Made
enumerated m = taken_by op.Enumerate m (enumerated_type (out-Ty m.ty))

abbrev pub keys_type : Ty-F Ty → Option Ty
keys_type (Ty-F.DictOf key value) = Some (ty.ListOf key)
keys_type _ = None

abbrev pub keys : Made → Option Made
keys m = taken_by op.DictKeys m (keys_type (out-Ty m.ty))

abbrev pub values_type : Ty-F Ty → Option Ty
values_type (Ty-F.DictOf key value) = Some (ty.ListOf value)
values_type _ = None

abbrev pub values : Made → Option Made
values m = taken_by op.DictValues m (values_type (out-Ty m.ty))

-- a distribution that is always the same
abbrev pub constant : Made → Option Made
constant m = if is_drawn (out-Ty m.ty) then Some (as_they_are op.Constant (m ∷ []) (ty.Dist m.ty)) else None

-- ---- two arguments

abbrev pub is_list : Ty-F Ty → Bool
is_list (Ty-F.ListOf element) = true
is_list _ = false

-- without the element at an index
abbrev pub deleted : Made → Made → Option Made
deleted list index =
    if is_list (out-Ty list.ty) && is_int (out-Ty index.ty) then Some (as_they_are op.Del (list ∷ index ∷ []) list.ty) else None

-- between two ints, or between two numbers as reals
abbrev pub between : Option Ty → Made → Made → Option Made
between number a b = option_map (λ t. both_as op.Uniform t a b (ty.Dist t)) number

abbrev pub uniform : Made → Made → Option Made
uniform a b = between (number_of (out-Ty a.ty) (out-Ty b.ty)) a b

-- ---- two numbers or more

-- int where all are ints, real where all are numbers and one of them is a real
abbrev pub common_number : Ty → List Made → Option Ty
common_number t [] = Some t
common_number t (m ∷ ms) = option_and_then (λ u. common_number u ms) (number_of (out-Ty t) (out-Ty m.ty))

abbrev pub common_numbers : List Made → Option Ty
common_numbers [] = None
common_numbers (m ∷ ms) = common_number m.ty ms

abbrev pub extreme : OpName → List Made → Option Made
extreme name ms = option_map (λ t. made (expression.Op name (map (λ m. converted m t) ms)) t) (common_numbers ms)

-- ---- ranges

abbrev pub range : List Made → Option Made
range bounds = if list_all (λ m. is_int (out-Ty m.ty)) bounds then Some (as_they_are op.Range bounds (ty.ListOf ty.Int)) else None

-- ---- chances and means

abbrev pub bernoulli : List Made → Option Made
bernoulli ms = wanting op.Bernoulli (ty.Real ∷ []) (ty.Dist ty.Bool) ms

abbrev pub binomial : List Made → Option Made
binomial ms = wanting op.Binomial (ty.Int ∷ ty.Real ∷ []) (ty.Dist ty.Int) ms

abbrev pub exponential : List Made → Option Made
exponential ms = wanting op.Exponential (ty.Real ∷ []) (ty.Dist ty.Real) ms

-- ---- the table

-- how many arguments there may be
abbrev pub is_count : Predefined → ℕ → Bool
is_count name.Abs count = nat_eq count 1
is_count name.Sign count = nat_eq count 1
is_count name.Min count = nat_lt 1 count
is_count name.Max count = nat_lt 1 count
is_count name.Floor count = nat_eq count 1
is_count name.Ceil count = nat_eq count 1
is_count name.Round count = nat_eq count 1
is_count name.Size count = nat_eq count 1
is_count name.Empty count = nat_eq count 1
is_count name.Pop count = nat_eq count 1
is_count name.Del count = nat_eq count 2
is_count name.Insert count = nat_eq count 3
is_count name.Range count = nat_lt 0 count && nat_lt count 4
is_count name.Enumerate count = nat_eq count 1
is_count name.DictKeys count = nat_eq count 1
is_count name.DictValues count = nat_eq count 1
is_count name.Constant count = nat_eq count 1
is_count name.Uniform count = nat_eq count 2
is_count name.Bernoulli count = nat_eq count 1
is_count name.Binomial count = nat_eq count 2
is_count name.Exponential count = nat_eq count 1
is_count name.Ready count = nat_eq count 1
is_count name.Finished count = nat_eq count 1

-- the one argument
abbrev pub only : List Made → Option Made
only (m ∷ []) = Some m
only _ = None

abbrev pub one : (Made → Option Made) → List Made → Option Made
one f ms = option_and_then f (only ms)

-- the two arguments
abbrev pub pair : List Made → Option (Made × Made)
pair (a ∷ b ∷ []) = Some (a, b)
pair _ = None

abbrev pub two : (Made → Made → Option Made) → List Made → Option Made
two f ms = option_and_then (λ ab. f ab.0 ab.1) (pair ms)

-- what a name makes of its one argument, by the type of this
abbrev pub of_single : Predefined → Made → Option Made
of_single name.Abs m = absolute m
of_single name.Sign m = sign m
of_single name.Size m = counted op.Size ty.Int m
of_single name.Empty m = counted op.Empty ty.Bool m
of_single name.Pop m = popped m
of_single name.Enumerate m = enumerated m
of_single name.DictKeys m = keys m
of_single name.DictValues m = values m
of_single name.Constant m = constant m
of_single _ m = None

-- What a predefined name makes of its arguments. `insert` has a rule of its own, since its third argument is a name.
abbrev pub predefined : Predefined → List Made → Option Made
predefined name.Min ms = extreme op.Min ms
predefined name.Max ms = extreme op.Max ms
predefined name.Floor ms = wanting op.Floor (ty.Real ∷ []) ty.Int ms
predefined name.Ceil ms = wanting op.Ceil (ty.Real ∷ []) ty.Int ms
predefined name.Round ms = wanting op.Round (ty.Real ∷ []) ty.Int ms
predefined name.Del ms = two deleted ms
predefined name.Insert ms = None
predefined name.Range ms = range ms
predefined name.Uniform ms = two uniform ms
predefined name.Bernoulli ms = bernoulli ms
predefined name.Binomial ms = binomial ms
predefined name.Exponential ms = exponential ms
predefined name.Ready ms = wanting op.Ready (ty.Timer ∷ []) ty.Bool ms
predefined name.Finished ms = wanting op.Finished (ty.Inst ∷ []) ty.Bool ms
predefined p ms = one (of_single p) ms

-- ---- insertion by a function

-- two parameters of the type, and a bool
abbrev pub tells_order : Ty → List Ty → Ty → Bool
tells_order t (a ∷ b ∷ []) result = same a t && same b t && same result ty.Bool
tells_order t _ result = false

abbrev pub inserting : Ty → Made → Made → ℕ → Made
inserting element list x number = made (expression.InsertBy list.core (converted x element) number) list.ty

-- the list, the new element, and what is known of the name of the function
abbrev pub inserted_by : Ty → Made → Made → Known → Option Made
inserted_by element list x (known.Func number params result) =
    if fits x.ty element && tells_order element params result then Some (inserting element list x number) else None
inserted_by element list x _ = None

abbrev pub inserted_in : Ty-F Ty → Made → Made → Known → Option Made
inserted_in (Ty-F.ListOf element) list x k = inserted_by element list x k
inserted_in _ list x k = None

abbrev pub is_function : NameKind → Bool
is_function kind.Function = true
is_function _ = false

abbrev pub is_untyped_function : Known → Bool
is_untyped_function (known.Untyped k) = is_function k
is_untyped_function _ = false

-- A function one of whose types breaks a rule has no type, and so no rule that needs it is broken.
abbrev pub insertion : Place → Made → Made → Option Known → Typed Made
insertion place list x None = refused PREDEFINED place
insertion place list x (Some k) =
    if is_untyped_function k then untyped [] else settled PREDEFINED place (inserted_in (out-Ty list.ty) list x k)

-- what stands third in an insertion is a name, and what is known of it; a predefined name is no function's
abbrev pub insertion_of : Place → Option Made → Option Made → Option Known → Typed Made
insertion_of place (Some list) (Some x) k = insertion place list x k
insertion_of place _ _ k = untyped []

-- ---- the nodes

-- what depends on the run may stand in processes alone, and an insertion calls a function
abbrev pub predefined_rule : Site → Predefined → Place → List Fault
predefined_rule site name.Ready place = running_rule site place
predefined_rule site name.Finished place = running_rule site place
predefined_rule site name.Insert place = calling_rule site place
predefined_rule site p place = []

-- the first two of three arguments
abbrev pub before_third : List (Option Made) → Option (Option Made × Option Made)
before_third (list ∷ x ∷ third ∷ []) = Some (list, x)
before_third _ = None

abbrev pub insert_parts : Place → Option (Option Made × Option Made) → Option Known → Typed Made
insert_parts place None k = refused PREDEFINED place
insert_parts place (Some parts) k = insertion_of place parts.0 parts.1 k

-- the first two arguments of an insertion, and what is known of the name that stands third
abbrev pub insert_call : Place → List (Option Made) → Option Known → Typed Made
insert_call place arguments k = insert_parts place (before_third arguments) k

-- the arguments of what isn't an insertion
abbrev pub plain_call : Place → Predefined → List (Option Made) → Typed Made
plain_call place p arguments = of_all PREDEFINED place (is_count p (length arguments)) (predefined p) (all_made arguments)

abbrev pub is_insert : Predefined → Bool
is_insert name.Insert = true
is_insert _ = false

abbrev pub predefined_made : Place → Predefined → List (Option Made) → Option Known → Typed Made
predefined_made place p arguments k = if is_insert p then insert_call place arguments k else plain_call place p arguments

abbrev pub predefined_call : Site → Place → Predefined → List (Option Made) → Option Known → Typed Made
predefined_call site place p arguments k = barred (predefined_rule site p place) (predefined_made place p arguments k)
