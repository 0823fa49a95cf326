-- Literals of several parts, and empty ones.
use Rattle.std.specs.Prelude.{List, [], ◌∷◌, ◌++◌, map, Option, Some, None}
use Rattle.std.specs.Option.{option_and_then}
use Rattle.chi_token.specs.declared.place.Place.{Place}
use Rattle.chi_types.specs.declared.ty.Ty.{Ty}
use Rattle.chi_types.specs.declared.ty.Ty.TheVariants as ty
use Rattle.chi_types.specs.Joined.{joined}
use Rattle.chi_value.specs.declared.format.Kind.{Kind}
use Rattle.chi_value.specs.declared.format.Kind.TheVariants as build
use Rattle.chi_core.specs.declared.expression.CExpr.{CExpr}
use Rattle.chi_core.specs.declared.expression.CExpr.TheVariants as expression
use Rattle.chi_core.specs.Kinds.{nameless_parts}
use Rattle.chi_check_types.specs.declared.fault.Fault.{Fault}
use Rattle.chi_check_types.specs.declared.meant.Made.{Made}
use Rattle.chi_check_types.specs.declared.meant.Meant.{Meant}
use Rattle.chi_check_types.specs.declared.rules.TheConstants.{JOINED_PARTS}
use Rattle.chi_check_types.specs.Faults.{fault}
use Rattle.chi_check_types.specs.Typed.{Typed, unless, untyped, refused}
use Rattle.chi_check_types.specs.TypeRules.{depth_rule, plain_rule, meaning}
use Rattle.chi_check_expr_rules.specs.Conversions.{made, converted}
use Rattle.chi_check_expr_rules.specs.Nodes.{all_made}

-- the type that all have in common, with one that was found before them
abbrev pub joined_from : Ty → List Made → Option Ty
joined_from t [] = Some t
joined_from t (m ∷ ms) = option_and_then (λ u. joined_from u ms) (joined t m.ty)

abbrev pub joined_all : List Made → Option Ty
joined_all [] = None
joined_all (m ∷ ms) = joined_from m.ty ms

abbrev pub all_converted : Ty → List Made → List CExpr
all_converted t ms = map (λ m. converted m t) ms

-- the literal, where its own rules hold: it isn't too deep, and its elements or keys are plain where they have to be
abbrev pub literal_of : Place → List Fault → Kind → List CExpr → Ty → Typed Made
literal_of place own kind parts t = unless (own ++ depth_rule place t) (made (expression.Build kind parts) t)

-- the rule on plain elements and keys, of their type
abbrev pub plain_type_rule : Place → Ty → List Fault
plain_type_rule place t = plain_rule place (Some (meaning t))

-- ---- tuples

abbrev pub tuple_literal : Place → List Made → Typed Made
tuple_literal place parts =
    literal_of place [] build.TupleOf (map (λ m. m.core) parts) (ty.TupleOf (nameless_parts (map (λ m. m.ty) parts)))

abbrev pub tuple_parts : Place → Option (List Made) → Typed Made
tuple_parts place None = untyped []
tuple_parts place (Some parts) = tuple_literal place parts

abbrev pub tuple_of : Place → List (Option Made) → Typed Made
tuple_of place parts = tuple_parts place (all_made parts)

-- ---- lists

abbrev pub list_joined : Place → List Made → Option Ty → Typed Made
list_joined place elements None = refused JOINED_PARTS place
list_joined place elements (Some t) = literal_of place [] build.ListOf (all_converted t elements) (ty.ListOf t)

abbrev pub list_parts : Place → Option (List Made) → Typed Made
list_parts place None = untyped []
list_parts place (Some elements) = list_joined place elements (joined_all elements)

abbrev pub list_of : Place → List (Option Made) → Typed Made
list_of place elements = list_parts place (all_made elements)

-- ---- sets

abbrev pub set_joined : Place → List Made → Option Ty → Typed Made
set_joined place elements None = refused JOINED_PARTS place
set_joined place elements (Some t) = literal_of place (plain_type_rule place t) build.SetOf (all_converted t elements) (ty.SetOf t)

abbrev pub set_parts : Place → Option (List Made) → Typed Made
set_parts place None = untyped []
set_parts place (Some elements) = set_joined place elements (joined_all elements)

abbrev pub set_of : Place → List (Option Made) → Typed Made
set_of place elements = set_parts place (all_made elements)

-- ---- dictionaries

-- each key and what it has, in turn
abbrev pub entries : Ty → Ty → List Made → List Made → List CExpr
entries k v (key ∷ keys) (value ∷ values) = converted key k ∷ converted value v ∷ entries k v keys values
entries k v _ _ = []

-- what is amiss with the keys, where each has a type
abbrev pub keys_rule : Place → Option Ty → List Fault
keys_rule place None = fault JOINED_PARTS place ∷ []
keys_rule place (Some k) = plain_type_rule place k

-- and with the values
abbrev pub values_rule : Place → Option Ty → List Fault
values_rule place None = fault JOINED_PARTS place ∷ []
values_rule place (Some v) = []

abbrev pub dict_joined : Place → List Made → List Made → Option Ty → Option Ty → Typed Made
dict_joined place keys values (Some k) (Some v) =
    literal_of place (plain_type_rule place k) build.DictOf (entries k v keys values) (ty.DictOf k v)
dict_joined place keys values k v = untyped (keys_rule place k ++ values_rule place v)

-- the rules on keys need the keys alone, and those on values the values
abbrev pub dict_parts : Place → Option (List Made) → Option (List Made) → Typed Made
dict_parts place (Some keys) (Some values) = dict_joined place keys values (joined_all keys) (joined_all values)
dict_parts place (Some keys) None = untyped (keys_rule place (joined_all keys))
dict_parts place None (Some values) = untyped (values_rule place (joined_all values))
dict_parts place None None = untyped []

abbrev pub dict_of : Place → List (Option Made) → List (Option Made) → Typed Made
dict_of place keys values = dict_parts place (all_made keys) (all_made values)

-- ---- empty containers, of types that are written

abbrev pub empty_list : Place → Option Meant → Typed Made
empty_list place None = untyped []
empty_list place (Some element) = literal_of place [] build.ListOf [] (ty.ListOf element.ty)

abbrev pub empty_set : Place → Option Meant → Typed Made
empty_set place None = untyped []
empty_set place (Some element) = literal_of place (plain_type_rule place element.ty) build.SetOf [] (ty.SetOf element.ty)

abbrev pub empty_dict : Place → Option Meant → Option Meant → Typed Made
empty_dict place (Some key) (Some value) =
    literal_of place (plain_type_rule place key.ty) build.DictOf [] (ty.DictOf key.ty value.ty)
empty_dict place (Some key) None = untyped (plain_type_rule place key.ty)
empty_dict place None value = untyped []
