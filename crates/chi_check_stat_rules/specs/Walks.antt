-- Walks over the elements of a container, by one name or by a name for each part of a tuple.
use Rattle.std.specs.Prelude.{ℕ, nat_eq, List, [], ◌∷◌, map, length, Option, Some, None, option_map, if◌then◌else◌}
use Rattle.chi_token.specs.declared.place.Place.{Place}
use Rattle.chi_types.specs.declared.ty.Ty.{Ty, Ty-F, out-Ty}
use Rattle.chi_types.specs.declared.ty.Ty.TheVariants as ty
use Rattle.chi_core.specs.declared.expression.CExpr.{CExpr}
use Rattle.chi_core.specs.Kinds.{nameless_parts}
use Rattle.chi_check_types.specs.declared.meant.Made.{Made}
use Rattle.chi_check_types.specs.declared.rules.TheConstants.{WALK, WALK_NAMES}
use Rattle.chi_check_types.specs.Typed.{Typed, untyped, refused}
use Rattle.chi_check_expr_rules.specs.Nodes.{settled}
use Rattle.chi_check_stat_rules.specs.declared.parts.Walked.{Walked}

-- what a container has as elements; a dictionary has pairs of a key and what it has
abbrev pub element_type : Ty-F Ty → Option Ty
element_type (Ty-F.ListOf element) = Some element
element_type (Ty-F.SetOf element) = Some element
element_type (Ty-F.DictOf key value) = Some (ty.TupleOf (nameless_parts (key ∷ value ∷ [])))
element_type _ = None

-- the types of the parts, where there are so many
abbrev pub types_of_parts : ℕ → Ty-F Ty → Option (List Ty)
types_of_parts count (Ty-F.TupleOf parts) = if nat_eq (length parts) count then Some (map (λ part. part.1) parts) else None
types_of_parts count _ = None

-- the types of so many names: one is the element itself, several are the parts of a tuple
abbrev pub name_types : ℕ → Ty → Option (List Ty)
name_types count element = if nat_eq count 1 then Some (element ∷ []) else types_of_parts count (out-Ty element)

abbrev pub walked : CExpr → List Ty → Walked
walked container types = record { container = container; types = types }

abbrev pub walked_by : ℕ → CExpr → Ty → Option Walked
walked_by count container element = option_map (walked container) (name_types count element)

-- the first place is that of the container, the second that of the first name
abbrev pub walk_over : Place → Place → ℕ → CExpr → Option Ty → Typed Walked
walk_over place first count container None = refused WALK place
walk_over place first count container (Some element) = settled WALK_NAMES first (walked_by count container element)

abbrev pub walk_of : Place → Place → ℕ → Option Made → Typed Walked
walk_of place first count None = untyped []
walk_of place first count (Some m) = walk_over place first count m.core (element_type (out-Ty m.ty))
