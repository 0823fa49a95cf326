-- Assignments of as many values as targets, and of one tuple to several targets.
use Rattle.std.specs.Prelude.{ℕ, nat_eq, Bool, true, false, ◌&&◌, List, [], ◌∷◌, map, length, Option, Some, None, option_map, if◌then◌else◌}
use Rattle.std.specs.Option.{option_and_then}
use Rattle.chi_token.specs.declared.place.Place.{Place}
use Rattle.chi_types.specs.declared.ty.Ty.{Ty, Ty-F, out-Ty}
use Rattle.chi_types.specs.Fits.{fits_unconverted}
use Rattle.chi_core.specs.declared.expression.CExpr.{CExpr}
use Rattle.chi_core.specs.declared.statement.CStat.{CStat}
use Rattle.chi_core.specs.declared.statement.CStat.TheVariants as statement
use Rattle.chi_check_types.specs.declared.meant.Made.{Made}
use Rattle.chi_check_types.specs.declared.rules.TheConstants.{TARGET_COUNT, ASSIGNED_VALUE}
use Rattle.chi_check_types.specs.Typed.{Typed, untyped, refused}
use Rattle.chi_check_expr_rules.specs.Conversions.{passed}
use Rattle.chi_check_expr_rules.specs.Nodes.{of_one, of_two, all_made}
use Rattle.chi_check_stat_rules.specs.declared.parts.Aim.{Aim}

-- all of them, where each is there
abbrev pub all_aims : List (Option Aim) → Option (List Aim)
all_aims [] = Some []
all_aims (a ∷ more) = option_and_then (λ first. option_map (λ rest. first ∷ rest) (all_aims more)) a

abbrev pub assign : ℕ → List Aim → List CExpr → CStat
assign line aims values = statement.Assign line (map (λ a. a.target) aims) values

-- as many values as targets, each of which fits and is converted
abbrev pub stored : ℕ → List Made → List Aim → Option CStat
stored line values aims = option_map (assign line aims) (passed values (map (λ a. a.ty) aims))

-- the parts of a tuple, each of which fits its target as it is
abbrev pub parts_fit : List (List ℕ × Ty) → List Aim → Bool
parts_fit [] [] = true
parts_fit (part ∷ parts) (a ∷ more) = fits_unconverted part.1 a.ty && parts_fit parts more
parts_fit _ _ = false

abbrev pub spread : ℕ → CExpr → List (List ℕ × Ty) → List Aim → Option CStat
spread line tuple parts aims = if parts_fit parts aims then Some (assign line aims (tuple ∷ [])) else None

-- a tuple with as many parts as there are targets
abbrev pub spread_parts : ℕ → Place → List (Option Aim) → CExpr → List (List ℕ × Ty) → Typed CStat
spread_parts line equals aims tuple parts =
    if nat_eq (length parts) (length aims) then of_one ASSIGNED_VALUE equals (spread line tuple parts) (all_aims aims)
    else refused TARGET_COUNT equals

abbrev pub spread_value : ℕ → Place → List (Option Aim) → CExpr → Ty-F Ty → Typed CStat
spread_value line equals aims tuple (Ty-F.TupleOf parts) = spread_parts line equals aims tuple parts
spread_value line equals aims tuple _ = refused TARGET_COUNT equals

-- whether one value is such a tuple needs its type
abbrev pub spread_one : ℕ → Place → List (Option Aim) → Option Made → Typed CStat
spread_one line equals aims None = untyped []
spread_one line equals aims (Some m) = spread_value line equals aims m.core (out-Ty m.ty)

-- the one value, where there is just one
abbrev pub only_one : List (Option Made) → Option (Option Made)
only_one (value ∷ []) = Some value
only_one _ = None

-- another number of values than of targets
abbrev pub uneven : ℕ → Place → List (Option Aim) → Option (Option Made) → Typed CStat
uneven line equals aims None = refused TARGET_COUNT equals
uneven line equals aims (Some value) = spread_one line equals aims value

-- as many of one as of the other
abbrev pub even : ℕ → Place → List (Option Aim) → List (Option Made) → Typed CStat
even line equals aims values = of_two ASSIGNED_VALUE equals (stored line) (all_made values) (all_aims aims)

abbrev pub assigned : ℕ → Place → List (Option Aim) → List (Option Made) → Typed CStat
assigned line equals aims values =
    if nat_eq (length values) (length aims) then even line equals aims values else uneven line equals aims (only_one values)
