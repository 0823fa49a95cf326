-- Broken rules with their places, and the first of them.
use Rattle.std.specs.Prelude.{◌≡◌, ℕ, Bool, true, false, ◌||◌, ◌&&◌, nat_lt, nat_eq, List, [], ◌∷◌, Option, Some, None, Contains, All, if◌then◌else◌}
use Rattle.chi_token.specs.declared.place.Place.{Place}
use Rattle.chi_check_types.specs.declared.fault.Fault.{Fault}

abbrev pub fault : ℕ → Place → Fault
fault rule place = record { rule = rule; place = place }

-- no rule is broken
abbrev pub are_none : List Fault → Bool
are_none [] = true
are_none (f ∷ fs) = false

-- a place before another in the text
abbrev pub is_before : Place → Place → Bool
is_before a b = nat_lt a.line b.line || (nat_eq a.line b.line && nat_lt a.column b.column)

abbrev pub is_same_place : Place → Place → Bool
is_same_place a b = nat_eq a.line b.line && nat_eq a.column b.column

-- the less place, and at one place the less number
abbrev pub is_sooner : Fault → Fault → Bool
is_sooner a b = is_before a.place b.place || (is_same_place a.place b.place && nat_lt a.rule b.rule)

-- a fault is in the list, and none of the list is sooner
abbrev pub IsFirst : Fault → List Fault → Type 0
IsFirst f faults = Contains faults f × All (λ other. is_sooner other f ≡ false) faults

-- the sooner of two, the first where neither is
abbrev pub sooner_of : Option Fault → Fault → Fault
sooner_of None f = f
sooner_of (Some kept) f = if is_sooner f kept then f else kept

-- the first of one that may be kept already and of a list
unfoldable pub first_of : Option Fault → List Fault → Option Fault
first_of kept [] = kept
first_of kept (f ∷ fs) = first_of (Some (sooner_of kept f)) fs

-- the first of a list
abbrev pub first : List Fault → Option Fault
first = first_of None
