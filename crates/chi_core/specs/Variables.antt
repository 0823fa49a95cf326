-- Variables: the slots of an instance or of a function's call, and the names that are bound in them.
use Rattle.std.specs.Prelude.{ℕ, ◌-◌, nat_lt, Option, Some, None, List, [], ◌∷◌, ◌++◌, length, map, replicate, slice_get, slice_set, option_map, if◌then◌else◌}
use Rattle.std.specs.Option.{option_and_then}
use Rattle.chi_value.specs.declared.value.Value.{Value}
use Rattle.chi_core.specs.Reading.{parts_of}

-- the variables by their slots, each with its value once it is set
abbrev pub Variables : Type 0
Variables = List (Option Value)

-- the arguments stand in the first slots, and no other is set
abbrev pub variables_of : ℕ → List Value → Variables
variables_of slots arguments = map Some arguments ++ replicate (slots - length arguments) None

abbrev pub set_value : Option (Option Value) → Option Value
set_value (Some v) = v
set_value None = None

-- the value of a slot, which is there and set
abbrev pub value_at : Variables → ℕ → Option Value
value_at variables slot = set_value (slice_get variables slot)

-- the variables with a slot set, which is there
abbrev pub with_slot : ℕ → Value → Variables → Option Variables
with_slot slot x variables = if nat_lt slot (length variables) then Some (slice_set variables slot (Some x)) else None

-- as many of one as of the other, side by side
abbrev pub side_by_side : {A B : Type 0} → List A → List B → Option (List (A × B))
side_by_side [] [] = Some []
side_by_side (a ∷ others) (b ∷ bs) = option_map (λ rest. (a, b) ∷ rest) (side_by_side others bs)
side_by_side _ _ = None

-- slots with what they are bound to
abbrev pub Bindings : Type 0
Bindings = List (ℕ × Value)

-- what an element binds names to: one name to itself, several to the parts of a tuple
abbrev pub bindings_of : List ℕ → Value → Option Bindings
bindings_of (slot ∷ []) element = Some ((slot, element) ∷ [])
bindings_of slots element = option_and_then (side_by_side slots) (parts_of element)

-- the variables with slots bound, one after another
abbrev pub bind : Bindings → Variables → Option Variables
bind [] variables = Some variables
bind (b ∷ bindings) variables = option_and_then (bind bindings) (with_slot b.0 b.1 variables)

-- the variables with names bound to an element
abbrev pub bound : List ℕ → Value → Variables → Option Variables
bound slots element variables = option_and_then (λ bindings. bind bindings variables) (bindings_of slots element)

-- what slots are bound to, each of which is set
abbrev pub bindings_at : List ℕ → Variables → Option Bindings
bindings_at [] variables = Some []
bindings_at (slot ∷ slots) variables =
    option_and_then (λ x. option_map (λ rest. (slot, x) ∷ rest) (bindings_at slots variables)) (value_at variables slot)
