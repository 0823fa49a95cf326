-- The visible names, in order of declaration.
use Rattle.std.specs.Prelude.{ℕ, Bool, List, [], ◌∷◌, Option, Some, None, if◌then◌else◌}
use Rattle.std.specs.List.{list_any}
use Rattle.std.specs.Str.{bytes_eq}
use Rattle.chi_check_types.specs.declared.known.Known.{Known}

-- a text is one of these
abbrev pub is_among : List ℕ → List (List ℕ) → Bool
is_among text = list_any (bytes_eq text)

-- each with what is known of it
abbrev pub Names : Type 0
Names = List (List ℕ × Known)

-- what stands beside a name, where it is in the list
abbrev pub looked_up : {A : Type 0} → List (List ℕ × A) → List ℕ → Option A
looked_up [] name = None
looked_up (entry ∷ entries) name = if bytes_eq name entry.0 then Some entry.1 else looked_up entries name

-- what is known of a name, where it is visible
abbrev pub known_in : Names → List ℕ → Option Known
known_in = looked_up
