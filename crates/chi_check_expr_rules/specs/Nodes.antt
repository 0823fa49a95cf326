-- What a node comes to by a rule over its parts. A rule that needs a part without a type isn't broken.
use Rattle.std.specs.Prelude.{ℕ, Bool, true, false, List, [], ◌∷◌, ◌++◌, Option, Some, None, option_map}
use Rattle.std.specs.Option.{option_and_then}
use Rattle.chi_token.specs.declared.place.Place.{Place}
use Rattle.chi_check_types.specs.declared.fault.Fault.{Fault}
use Rattle.chi_check_types.specs.declared.meant.Made.{Made}
use Rattle.chi_check_types.specs.Typed.{Typed, untyped, refused}

-- what the rule makes, or the rule is broken there
abbrev pub settled : {A : Type 0} → ℕ → Place → Option A → Typed A
settled rule place None = refused rule place
settled rule place (Some a) = record { faults = []; made = Some a }

abbrev pub of_one : {A B : Type 0} → ℕ → Place → (A → Option B) → Option A → Typed B
of_one rule place f None = untyped []
of_one rule place f (Some a) = settled rule place (f a)

abbrev pub of_two : {A B C : Type 0} → ℕ → Place → (A → B → Option C) → Option A → Option B → Typed C
of_two rule place f None b = untyped []
of_two rule place f (Some a) None = untyped []
of_two rule place f (Some a) (Some b) = settled rule place (f a b)

-- A list of parts. A wrong number of them breaks the rule, also where one has no type; what they are doesn't.
abbrev pub of_all : {B : Type 0} → ℕ → Place → Bool → (List Made → Option B) → Option (List Made) → Typed B
of_all rule place false f parts = refused rule place
of_all rule place true f None = untyped []
of_all rule place true f (Some parts) = settled rule place (f parts)

-- further rules of the node that are broken: it has no type then
abbrev pub barred : {A : Type 0} → List Fault → Typed A → Typed A
barred [] t = t
barred (f ∷ fs) t = record { faults = (f ∷ fs) ++ t.faults; made = None }

-- all of them, where each has a type
abbrev pub all_made : List (Option Made) → Option (List Made)
all_made [] = Some []
all_made (m ∷ ms) = option_and_then (λ first. option_map (λ more. first ∷ more) (all_made ms)) m
