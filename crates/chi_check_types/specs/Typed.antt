-- What a tree comes to: its broken rules with those of its parts, and what is made of it, if it has a type.
use Rattle.std.specs.Prelude.{ℕ, Bool, true, false, List, [], ◌∷◌, ◌++◌, Option, Some, None}
use Rattle.chi_token.specs.declared.place.Place.{Place}
use Rattle.chi_check_types.specs.declared.fault.Fault.{Fault}
use Rattle.chi_check_types.specs.Faults.{fault}

pub record Typed (A : Type 0) : Type 0 where
  pub faults : List Fault
  pub made : Option A

-- a rule that is broken where the test says so
abbrev pub broken_if : Bool → ℕ → Place → List Fault
broken_if true rule place = fault rule place ∷ []
broken_if false rule place = []

-- what is made where no rule is broken
abbrev pub unless : {A : Type 0} → List Fault → A → Typed A
unless [] a = record { faults = []; made = Some a }
unless (f ∷ fs) a = record { faults = f ∷ fs; made = None }

-- broken rules, and no type
abbrev pub untyped : {A : Type 0} → List Fault → Typed A
untyped faults = record { faults = faults; made = None }

-- one broken rule
abbrev pub refused : {A : Type 0} → ℕ → Place → Typed A
refused rule place = untyped (fault rule place ∷ [])

-- with the broken rules of the parts
abbrev pub after : {A : Type 0} → List Fault → Typed A → Typed A
after faults t = record { faults = faults ++ t.faults; made = t.made }
