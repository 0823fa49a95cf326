-- What comes one after another, each in the state that those before it have left.
use Rattle.std.specs.Prelude.{Bool, true, false, List, [], ◌∷◌, ◌++◌, Option, Some, None, option_map, if◌then◌else◌}
use Rattle.std.specs.Option.{option_and_then}
use Rattle.chi_check_types.specs.declared.fault.Fault.{Fault}
use Rattle.chi_check_types.specs.Faults.{are_none}
use Rattle.chi_check_types.specs.Typed.{Typed}

-- the state that is left, the broken rules in the order in which they are met, and what it comes to, if it comes to anything
pub record Stated (S B : Type 0) : Type 0 where
  pub next : S
  pub faults : List Fault
  pub made : Option B

-- what comes to a list, in a state
abbrev pub Turn : Type 0 → Type 0 → Type 0
Turn S A = S → Stated S (List A)

abbrev pub both : {A B C : Type 0} → (A → B → C) → Option A → Option B → Option C
both f a b = option_and_then (λ x. option_map (f x) b) a

abbrev pub joined : {A : Type 0} → Option (List A) → Option (List A) → Option (List A)
joined = both (λ x y. x ++ y)

abbrev pub done : {S A : Type 0} → S → Stated S (List A)
done s = record { next = s; faults = []; made = Some [] }

abbrev pub in_order : {S A : Type 0} → Stated S (List A) → Turn S A → Stated S (List A)
in_order first rest = let more = rest first.next in record { next = more.next; faults = first.faults ++ more.faults; made = joined first.made more.made }

-- one after another
abbrev pub in_turn : {S A : Type 0} → List (Turn S A) → Turn S A
in_turn [] s = done s
in_turn (f ∷ fs) s = in_order (f s) (in_turn fs)

-- what changes no state
abbrev pub staying : {S B : Type 0} → S → Typed B → Stated S B
staying s t = record { next = s; faults = t.faults; made = t.made }

abbrev pub one : {A : Type 0} → Option A → Option (List A)
one = option_map (λ a. a ∷ [])

-- one element, and no other state
abbrev pub alone : {S A : Type 0} → S → Typed A → Stated S (List A)
alone s t = record { next = s; faults = t.faults; made = one t.made }

-- with the broken rules of parts before it
abbrev pub preceded : {S B : Type 0} → List Fault → Stated S B → Stated S B
preceded faults t = record { next = t.next; faults = faults ++ t.faults; made = t.made }

-- with broken rules of its own: it comes to nothing then
abbrev pub held_by : {S B : Type 0} → List Fault → Stated S B → Stated S B
held_by faults t = record { next = t.next; faults = faults ++ t.faults; made = if are_none faults then t.made else None }
