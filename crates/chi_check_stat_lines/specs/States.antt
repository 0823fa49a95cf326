-- The names that are visible, and the slots of the variables so far, in a body.
use Rattle.std.specs.Prelude.{ℕ, Bool, not, ◌||◌, List, [], ◌∷◌, ◌++◌, length, map, take, Option, Some, None, is_some, if◌then◌else◌}
use Rattle.chi_tree.specs.declared.type_tree.Name.{Name}
use Rattle.chi_types.specs.declared.ty.Ty.{Ty}
use Rattle.chi_check_types.specs.declared.fault.Fault.{Fault}
use Rattle.chi_check_types.specs.declared.known.Known.{Known}
use Rattle.chi_check_types.specs.declared.known.Known.TheVariants as known
use Rattle.chi_check_types.specs.declared.known.NameKind.TheVariants as kind
use Rattle.chi_check_types.specs.declared.rules.TheConstants.{NEW_NAME}
use Rattle.chi_check_types.specs.Names.{Names, known_in}
use Rattle.chi_check_types.specs.Predefined.{is_predefined}
use Rattle.chi_check_types.specs.Typed.{broken_if}
use Rattle.chi_check_stat_lines.specs.declared.state.Binder.{Binder}
use Rattle.chi_check_stat_lines.specs.declared.state.Binder.TheVariants as binder
use Rattle.chi_check_stat_lines.specs.declared.state.State.{State}
use Rattle.chi_check_stat_lines.specs.Stated.{Stated, Turn, in_turn}

-- nothing new may be named so
abbrev pub is_taken : Names → List ℕ → Bool
is_taken names name = is_predefined name || is_some (known_in names name)

abbrev pub new_name_rule : Names → Name → List Fault
new_name_rule names name = broken_if (is_taken names name.text) NEW_NAME name.place

-- a name that is taken keeps its meaning
abbrev pub with_name : Names → List ℕ → Known → Names
with_name names name k = if is_taken names name then names else names ++ (name, k) ∷ []

-- what is known of a variable that has a type, by its slot, and of one that has none
abbrev pub bound : Binder → ℕ → Option Ty → Known
bound binder.Variable slot (Some t) = known.Var slot t
bound binder.Variable slot None = known.Untyped kind.Variable
bound binder.Unwind slot (Some t) = known.Fixed slot t
bound binder.Unwind slot None = known.Untyped kind.Unwound

-- a variable without a type has no slot
abbrev pub with_slot : List Ty → Option Ty → List Ty
with_slot slots None = slots
with_slot slots (Some t) = slots ++ t ∷ []

-- a new variable, in the next slot
abbrev pub with_variable : Binder → Name → Option Ty → State → State
with_variable b name t s = record { names = with_name s.names name.text (bound b (length s.slots) t); slots = with_slot s.slots t }

abbrev pub next_slot : State → ℕ
next_slot s = length s.slots

-- the slot of a new name that has a type
abbrev pub slot_if : Bool → Bool → ℕ → Option (List ℕ)
slot_if taken typed slot = if taken || not typed then None else Some (slot ∷ [])

abbrev pub binding : Binder → Name → Option Ty → Turn State ℕ
binding b name t s = record {
  next = with_variable b name t s;
  faults = new_name_rule s.names name;
  made = slot_if (is_taken s.names name.text) (is_some t) (next_slot s);
}

abbrev pub first_type : List Ty → Option Ty
first_type [] = None
first_type (t ∷ types) = Some t

abbrev pub other_types : List Ty → List Ty
other_types [] = []
other_types (t ∷ types) = types

-- names in turn, with their types; those past the types have none
abbrev pub bindings : Binder → List Name → List Ty → List (Turn State ℕ)
bindings b [] types = []
bindings b (name ∷ names) types = binding b name (first_type types) ∷ bindings b names (other_types types)

-- the end of a block: the first names stay visible, and no slot is used again
abbrev pub cut : ℕ → State → State
cut count s = record { names = take count s.names; slots = s.slots }

-- after what a block holds, none of the names that it declares is visible
abbrev pub closed : {B : Type 0} → State → Stated State B → Stated State B
closed s t = record { next = cut (length s.names) t.next; faults = t.faults; made = t.made }

abbrev pub block : {A : Type 0} → List (Turn State A) → Turn State A
block fs s = closed s (in_turn fs s)

-- what a statement comes to, where a loop stands around it or not
abbrev pub Going : Type 0 → Type 0
Going A = Bool → Turn State A

-- each where a loop stands around it or not
abbrev pub each_in : {A : Type 0} → Bool → List (Going A) → List (Turn State A)
each_in loop fs = map (λ f. f loop) fs
