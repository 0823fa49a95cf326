-- What an operation on containers comes to.
use Rattle.std.specs.Prelude.{ℕ, Bool, true, false, nat_le, Option, None, Some, if◌then◌else◌}
use Rattle.chi_value.specs.declared.value.TheConstants.{MOST_ELEMENTS}
use Rattle.chi_value.specs.declared.value.Value.{Value}

-- why an operation has no value
pub data Fault : Type 0 where
  index_fault : Fault
  key_fault : Fault
  empty_fault : Fault
  limit_fault : Fault
  step_fault : Fault

-- a value, a fault, or neither where the condition of the operation doesn't hold
pub data Outcome : Type 0 where
  gives : Value → Outcome
  faults : Fault → Outcome
  wrong : Outcome

-- an outcome is wrong
abbrev pub is_wrong : Outcome → Bool
is_wrong wrong = true
is_wrong _ = false

-- what an operation comes to where its condition holds; it is wrong where it doesn't
abbrev pub where_may : Bool → Outcome → Outcome
where_may true outcome = outcome
where_may false outcome = wrong

-- the value where there is one
abbrev pub gives_or : Fault → Option Value → Outcome
gives_or fault None = faults fault
gives_or fault (Some value) = gives value

-- a container of so many elements, or a string of so many bytes, if it may have that many
abbrev pub gives_within : ℕ → Value → Outcome
gives_within size value = if nat_le size MOST_ELEMENTS then gives value else faults limit_fault

-- with the value changed
abbrev pub outcome_map : (Value → Value) → Outcome → Outcome
outcome_map f (gives value) = gives (f value)
outcome_map f (faults fault) = faults fault
outcome_map f wrong = wrong
