-- Slots that are bound, one after another.
use Rattle.std.proofs.Common.{◌≡◌, ◌≢◌, ℕ, ◌<◌, [], ◌∷◌, Some, None, Bool, true, false, cond, length, ◌∙◌, ap, refl, arith}
use Rattle.std.specs.Prelude.{nat_lt, slice_set}
use Rattle.std.specs.Option.{option_and_then}
use Rattle.chi_value.specs.declared.value.Value.{Value}
use Rattle.chi_core.specs.Meeting.{filled}
use Rattle.chi_core.specs.Variables.{Variables, Bindings, with_slot, bind}

-- a slot that can be set is there
pub slot_there : (slot : ℕ) (x : Value) (variables : Variables) → with_slot slot x variables ≢ None → slot < length variables
slot_there slot x variables well = by_test (nat_lt slot (length variables)) (λ e. grind arith) well
  where
    by_test : (b : Bool) → (b ≡ true → slot < length variables) → cond b (Some (slice_set variables slot (Some x))) None ≢ None → slot < length variables
    by_test true h w = h refl
    by_test false h w = absurd (w refl)

-- one more binding

pub bind_there : (bindings rest : Bindings) (slot : ℕ) (x : Value) (variables : Variables) → bindings ≡ (slot, x) ∷ rest → bind bindings variables ≢ None
    → slot < length variables
bind_there bindings rest slot x variables e well =
    slot_there slot x variables (λ none. well (ap (λ b. bind b variables) e ∙ ap (option_and_then (bind rest)) none))

pub bind_more : (bindings rest : Bindings) (slot : ℕ) (x : Value) (variables new : Variables) → bindings ≡ (slot, x) ∷ rest → with_slot slot x variables ≡ Some new
    → bind bindings variables ≡ bind rest new
bind_more bindings rest slot x variables new e set = ap (λ b. bind b variables) e ∙ ap (option_and_then (bind rest)) set

pub bind_none : (bindings : Bindings) (variables : Variables) → length bindings ≡ 0 → bind bindings variables ≡ Some variables
bind_none [] variables e = refl
bind_none (b ∷ bindings) variables e = absurd (omega arith)

pub ruleset binding = (bind_there, bind_more, bind_none)

pub filled_there : (slot : ℕ) (x : Value) (variables : Variables) → filled (Some slot) (Some x) variables ≢ None → slot < length variables
filled_there slot x variables well = slot_there slot x variables well

pub ruleset filling = (filled_there, slot_there)
