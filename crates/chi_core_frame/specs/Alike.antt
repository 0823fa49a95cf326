-- Variables of which one was let go of. Private to proofs.
use Rattle.std.specs.Prelude.{◌≡◌, ℕ, length}
use Rattle.chi_value.specs.declared.value.Value.{Value}
use Rattle.chi_core.specs.Variables.{Variables, with_slot}

-- variables that differ at most in what a slot is set to
abbrev pub AreAlikeBut : ℕ → Variables → Variables → Type 0
AreAlikeBut slot one other = (length other ≡ length one) × ((x : Value) → with_slot slot x other ≡ with_slot slot x one)
