-- Bounds of slices, one after another. Private to proofs.
use Rattle.std.specs.Prelude.{ℤ, Bool, true, false, Option, Some, None, List, [], ◌∷◌, option_map}
use Rattle.chi_value.specs.declared.value.Value.{Value}
use Rattle.chi_core.specs.Reading.{int_of}

-- a bound, if it is given, and the operands after it
abbrev pub next_bound : Bool → List Value → Option (Option ℤ × List Value)
next_bound false operands = Some (None, operands)
next_bound true [] = None
next_bound true (b ∷ rest) = option_map (λ x. (Some x, rest)) (int_of b)
