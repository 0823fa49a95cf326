-- Slots that are bound to parts, one after another. Private to proofs.
use Rattle.std.specs.Prelude.{ℕ, List, Option}
use Rattle.std.specs.Option.{option_and_then}
use Rattle.chi_value.specs.declared.value.Value.{Value}
use Rattle.chi_core.specs.Variables.{Variables, bind, side_by_side}

abbrev pub bound_parts : List ℕ → List Value → Variables → Option Variables
bound_parts slots parts variables = option_and_then (λ bindings. bind bindings variables) (side_by_side slots parts)
