-- The operands of an operator. Private to proofs.
use Rattle.std.specs.Prelude.{List, [], ◌∷◌}
use Rattle.chi_value.specs.declared.value.Value.{Value}
use Rattle.chi_core_frame.specs.declared.operators.Operands.{Operands}
use Rattle.chi_core_frame.specs.declared.operators.Operands.TheVariants.{One, Two, Any}

abbrev pub listed : Operands → List Value
listed (One x) = x ∷ []
listed (Two x y) = x ∷ y ∷ []
listed (Any values) = values.items
