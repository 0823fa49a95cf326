-- The operands of an operator. Private to proofs.
use Rattle.std.specs.Prelude.{◌≡◌, List, [], ◌∷◌}
use Rattle.chi_value.specs.declared.value.Value.{Value}
use Rattle.chi_core_apply.specs.declared.operands.Operands.{Operands}
use Rattle.chi_core_apply.specs.declared.operands.Operands.TheVariants.{None, One, Two, More}

abbrev pub AreOperands : Operands → List Value → Type 0
AreOperands None values = values ≡ []
AreOperands (One a) values = values ≡ a.now ∷ []
AreOperands (Two a b) values = values ≡ a.now ∷ b.now ∷ []
AreOperands (More a b c rest) values = values ≡ a.now ∷ b.now ∷ c.now ∷ rest.now
