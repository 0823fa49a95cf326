-- Whole variables that are set. Private to proofs.
use Rattle.std.specs.Prelude.{ℕ, nat_eq, Bool, List, [], ◌∷◌, length, map}
use Rattle.chi_value.specs.declared.value.Value.{Value}
use Rattle.chi_core.specs.declared.expression.CExpr.{CExpr}
use Rattle.chi_core.specs.declared.target.CTarget.{CTarget}
use Rattle.chi_core.specs.Answer.{Does, then_do, wanted}
use Rattle.chi_core.specs.Evaluation.{Evaluates}
use Rattle.chi_core.specs.Spots.{Spot}
use Rattle.chi_core.specs.Terms.{spread}
use Rattle.chi_core.specs.Variables.{Variables, with_slot, side_by_side}
use Rattle.chi_core_frame.specs.Assignments.{each_stored}

-- a whole variable is set to the value of an expression
abbrev pub set_to : Evaluates → ℕ → CExpr → Variables → Does Variables
set_to value_of slot e variables view = then_do (value_of e view) (λ x. wanted (with_slot slot x variables))

-- a target is a whole variable
abbrev pub is_whole : CTarget → Bool
is_whole target = nat_eq (length target.steps) 0

-- a target is in a variable
abbrev pub names : ℕ → CTarget → Bool
names slot target = nat_eq target.slot slot

abbrev pub whole_spot : CTarget → Spot
whole_spot target = record { slot = target.slot; path = [] }

-- whole variables are set to a value: the one to it, several to its parts
abbrev pub parted : List CTarget → Value → Variables → Does Variables
parted targets x variables view =
    then_do (wanted (spread targets (x ∷ [])) view) (λ xs. each_stored (side_by_side (map whole_spot targets) xs) variables)

-- the same by the value of an expression
abbrev pub set_each : Evaluates → List CTarget → CExpr → Variables → Does Variables
set_each value_of targets e variables view = then_do (value_of e view) (λ x. parted targets x variables)
