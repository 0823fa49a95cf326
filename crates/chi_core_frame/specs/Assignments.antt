-- Stores into spots, one after another. Private to proofs.
use Rattle.std.specs.Prelude.{List, Option}
use Rattle.chi_value.specs.declared.value.Value.{Value}
use Rattle.chi_core.specs.Answer.{Does, then_do, wanted, through}
use Rattle.chi_core.specs.Spots.{Spot, store}
use Rattle.chi_core.specs.Variables.{Variables}

-- the stores one after another, where each spot has its value
abbrev pub each_stored : Option (List (Spot × Value)) → Variables → Does Variables
each_stored stores variables view = then_do (wanted stores view) (λ stores. through store stores variables)
