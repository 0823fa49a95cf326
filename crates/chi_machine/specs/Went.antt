-- Labels that a policy picked and that were taken one after another. Private to proofs.
use Rattle.std.specs.Prelude.{◌≡◌, ℕ, zero, suc, List, [], ◌∷◌, ◌++◌, Some, None}
use Rattle.chi_core.specs.declared.label.Label.{Label}
use Rattle.chi_core.specs.Options.{ending}
use Rattle.chi_core.specs.Picks.{Pick, picked_label}
use Rattle.chi_code.specs.declared.code.Code.{Code}
use Rattle.chi_machine_laws.specs.Choosing.{config_of}
use Rattle.chi_machine_laws.specs.Instances.{Whole}
use Rattle.chi_machine_laws.specs.Labels.{GoesOn, Takes}
use Rattle.chi_machine_laws.specs.Turns.{Event, event}

-- from a turn, with so much left of the bound, to another
pub data Went (code : Code) (pick : Pick) : ℕ → ℕ → Whole → ℕ → List Event → List ℕ → ℕ → Whole → ℕ → Type 0 where
  nowhere : (turn left : ℕ) (m : Whole) → Went code pick zero turn m left [] [] turn m left
  further : (turns turn left rest later few : ℕ) (m new last : Whole) (label : Label) (text more : List ℕ) (events : List Event)
      → ending (config_of m) ≡ None → picked_label pick turn (config_of m) ≡ Some label → Takes code m label left (GoesOn new text rest)
      → Went code pick turns (suc turn) new rest events more later last few
      → Went code pick (suc turns) turn m left (event turn label new.clock ∷ events) (text ++ more) later last few
