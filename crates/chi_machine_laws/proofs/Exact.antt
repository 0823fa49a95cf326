-- What the machine comes to is what the language's step comes to.
use Rattle.std.proofs.Common.{◌≡◌, ℕ}
use Rattle.chi_core.specs.declared.label.Label.{Label}
use Rattle.chi_core.specs.declared.program.Core.{Core}
use Rattle.chi_core.specs.Step as step
use Rattle.chi_code.specs.declared.code.Code.{Code}
use Rattle.chi_machine_laws.specs.Instances.{Whole}
use Rattle.chi_machine_laws.specs.Labels.{Outcome, GoesOn, Over, Spent, Takes}
use Rattle.chi_machine_laws.specs.Laws.{StepsAreRight}
use Rattle.chi_machine_laws.specs.Stands.{Follows}
use Rattle.chi_machine_laws.proofs.Once.{takes_once}
use Rattle.chi_machine_laws.proofs.Steps.{steps_follow}

same_as : (core : Core) (code : Code) (m : Whole) (label : Label) (left : ℕ) (o : Outcome) → Takes code m label left o → (s : step.Outcome) → Follows (Takes code m label left) core code s → Follows (λ u. o ≡ u) core code s
same_as core code m label left o t (step.Next config text rest) f = (f.0, takes_once code m label left o (GoesOn f.0 text rest) t f.1, f.2)
same_as core code m label left o t (step.Over verdict) f = takes_once code m label left o (Over verdict) t f
same_as core code m label left o t step.Spent f = takes_once code m label left o Spent t f
same_as core code m label left o t step.Amiss f = tt

pub steps_are_right : StepsAreRight
steps_are_right core code codes config m st label left o t = same_as core code m label left o t (step.step core config label left) (steps_follow core code codes config m st label left)
