-- Each run that the experiment of a sound program makes may be made.
use Rattle.std.proofs.Common.{◌≡◌, ℕ, List, Some, subst}
use Rattle.std.specs.Prelude.{slice_get}
use Rattle.chi_value.specs.declared.value.Value.{Value}
use Rattle.chi_core.specs.declared.experiment.XperDef.{XperDef}
use Rattle.chi_core.specs.declared.program.Core.{Core}
use Rattle.chi_core.specs.Kinded.{KindedConstants}
use Rattle.chi_core.specs.Kinds.{Kind}
use Rattle.chi_core.specs.Picks.{Pick}
use Rattle.chi_core.specs.Sound.{Sound}
use Rattle.chi_core_kinds.proofs.Operations.{Laws}
use Rattle.chi_xper.specs.Conditions.{MayRun, IsFine}
use Rattle.chi_xper.specs.Experiments.{Outcomes, begins, experiment}
use Rattle.chi_xper.proofs.Fined.{experiment_fine}
use Rattle.chi_xper_runs.specs.Models.{AreOutcomes, ExitsAreOfTheirKinds}

-- a run that may be made, of a model with some exit type
abbrev pub Allowed : Core → ℕ → List Value → Type 0
Allowed core number arguments = (exit : Kind) × MayRun core number exit arguments

-- from the beginning of the experiment on, where exits are of their kinds
pub begins_allowed : Laws → ExitsAreOfTheirKinds → (core : Core) → Sound core → (constants : List Value) → KindedConstants core constants → (seed : ℕ) (pick : Pick) (bound most : ℕ)
    (outcomes : Outcomes) → AreOutcomes core pick most outcomes → (x : XperDef) → slice_get core.xpers 0 ≡ Some x → IsFine (Allowed core) (begins core constants seed outcomes bound (Some x))
begins_allowed laws exits core sound constants kinded seed pick bound most outcomes are x e =
    let all : IsFine (Allowed core) (experiment core constants seed outcomes bound)
    = experiment_fine laws core sound constants kinded seed outcomes (Allowed core) (λ number exit arguments may. (exit, may)) (exits core sound pick most outcomes are) (λ none. cc) bound in
    subst (λ o. IsFine (Allowed core) (begins core constants seed outcomes bound o)) e all
