-- Joins: an instance goes on once those for which it waits have finished.
use Rattle.std.proofs.Common.{◌≡◌, ℕ, pos, List, [], ◌∷◌, Some, refl}
use Rattle.chi_core.specs.declared.label.Label.TheVariants.{Local, Join}
use Rattle.chi_core.specs.declared.program.Core.{Core}
use Rattle.chi_core.specs.declared.verdict.Verdict.TheVariants.{Deadlock}
use Rattle.chi_core.specs.declared.statement.CStat.TheVariants as s
use Rattle.chi_core.specs.Config.{Config, State, Running, Joining, Finished}
use Rattle.chi_core.specs.Options.{enabled, ending}
use Rattle.chi_core.specs.Step.{step, Next, Amiss}
use Rattle.chi_core.specs.Terms.{Do}
use Rattle.chi_core_rows.proofs.Small.{process, core_of, config_of, instance}

abbrev core : Core
core = core_of (process [] [] ∷ [])

-- instance 0 waits for these, and instance 1 is in a state
abbrev joining : List ℕ → State → Config
joining numbers state = config_of (pos 0) 0 (instance 0 [] [] (Joining numbers) ∷ instance 0 [] (Do (s.Pass 3) ∷ []) state ∷ [])

waits : enabled (joining (1 ∷ []) Running) ≡ Local 1 ∷ []
waits = refl

joins : enabled (joining (1 ∷ 1 ∷ []) Finished) ≡ Join 0 ∷ []
joins = refl

-- one that isn't there never finishes, so who waits for it has no option
waits_for_none : enabled (joining (7 ∷ []) Finished) ≡ []
waits_for_none = refl

stuck : ending (joining (7 ∷ []) Finished) ≡ Some (record { verdict = Deadlock; clock = pos 0 })
stuck = refl

-- with nothing to wait for it joins at once
joins_none : enabled (joining [] Finished) ≡ Join 0 ∷ []
joins_none = refl

joined : step core (joining (1 ∷ []) Finished) (Join 0) 50 ≡ Next (config_of (pos 0) 0 (instance 0 [] [] Finished ∷ instance 0 [] (Do (s.Pass 3) ∷ []) Finished ∷ [])) [] 49
unfolding step
joined = refl

-- two that wait for each other are a deadlock, and so is one that waits for itself
for_itself : ending (joining (0 ∷ []) Finished) ≡ Some (record { verdict = Deadlock; clock = pos 0 })
for_itself = refl

too_early : step core (joining (1 ∷ []) Running) (Join 0) 50 ≡ Amiss
unfolding step
too_early = refl

-- one that isn't there is amiss
not_there : step core (joining (7 ∷ []) Finished) (Join 0) 50 ≡ Amiss
unfolding step
not_there = refl
