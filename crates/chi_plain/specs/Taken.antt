-- Private to proofs: the taking of a label, with what is kept beside the configuration.
use Rattle.std.specs.Prelude.{◌≡◌, ℕ, List, []}
use Rattle.chi_core.specs.Config.{Config}
use Rattle.chi_core.specs.Step as outcome
use Rattle.chi_core.specs.Step.{Outcome}
use Rattle.chi_plain.specs.declared.taking.Taken.{Taken}
use Rattle.chi_plain.specs.declared.taking.Taken.TheVariants.{On, Over, Spent}

-- a step has led from a configuration on, with a text that was written
abbrev pub TakesTo : Outcome → Config → List ℕ → Taken → Type 0
TakesTo it old text (On new left) = it ≡ outcome.Next new text left
TakesTo it old text (Over verdict) = (it ≡ outcome.Over verdict) × (text ≡ [])
TakesTo it old text (Spent new) = (it ≡ outcome.Spent) × (new ≡ old) × (text ≡ [])
