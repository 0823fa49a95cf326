-- The options of an instance, by its state.
use Rattle.std.proofs.Common.{◌≡◌, ℕ, zero, suc, ◌<◌, List, [], ◌∷◌, Option, Some, None, true, false, if◌then◌else◌, length, ap, refl, arith}
use Rattle.std.specs.List.{slice_get}
use Rattle.std.proofs.lemmas.Option.{slice_get_within}
use Rattle.chi_core.specs.declared.label.Label.{Label}
use Rattle.chi_core.specs.declared.label.Label.TheVariants.{Join}
use Rattle.chi_core.specs.Config.{Config, Instance, Offer, Waiting, Joining}
use Rattle.chi_core.specs.Meeting.{are_over}
use Rattle.chi_core.specs.Options.{options_in, options_of, options}
use Rattle.chi_plain_options.specs.Scanning.{offered_below}

pub options-some : (config : Config) (p : ℕ) (i : Instance) → slice_get config.instances p ≡ Some i → options config p ≡ options_in config p i.state
options-some config p i at = ap (options_of config p) at

pub options-none : (config : Config) (p : ℕ) → slice_get config.instances p ≡ None → options config p ≡ []
options-none config p at = ap (options_of config p) at

pub options-waiting : (config : Config) (p : ℕ) (offers : List Offer) → options_in config p (Waiting offers) ≡ offered_below config p offers (length offers)
unfolding offered_below
options-waiting config p offers = refl

pub options-free : (config : Config) (p : ℕ) (waited : List ℕ) → are_over config waited ≡ true → options_in config p (Joining waited) ≡ Join p ∷ []
options-free config p waited e = ap (λ b. if b then Join p ∷ [] else []) e

pub options-held : (config : Config) (p : ℕ) (waited : List ℕ) → are_over config waited ≡ false → options_in config p (Joining waited) ≡ []
options-held config p waited e = ap (λ b. if b then Join p ∷ [] else []) e

pub options-within : (config : Config) (p i : ℕ) → i < length (options config p) → p < length config.instances
options-within config p i h = by_instance (slice_get config.instances p) refl h
  where
    by_instance : (o : Option Instance) → slice_get config.instances p ≡ o → i < length (options_of config p o) → p < length config.instances
    by_instance None at h' = absurd (omega arith)
    by_instance (Some j) at h' = slice_get_within config.instances p j at

pub only-label : (labels : List Label) (label : Label) (i : ℕ) → labels ≡ label ∷ [] → i < length labels → slice_get labels i ≡ Some label
only-label labels label i is h = by_place i (let n = ap length is in omega arith)
  where
    by_place : (k : ℕ) → k < 1 → slice_get labels k ≡ Some label
    by_place zero h' = ap (λ l. slice_get l 0) is
    by_place (suc k) h' = absurd (omega arith)

pub ruleset choosing = (options-some, options-none, options-waiting, options-free, options-held, only-label)
