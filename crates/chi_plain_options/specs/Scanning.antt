-- Private to proofs: options, counted one instance and one offer after another.
use Rattle.std.specs.Prelude.{ℕ, ◌*◌, List, slice_get}
use Rattle.std.specs.List.{flat_map}
use Rattle.chi_core.specs.declared.label.Label.{Label}
use Rattle.chi_core.specs.declared.limits.TheConstants.{MOST_OFFERS, MOST_INSTANCES}
use Rattle.chi_core.specs.Config.{Config, Offer}
use Rattle.chi_core.specs.Options.{numbers, pairs_with, options_for}

-- how many pairs one offer may make
abbrev pub MOST_PAIRS : ℕ
MOST_PAIRS = MOST_INSTANCES * MOST_OFFERS

-- the pairs of instance p, which sends on a channel as its alternative a, with these others
unfoldable pub pairs_among : Config → ℕ → ℕ → ℕ → List ℕ → List Label
pairs_among config p a channel others = flat_map (λ q. pairs_with p a channel q (slice_get config.instances q)) others

-- the options of instance p for those of its offers below number n
unfoldable pub offered_below : Config → ℕ → List Offer → ℕ → List Label
offered_below config p offers n = flat_map (λ a. options_for config p a (slice_get offers a)) (numbers n)
