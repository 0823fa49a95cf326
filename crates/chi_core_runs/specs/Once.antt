-- What may come next is an option of one instance, or the time goes on.
use Rattle.std.specs.Prelude.{◌≡◌, ◌≢◌, ℕ, List, Some, Contains, slice_get}
use Rattle.chi_core.specs.declared.label.Label.{Label}
use Rattle.chi_core.specs.declared.label.Label.TheVariants.{Advance}
use Rattle.chi_core.specs.Config.{Config}
use Rattle.chi_core.specs.Options.{actors, options, enabled}

-- something stands at one place of a list, and nowhere else
pub record StandsOnce {A : Type 0} (xs : List A) (x : A) : Type 0 where
  pub place : ℕ
  pub there : slice_get xs place ≡ Some x
  pub nowhere_else : (other : ℕ) → slice_get xs other ≡ Some x → other ≡ place

-- a label is an option of one instance, once, and of no other
pub record OptionOfOne (config : Config) (label : Label) : Type 0 where
  pub actor : ℕ
  pub among : StandsOnce (actors config) actor
  pub once : StandsOnce (options config actor) label
  pub no_other : (p : ℕ) → Contains (options config p) label → p ≡ actor

-- each label that may come next but Advance is so
abbrev pub EachOfOne : Type 0
EachOfOne = (config : Config) (label : Label) → Contains (enabled config) label → label ≢ Advance → OptionOfOne config label

-- every option of every instance may come next, and none is Advance
abbrev pub EachMayCome : Type 0
EachMayCome = (config : Config) (p : ℕ) (label : Label) → Contains (options config p) label → Contains (enabled config) label × (label ≢ Advance)
