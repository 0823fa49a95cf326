-- Private to proofs: from one configuration to the next, with what is kept beside them.
use Rattle.std.specs.Prelude.{◌≡◌, ◌≢◌, ℕ, ◌⊎◌, List, length, slice_get, Contains}
use Rattle.chi_core.specs.declared.label.Label.{Label}
use Rattle.chi_core.specs.declared.label.Label.TheVariants.{Advance}
use Rattle.chi_core.specs.Config.{Config, Instance}
use Rattle.chi_core.specs.Meeting.{is_over}
use Rattle.chi_plain_options.specs.declared.parties.Parties.{Parties}
use Rattle.chi_plain.specs.declared.watching.Before.{Before}
use Rattle.chi_plain.specs.declared.watching.Kept.{Kept}
use Rattle.chi_plain_options.specs.Listing.{AllJoiners, AllParties}
use Rattle.chi_plain_options.specs.Reaching.{Covers}
use Rattle.chi_plain.specs.Watching.{IsWatched, Others, first_named, second_named}
use Rattle.chi_plain_options.specs.Acting.{acts}

-- what is known before the step of a label
pub record IsBefore (parties : Parties) (label : Label) (old : List Instance) (b : Before) : Type 0 where
  pub first : b.first ≡ first_named label
  pub second : b.second ≡ second_named label
  pub count : b.count ≡ length old
  pub first_over : b.first_over ≡ is_over (slice_get old (first_named label))
  pub second_over : b.second_over ≡ is_over (slice_get old (second_named label))
  pub first_covered : Covers parties old (first_named label) b.covered.items
  pub second_covered : Covers parties old (second_named label) b.covered.items

-- a label leads from one configuration to another
pub record Leads (label : Label) (old new : Config) : Type 0 where
  pub others : Others (first_named label) (second_named label) old.instances new.instances
  pub still : label ≢ Advance → new.clock ≡ old.clock

-- the lists are those of a configuration
pub record IsListed (config : Config) (parties : Parties) (joiners : List (List ℕ)) : Type 0 where
  pub communicating : AllParties parties config.instances
  pub waiting : AllJoiners joiners config.instances

-- who isn't among some has an option where it had one
abbrev pub Settles : Config → Config → List ℕ → Type 0
Settles old new some = (p : ℕ) → (acts new p ≡ acts old p) ⊎ Contains some p

-- a label has led to a configuration, from one beside which this was kept
pub record Led (label : Label) (new : Config) (kept : Kept) (b : Before) : Type 0 where
  pub old : Config
  pub watched : IsWatched old kept
  pub before : IsBefore kept.parties label old.instances b
  pub leads : Leads label old new
