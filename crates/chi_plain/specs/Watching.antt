-- Private to proofs: what is kept beside a configuration, so that a step need not go over all instances.
use Rattle.std.specs.Prelude.{◌≡◌, ℕ, ◌≤◌, ◌<◌, ◌⊎◌, List, Bool, true, false, length, slice_get}
use Rattle.chi_core.specs.declared.label.Label.{Label}
use Rattle.chi_core.specs.declared.label.Label.TheVariants.{Local, Pair, Wake, Join, Advance}
use Rattle.chi_core.specs.Config.{Config, Instance}
use Rattle.chi_core.specs.Meeting.{is_over}
use Rattle.chi_plain_options.specs.declared.parties.Parties.{Parties}
use Rattle.chi_plain_options.specs.Acting.{acts}
use Rattle.chi_plain_options.specs.Listing.{AllJoiners, AllParties, Keeps, listed_at}
use Rattle.chi_order.specs.Marked.{is_marked}
use Rattle.chi_plain_options.specs.Reaching.{Covers, CoversFrom}
use Rattle.chi_plain.specs.declared.watching.Kept.{Kept}

-- marked are the instances that have an option, and there is room for all
pub record IsMarked (config : Config) (marks : List Bool) : Type 0 where
  pub room : length config.instances ≤ length marks
  pub each : (p : ℕ) → is_marked marks p ≡ acts config p

pub record IsWatched (config : Config) (kept : Kept) : Type 0 where
  pub marked : IsMarked config kept.marks
  pub communicating : AllParties kept.parties config.instances
  pub waiting : AllJoiners kept.joiners config.instances

-- steps

-- the instances that a label names
abbrev pub first_named : Label → ℕ
first_named (Local p) = p
first_named (Pair p a q b) = p
first_named (Wake p a) = p
first_named (Join p) = p
first_named Advance = 0

abbrev pub second_named : Label → ℕ
second_named (Local p) = p
second_named (Pair p a q b) = q
second_named (Wake p a) = p
second_named (Join p) = p
second_named Advance = 0

-- of the instances that there were, only two may have changed
pub record Others (p q : ℕ) (old new : List Instance) : Type 0 where
  pub grown : length old ≤ length new
  pub same : (r : ℕ) → (r ≡ p → ⊥) → (r ≡ q → ⊥) → r < length old → slice_get new r ≡ slice_get old r

abbrev pub is_advance : Label → Bool
is_advance (Local p) = false
is_advance (Pair p a q b) = false
is_advance (Wake p a) = false
is_advance (Join p) = false
is_advance Advance = true

-- all that wait for instance r are among some, or it is over as it was before
abbrev pub IsJoined : List (List ℕ) → List Instance → ℕ → Bool → List ℕ → Type 0
IsJoined joiners new r before some = Keeps (listed_at joiners r) some ⊎ (is_over (slice_get new r) ≡ before)

-- all those are among some that may have an option now and had none, or had one and have none now
pub record IsAffected (parties : Parties) (joiners : List (List ℕ)) (p q : ℕ) (old new : List Instance) (some : List ℕ) : Type 0 where
  pub first_old : Covers parties old p some
  pub second_old : Covers parties old q some
  pub first_new : Covers parties new p some
  pub second_new : Covers parties new q some
  pub added : CoversFrom parties joiners new (length old) some
  pub first_joined : IsJoined joiners new p (is_over (slice_get old p)) some
  pub second_joined : IsJoined joiners new q (is_over (slice_get old q)) some
