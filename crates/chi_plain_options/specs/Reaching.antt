-- Who may pair with an instance by what it receives, and who waits for it.
use Rattle.std.specs.Prelude.{◌≡◌, ℕ, ◌≤◌, ◌<◌, List, Option, None, Some, length, slice_get, Contains}
use Rattle.chi_core.specs.declared.act.Act.{Act}
use Rattle.chi_core.specs.declared.act.Act.TheVariants.{Send, Receive, Delay}
use Rattle.chi_core.specs.Config.{Instance, Offer, offers_in}
use Rattle.chi_plain_options.specs.declared.parties.Parties.{Parties}
use Rattle.chi_plain_options.specs.Listing.{Keeps, listed_at}

-- among some are all that may pair with an instance by what it receives

abbrev pub ReachesBy : Parties → Act → List ℕ → Type 0
ReachesBy parties (Send channel x) some = Unit {0}
ReachesBy parties (Receive channel slot) some = Keeps (listed_at parties.senders channel) some
ReachesBy parties (Delay due) some = Unit {0}

abbrev pub ReachesIn : Parties → List Offer → List ℕ → Type 0
ReachesIn parties offers some = (a : ℕ) (o : Offer) → slice_get offers a ≡ Some o → ReachesBy parties o.act some

abbrev pub Reaches : Parties → Option Instance → List ℕ → Type 0
Reaches parties None some = Unit {0}
Reaches parties (Some i) some = ReachesIn parties (offers_in i.state) some

-- and the instance itself
pub record Covers (parties : Parties) (instances : List Instance) (p : ℕ) (some : List ℕ) : Type 0 where
  pub itself : Contains some p
  pub reaches : Reaches parties (slice_get instances p) some

-- each instance from number n on, all that may pair with it so, and all that wait for it
abbrev pub CoversFrom : Parties → List (List ℕ) → List Instance → ℕ → List ℕ → Type 0
CoversFrom parties joiners instances n some =
    (r : ℕ) → n ≤ r → r < length instances → Covers parties instances r some × Keeps (listed_at joiners r) some
