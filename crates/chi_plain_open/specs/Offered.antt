-- Private to proofs: offers, one after another.
use Rattle.std.specs.Prelude.{ℕ, ℤ, List, Option, Some, None, filter, slice_get}
use Rattle.std.specs.Int.{int_min}
use Rattle.chi_core.specs.Config.{Offer}
use Rattle.chi_core.specs.Meeting.{due_in}
use Rattle.chi_core.specs.Options.{numbers, is_receiver}

-- the alternatives below number n that receive from a channel, ascending
unfoldable pub receivers_below : ℕ → List Offer → ℕ → List ℕ
receivers_below channel offers n = filter (λ b. is_receiver channel (slice_get offers b)) (numbers n)

-- the sooner of two times, each of which may be wanting
unfoldable pub sooner : Option ℤ → Option ℤ → Option ℤ
sooner None u = u
sooner (Some t) None = Some t
sooner (Some t) (Some u) = Some (int_min t u)

-- the due time of a delay
abbrev pub due_of : Offer → List ℤ
due_of o = due_in o.act
