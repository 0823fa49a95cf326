-- Private to proofs: the due times that are waited for.
use Rattle.std.specs.Prelude.{◌≡◌, ◌≢◌, ℕ, suc, ◌<◌, ℤ, Bool, true, false, not, int_lt, List, [], ◌∷◌, Option, Some, None, length, slice_get, if◌then◌else◌}
use Rattle.chi_chan.specs.declared.offers.Offer.{Offer}
use Rattle.chi_chan.specs.declared.offers.Offer.TheVariants.{Delay}
use Rattle.chi_chan.specs.Kept.{offer_in}
use Rattle.chi_order.specs.Dated.{due_of, IsLeast, NoneDue}
use Rattle.chi_order.specs.Marked.{is_marked}

-- the due time that is waited for: the least of these offers, where none is due yet
pub data Awaits (clock : ℤ) (offers : Option (List Offer)) : Option ℤ → Type 0 where
  nothing : ((a : ℕ) (due : ℤ) → offer_in offers a ≡ Some (Delay due) → ⊥) → Awaits clock offers None
  already : (a : ℕ) (due : ℤ) → offer_in offers a ≡ Some (Delay due) → int_lt clock due ≡ false → Awaits clock offers None
  later : (a : ℕ) (due : ℤ) → offer_in offers a ≡ Some (Delay due) → int_lt clock due ≡ true
      → ((b : ℕ) (other : ℤ) → offer_in offers b ≡ Some (Delay other) → int_lt other due ≡ false) → Awaits clock offers (Some due)

-- among the offers below a number
pub data AwaitsBelow (clock : ℤ) (offers : List Offer) (n : ℕ) : Option ℤ → Type 0 where
  nothing : ((a : ℕ) (due : ℤ) → a < n → slice_get offers a ≡ Some (Delay due) → ⊥) → AwaitsBelow clock offers n None
  later : (a : ℕ) (due : ℤ) → slice_get offers a ≡ Some (Delay due) → int_lt clock due ≡ true
      → ((b : ℕ) (other : ℤ) → b < n → slice_get offers b ≡ Some (Delay other) → int_lt other due ≡ false) → AwaitsBelow clock offers n (Some due)

-- the lesser of the two
abbrev pub sooner : ℤ → Option ℤ → ℤ
sooner due None = due
sooner due (Some other) = if int_lt other due then other else due

abbrev pub is_due : ℤ → Option ℤ → Bool
is_due clock None = false
is_due clock (Some due) = not (int_lt clock due)

-- Of each number that was due, the due time is gone, and it is ready; all else is as before.
abbrev pub AreWoken : ℤ → List Bool → List Bool → List (Option ℤ) → List (Option ℤ) → Type 0
AreWoken clock ready ready' dues dues' =
    (p : ℕ) → (due_of dues' p ≡ (if is_due clock (due_of dues p) then None else due_of dues p))
    × (is_marked ready' p ≡ (if is_due clock (due_of dues p) then true else is_marked ready p))

-- The time goes on to the least due time, if there is one, and all that are due then are woken.
pub data Moves (clock : ℤ) (marks : List Bool) (times : List (Option ℤ)) (clock' : ℤ) (marks' : List Bool) (times' : List (Option ℤ)) : Type 0 where
  stays : NoneDue times → clock' ≡ clock → marks' ≡ marks → times' ≡ times → Moves clock marks times clock' marks' times'
  goes_on : (p : ℕ) → IsLeast times clock' p → AreWoken clock' marks marks' times times' → length marks' ≡ length marks → length times' ≡ length times
      → Moves clock marks times clock' marks' times'

-- a number has this due time or none, and the others what they had
pub record Dates (dues dues' : List (Option ℤ)) (p : ℕ) (due : Option ℤ) : Type 0 where
  pub it : due_of dues' p ≡ due
  pub others : (q : ℕ) → q ≢ p → due_of dues' q ≡ due_of dues q
  pub room : length dues' ≡ length dues

-- how many have a due time
abbrev pub due_count : List (Option ℤ) → ℕ
due_count [] = 0
due_count (None ∷ dues) = due_count dues
due_count (Some due ∷ dues) = suc (due_count dues)
