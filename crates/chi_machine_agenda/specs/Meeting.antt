-- Private to proofs: what is kept of those that wait with offers, as one of them comes to wait or goes on.
use Rattle.std.specs.Prelude.{◌≡◌, ℕ, ◌<◌, ℤ, Bool, true, List, Option, Some, None, length, slice_set}
use Rattle.chi_chan.specs.declared.offers.Offer.{Offer}
use Rattle.chi_chan.specs.Held.{Offered, held, SameOffers, Updates}
use Rattle.chi_machine_agenda.specs.Asking.{asks, told_for}
use Rattle.chi_machine_agenda.specs.Timed.{Awaits, Dates}

-- there is room for an instance, and for all that wait
pub record HasSeats (p : ℕ) (offered : Offered) (marks : List Bool) (times : List (Option ℤ)) : Type 0 where
  pub few : p < 100000
  pub ready : p < length marks
  pub dues : p < length times
  pub others : (q : ℕ) (offers : List Offer) → held offered q ≡ Some offers → q < length marks

-- it waits with these offers
pub record Comes (clock : ℤ) (p : ℕ) (offers : List Offer) (old : Offered) (marks : List Bool) (times : List (Option ℤ)) (new : Offered) (marks' : List Bool)
    (times' : List (Option ℤ)) : Type 0 where
  pub waits : Updates old new p (Some offers)
  pub ready : marks' ≡ slice_set (told_for (λ q. true) new offers marks) p (asks new clock p)
  pub due : (due : Option ℤ) × Awaits clock (Some offers) due × Dates times times' p due

pub record IsRefused (old : Offered) (marks : List Bool) (times : List (Option ℤ)) (new : Offered) (marks' : List Bool) (times' : List (Option ℤ)) : Type 0 where
  pub waits : SameOffers old new
  pub ready : marks' ≡ marks
  pub dues : times' ≡ times

-- it goes on
pub record Goes (clock : ℤ) (p : ℕ) (offers : List Offer) (old : Offered) (marks : List Bool) (times : List (Option ℤ)) (new : Offered) (marks' : List Bool)
    (times' : List (Option ℤ)) : Type 0 where
  pub waits : Updates old new p None
  pub ready : marks' ≡ slice_set (told_for (asks new clock) new offers marks) p true
  pub due : Dates times times' p None
