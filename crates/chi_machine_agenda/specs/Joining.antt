-- Private to proofs: what is kept of those that wait for others, as one of them begins to wait, or one has finished.
use Rattle.std.specs.Prelude.{◌≡◌, ◌⊎◌, ℕ, ◌≤◌, ℤ, Bool, true, false, nat_eq, List, [], Option, length, slice_set}
use Rattle.chi_order.specs.Dated.{SameDues}
use Rattle.chi_order.specs.Marked.{SameMembers}
use Rattle.chi_machine_agenda.specs.declared.joining.Joins.{Joins}
use Rattle.chi_machine_agenda.specs.Joined.{numbers_at, still, lowered, freed, AreSeen, IsWatched, SameLeft, SameRows, Sees}

-- an instance waits for those of these numbers
pub record Begins (ended : List Bool) (p : ℕ) (own : List ℕ) (marks : List Bool) (joins : Joins) (marks' : List Bool) (joins' : Joins) : Type 0 where
  pub numbers : joins'.numbers ≡ slice_set joins.numbers p own
  pub left : joins'.left.items ≡ slice_set joins.left.items p (still ended own (length own))
  pub watched : IsWatched ended joins.watchers joins'.watchers
  pub sees : Sees own (still ended own (length own)) joins'.watchers p
  pub ready : marks' ≡ slice_set marks p (nat_eq (still ended own (length own)) 0)

-- it doesn't yet: there are its numbers, or none
pub record Fails (ended : List Bool) (p : ℕ) (own : List ℕ) (marks : List Bool) (joins : Joins) (marks' : List Bool) (joins' : Joins) : Type 0 where
  pub row : List ℕ
  pub either : (row ≡ own) ⊎ (row ≡ [])
  pub numbers : joins'.numbers ≡ slice_set joins.numbers p row
  pub left : joins'.left.items ≡ joins.left.items
  pub watched : IsWatched ended joins.watchers joins'.watchers
  pub ready : marks' ≡ marks

-- An instance has finished. Those that watched it watch others, or are ready.
pub record Ends (p : ℕ) (ended : List Bool) (marks : List Bool) (joins : Joins) (ended' : List Bool) (marks' : List Bool) (joins' : Joins) : Type 0 where
  pub finished : ended' ≡ slice_set ended p true
  pub numbers : joins'.numbers ≡ joins.numbers
  pub left : joins'.left.items ≡ lowered ended' joins.numbers (numbers_at joins.watchers p) joins.left.items
  pub watched : IsWatched ended' joins.watchers joins'.watchers
  pub seen : AreSeen ended' joins.numbers joins.left.items (numbers_at joins.watchers p) joins'.watchers
  pub ready : marks' ≡ freed ended' joins.numbers (numbers_at joins.watchers p) joins.left.items (slice_set marks p false)

-- it still runs, though some may watch others already
pub record Stays (p : ℕ) (ended : List Bool) (marks : List Bool) (joins : Joins) (ended' : List Bool) (marks' : List Bool) (joins' : Joins) : Type 0 where
  pub finished : ended' ≡ ended
  pub numbers : joins'.numbers ≡ joins.numbers
  pub left : joins'.left.items ≡ joins.left.items
  pub watched : IsWatched (slice_set ended p true) joins.watchers joins'.watchers
  pub ready : marks' ≡ marks

pub record SameJoins (old new : Joins) : Type 0 where
  pub numbers : SameRows old.numbers new.numbers
  pub left : SameLeft old.left.items new.left.items
  pub watchers : SameRows old.watchers new.watchers
  pub more_numbers : length old.numbers ≤ length new.numbers
  pub more_left : length old.left.items ≤ length new.left.items
  pub more_watchers : length old.watchers ≤ length new.watchers

-- there is room for more, and all is as it was
pub record IsRoomier (marks : List Bool) (times : List (Option ℤ)) (old : Joins) (marks' : List Bool) (times' : List (Option ℤ)) (new : Joins) : Type 0 where
  pub ready : SameMembers marks marks'
  pub dues : SameDues times times'
  pub joins : SameJoins old new
  pub more_ready : length marks ≤ length marks'
  pub more_dues : length times ≤ length times'
