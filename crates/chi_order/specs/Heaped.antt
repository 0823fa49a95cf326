-- A heap of due times that knows the place of each number.
use Rattle.std.specs.Prelude.{◌≡◌, ◌≢◌, ◌⊎◌, ℕ, zero, suc, ◌+◌, ◌-◌, ◌/◌, ◌^◌, ◌<◌, ◌≤◌, ℤ, pos, List, [], ◌∷◌, Option, None, Some, length, get_or, map}
use Rattle.chi_order.specs.declared.heap.Due.{Due}
use Rattle.chi_order.specs.declared.heap.TheConstants.{NOWHERE}
use Rattle.chi_order.specs.Dated.{NotAfter}

-- what stands nowhere
abbrev pub nothing : Due
nothing = record { time = pos 0; number = 0 }

abbrev pub entry : List Due → ℕ → Due
entry heap i = get_or heap i nothing

abbrev pub place : List ℕ → ℕ → ℕ
place places x = get_or places x NOWHERE

abbrev pub time_at : List Due → ℕ → Option ℤ
time_at [] p = None
time_at (d ∷ ds) zero = Some d.time
time_at (d ∷ ds) (suc p) = time_at ds p

-- the due time of each number
unfoldable pub times : List Due → List ℕ → List (Option ℤ)
times heap places = map (time_at heap) places

-- how many numbers have a due time
abbrev pub kept : List (Option ℤ) → ℕ
kept [] = 0
kept (None ∷ ts) = kept ts
kept (Some t ∷ ts) = suc (kept ts)

abbrev pub parent : ℕ → ℕ
parent i = (i - 1) / 2

abbrev pub Before : Due → Due → Type 0
Before a b = NotAfter a.time a.number b.time b.number

-- each entry stands where its number's place says, and each number's place has its entry
pub record Placed (heap : List Due) (places : List ℕ) : Type 0 where
  pub entries : (i : ℕ) → i < length heap → ((entry heap i).number < length places) × (place places (entry heap i).number ≡ i)
  pub numbers : (x : ℕ) → x < length places → (place places x ≡ NOWHERE) ⊎ ((place places x < length heap) × ((entry heap (place places x)).number ≡ x))

pub record IsHeap (heap : List Due) : Type 0 where
  pub order : (i : ℕ) → 0 < i → i < length heap → Before (entry heap (parent i)) (entry heap i)

pub record IsDues (heap : List Due) (places : List ℕ) (capacity : ℕ) : Type 0 where
  pub placed : Placed heap places
  pub ordered : IsHeap heap
  pub fits : length places < 2 ^ 32
  pub all : length heap ≡ kept (times heap places)
  pub room : length places ≤ capacity

-- the same, but that a place of the heap has a hole, and one number is out
pub record Hole (heap : List Due) (places : List ℕ) (at x : ℕ) : Type 0 where
  pub within : at < length heap
  pub room : x < length places
  pub few : length heap ≤ NOWHERE
  pub entries : (i : ℕ) → i < length heap → i ≢ at
      → ((entry heap i).number < length places) × (place places (entry heap i).number ≡ i) × ((entry heap i).number ≢ x)
  pub numbers : (y : ℕ) → y < length places → y ≢ x
      → (place places y ≡ NOWHERE) ⊎ ((place places y < length heap) × (place places y ≢ at) × ((entry heap (place places y)).number ≡ y))

-- the order of all but the hole
pub record Apart (heap : List Due) (at : ℕ) : Type 0 where
  pub order : (i : ℕ) → 0 < i → i < length heap → i ≢ at → parent i ≢ at → Before (entry heap (parent i)) (entry heap i)
  pub over : (i : ℕ) → 0 < at → 0 < i → i < length heap → parent i ≡ at → Before (entry heap (parent at)) (entry heap i)

-- what is put into the hole may stand over all that stand under the hole, or under the one over it
abbrev pub Over : List Due → ℕ → Due → Type 0
Over heap at due = (i : ℕ) → 0 < i → i < length heap → parent i ≡ at → Before due (entry heap i)

abbrev pub Under : List Due → ℕ → Due → Type 0
Under heap at due = 0 < at → Before (entry heap (parent at)) due

-- every number but one has the due time that it had
abbrev pub SameBut : ℕ → List Due → List ℕ → List Due → List ℕ → Type 0
SameBut x heap places heap' places' = (y : ℕ) → y ≢ x → time_at heap' (place places' y) ≡ time_at heap (place places y)

-- The hole is filled: all stands in its place again.
pub record Fills (due : Due) (heap : List Due) (places : List ℕ) (heap' : List Due) (places' : List ℕ) : Type 0 where
  pub same_length : length heap' ≡ length heap
  pub same_room : length places' ≡ length places
  pub placed : Placed heap' places'
  pub ordered : IsHeap heap'
  pub same : SameBut due.number heap places heap' places'
  pub is_due : time_at heap' (place places' due.number) ≡ Some due.time

-- A number's due time is taken away.
pub record Takes (x : ℕ) (heap : List Due) (places : List ℕ) (heap' : List Due) (places' : List ℕ) : Type 0 where
  pub fewer : length heap' + 1 ≡ length heap
  pub same_room : length places' ≡ length places
  pub placed : Placed heap' places'
  pub ordered : IsHeap heap'
  pub same : SameBut x heap places heap' places'
  pub is_none : time_at heap' (place places' x) ≡ None
