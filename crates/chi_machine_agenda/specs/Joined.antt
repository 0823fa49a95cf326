-- Private to proofs: those that wait until others have finished, and whom they watch.
use Rattle.std.specs.Prelude.{◌≡◌, ℕ, zero, suc, ◌<◌, ◌≤◌, Bool, true, false, ◌||◌, nat_eq, List, [], ◌∷◌, Some, length, get_or, slice_get, slice_set, if◌then◌else◌}
use Rattle.chi_machine_agenda.specs.Phases.{AreThere}

-- the numbers of an instance
abbrev pub numbers_at : List (List ℕ) → ℕ → List ℕ
numbers_at rows p = get_or rows p []

abbrev pub SameRows : List (List ℕ) → List (List ℕ) → Type 0
SameRows old new = (p : ℕ) → numbers_at new p ≡ numbers_at old p

abbrev pub has_ended : List Bool → ℕ → Bool
has_ended finished q = get_or finished q false

-- of so many numbers, up to which they are still waited for: all from there on have finished
abbrev pub still : List Bool → List ℕ → ℕ → ℕ
still finished numbers zero = zero
still finished numbers (suc n) = if has_ended finished (get_or numbers n 0) then still finished numbers n else suc n

abbrev pub is_in : ℕ → List ℕ → Bool
is_in p [] = false
is_in p (x ∷ xs) = nat_eq x p || is_in p xs

-- what each has left to wait for, where some of them are asked again
abbrev pub lowered_by : List Bool → List (List ℕ) → ℕ → List ℕ → List ℕ
lowered_by finished numbers w left =
    if nat_eq (get_or left w 0) 0 then left else slice_set left w (still finished (numbers_at numbers w) (get_or left w 0))

abbrev pub lowered : List Bool → List (List ℕ) → List ℕ → List ℕ → List ℕ
lowered finished numbers [] left = left
lowered finished numbers (w ∷ ws) left = lowered finished numbers ws (lowered_by finished numbers w left)

-- and who may go on: those that have nothing left
abbrev pub freed_by : List Bool → List (List ℕ) → ℕ → List ℕ → List Bool → List Bool
freed_by finished numbers w left marks =
    if nat_eq (get_or left w 0) 0 then marks
    else (if nat_eq (still finished (numbers_at numbers w) (get_or left w 0)) 0 then slice_set marks w true else marks)

abbrev pub freed : List Bool → List (List ℕ) → List ℕ → List ℕ → List Bool → List Bool
freed finished numbers [] left marks = marks
freed finished numbers (w ∷ ws) left marks =
    freed finished numbers ws (lowered_by finished numbers w left) (freed_by finished numbers w left marks)

-- an instance, of whose numbers so many are left, is among those that watch the last of them
abbrev pub Sees : List ℕ → ℕ → List (List ℕ) → ℕ → Type 0
Sees numbers left watchers w = (n : ℕ) → left ≡ suc n → is_in w (numbers_at watchers (get_or numbers n 0)) ≡ true

abbrev pub IsSeen : List Bool → List (List ℕ) → List ℕ → List (List ℕ) → ℕ → Type 0
IsSeen finished numbers left watchers w = Sees (numbers_at numbers w) (still finished (numbers_at numbers w) (get_or left w 0)) watchers w

abbrev pub AreSeen : List Bool → List (List ℕ) → List ℕ → List ℕ → List (List ℕ) → Type 0
AreSeen finished numbers left ws watchers = (w : ℕ) → is_in w ws ≡ true → IsSeen finished numbers left watchers w

-- whoever watches an instance goes on with it, and nobody begins with one that has finished
pub record IsWatched (finished : List Bool) (old new : List (List ℕ)) : Type 0 where
  pub kept : (q w : ℕ) → is_in w (numbers_at old q) ≡ true → is_in w (numbers_at new q) ≡ true
  pub same : (q : ℕ) → has_ended finished q ≡ true → numbers_at new q ≡ numbers_at old q
  pub room : length new ≡ length old

-- of each list no more are left than it has
abbrev pub AreLeft : List (List ℕ) → List ℕ → Type 0
AreLeft numbers left = (p : ℕ) → get_or left p 0 ≤ length (numbers_at numbers p)

-- there is room for each that waits
abbrev pub AreRoomy : List ℕ → List Bool → Type 0
AreRoomy left ready = (p n : ℕ) → get_or left p 0 ≡ suc n → p < length ready

abbrev pub SameLeft : List ℕ → List ℕ → Type 0
SameLeft old new = (p : ℕ) → get_or new p 0 ≡ get_or old p 0

-- and there are instances of all numbers
pub record AreAhead (count : ℕ) (numbers : List (List ℕ)) (left : List ℕ) : Type 0 where
  pub there : (p : ℕ) → AreThere count (numbers_at numbers p)
  pub within : AreLeft numbers left

-- The numbers from the place on that is still waited for have finished, and the one before it hasn't, and is watched.
pub record Watches (finished : List Bool) (numbers : List (List ℕ)) (left : List ℕ) (watchers : List (List ℕ)) (p : ℕ) : Type 0 where
  pub over : (k q : ℕ) → get_or left p 0 ≤ k → slice_get (numbers_at numbers p) k ≡ Some q → has_ended finished q ≡ true
  pub next : (n : ℕ) → get_or left p 0 ≡ suc n → (has_ended finished (get_or (numbers_at numbers p) n 0) ≡ false)
      × (is_in p (numbers_at watchers (get_or (numbers_at numbers p) n 0)) ≡ true)
