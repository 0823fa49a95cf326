-- How many labels instances took, and which instances took the most.
use Rattle.std.specs.Prelude.{◌≡◌, ℕ, zero, suc, ◌+◌, nat_eq, nat_lt, if◌then◌else◌, List, [], ◌∷◌, take, count_by, flat_map, slice_index}
use Rattle.chi_core.specs.declared.label.Label.{Label}
use Rattle.chi_core.specs.declared.label.Label.TheVariants.{Local, Pair, Wake, Join, Advance}
use Rattle.chi_explain_labels.specs.declared.ranks.TheConstants.{MOST_RANKED}

-- the instances that take a label
abbrev pub takers : Label → List ℕ
takers (Local p) = p ∷ []
takers (Pair p a q b) = p ∷ q ∷ []
takers (Wake p a) = p ∷ []
takers (Join p) = p ∷ []
takers Advance = []

-- how many of these labels instance p takes
abbrev pub taken : List Label → ℕ → ℕ
taken labels p = count_by (nat_eq p) (flat_map takers labels)

-- counts of instances once these took one label more
abbrev pub Counted : List ℕ → List ℕ → List ℕ → Type 0
Counted some old new = (p : ℕ) → slice_index new p ≡ slice_index old p + count_by (nat_eq p) some

-- with a count for each instance
module _ (count : ℕ → ℕ) where
  -- an instance is put in its place among others, whose numbers are less: before those of a lesser count
  abbrev pub placed : ℕ → List ℕ → List ℕ
  placed p [] = p ∷ []
  placed p (q ∷ others) = if nat_lt (count q) (count p) then p ∷ q ∷ others else q ∷ placed p others

  -- the instances below n whose count isn't 0: the one of the greatest count first, and of equal counts the lesser number
  abbrev pub ranked : ℕ → List ℕ
  ranked zero = []
  ranked (suc n) = if nat_lt 0 (count n) then placed n (ranked n) else ranked n

  -- the first of them
  abbrev pub first_ranked : ℕ → List ℕ
  first_ranked n = take MOST_RANKED (ranked n)
