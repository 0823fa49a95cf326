-- What a search by halves finds in an ascending list, and what an element changes at the place that is found.
use Rattle.std.proofs.Common.{◌≡◌, ℕ, zero, suc, ◌<◌, ◌≤◌, Bool, true, false, List, [], ◌∷◌, ◌++◌, length, get_or, set, insert, find, Option, Some, None, Result, Ok, Err, HoldsAt, slice_get, option_and_then, Ordering, Less, Equal, Greater, is_eq, is_lt, is_ok, refl, sym, ap, ◌∙◌, arith, inl, inr}
use Rattle.std.proofs.lemmas.Bool.{false≢true, and_parts, and_from, cases_lt, or_parts}
use Rattle.std.proofs.lemmas.Cmp.{alike_right, eq_by_cmp_equiv}
use Rattle.std.proofs.lemmas.List.Elements.{All-from_all_within}
use Rattle.std.proofs.lemmas.List.Folds.{list_any_at, list_any_none}
use Rattle.std.specs.Cmp.{IsTotalOrder}
use Rattle.std.specs.List.{list_any, list_all, AllWithin}
use Rattle.std.specs.List.Sorted.{IsSearchInRange, IsBinarySearchResult, IsNonDecreasingBy}
use Rattle.std.specs.Ordering.{ordering_index, on}
use Rattle.std.specs.Result.{result_ok}
use Rattle.std.proofs.lemmas.Cmp.{on_total}
use Rattle.chi_sets.specs.Ascending.{below_by, ties_by, ascends, placed}
use Rattle.chi_sets.proofs.Ascending.{less, back, head_below, tail_ascends, placed_at, placed_after, placed_first}

none_found : {A : Type 0} (p : A → Bool) (xs : List A) → list_any p xs ≡ false → find p xs ≡ None
none_found p [] none = refl
none_found p (x ∷ xs) none =
    let both = or_parts (p x) (list_any p xs) none in
    rw both.0 (none_found p xs both.1)

-- whether it ties with an element, either way round
pub tied_either_way : {A : Type 0} (R : A → A → Ordering) (o : IsTotalOrder R) (x : A) (xs : List A) →
    list_any (λ y. is_eq (R y x)) xs ≡ list_any (ties_by R x) xs
tied_either_way R o x xs = λ i. list_any (λ y. (eq_by_cmp_equiv o).symm y x i) xs

pub found_either_way : {A : Type 0} (R : A → A → Ordering) (o : IsTotalOrder R) (x : A) (xs : List A) →
    find (λ y. is_eq (R y x)) xs ≡ find (ties_by R x) xs
found_either_way R o x xs = λ i. find (λ y. (eq_by_cmp_equiv o).symm y x i) xs

module _ {A K : Type 0} (f : A → K) (R : K → K → Ordering) (o : IsTotalOrder R) (k : K) where
  -- the elements of an ascending list stand to k in rising order

  ranked : (x y : K) (r s : Ordering) → R x k ≡ r → R y k ≡ s → R x y ≡ Less → ordering_index r ≤ ordering_index s
  ranked x y Less s p q h = omega arith
  ranked x y Equal Less p q h = absurd (false≢true (ap is_lt (sym p ∙ o.trans x y k h q)))
  ranked x y Equal Equal p q h = omega arith
  ranked x y Equal Greater p q h = omega arith
  ranked x y Greater Less p q h = absurd (false≢true (ap is_lt (sym p ∙ o.trans x y k h q)))
  ranked x y Greater Equal p q h = absurd (false≢true (ap is_lt (sym p ∙ sym (alike_right o y k x q) ∙ h)))
  ranked x y Greater Greater p q h = omega arith

  abbrev stands : A → Ordering
  stands y = R (f y) k

  abbrev tied : A → Bool
  tied y = is_eq (stands y)

  above_at : (x : A) (ys : List A) (j : ℕ) (d : A) → list_all (below_by (on f R) x) ys ≡ true → j < length ys → R (f x) (f (get_or ys j d)) ≡ Less
  above_at x [] j d all within = absurd (omega (arith, within))
  above_at x (y ∷ ys) zero d all within = less _ (and_parts (below_by (on f R) x y) (list_all (below_by (on f R) x) ys) all).0
  above_at x (y ∷ ys) (suc j) d all within =
      above_at x ys j d (and_parts (below_by (on f R) x y) (list_all (below_by (on f R) x) ys) all).1 (omega (arith, within))

  rises : (xs : List A) → ascends (on f R) xs ≡ true → IsNonDecreasingBy (λ y. ordering_index (stands y)) xs
  rises [] up i j d le within = absurd (omega (arith, within))
  rises (x ∷ xs) up zero zero d le within = omega arith
  rises (x ∷ xs) up zero (suc j) d le within =
      ranked (f x) (f (get_or xs j d)) _ _ refl refl
      (above_at x xs j d (head_below (on f R) (on_total f o) x xs up) (omega (arith, within)))
  rises (x ∷ xs) up (suc i) zero d le within = absurd (omega (arith, le))
  rises (x ∷ xs) up (suc i) (suc j) d le within =
      rises xs (tail_ascends (on f R) (on_total f o) x xs up) i j d (omega (arith, le)) (omega (arith, within))

  -- what comes before one that ties with k is below k
  before : (x : A) (xs : List A) (i : ℕ) → ascends (on f R) (x ∷ xs) ≡ true → i < length xs → HoldsAt (λ y. stands y ≡ Equal) xs i → stands x ≡ Less
  before x xs i up within equal =
      sym (alike_right o (f (get_or xs i x)) k (f x) (equal x)) ∙ above_at x xs i x (head_below (on f R) (on_total f o) x xs up) within

  no_tie : (xs : List A) (i : ℕ) → AllWithin (λ y. stands y ≡ Less) xs 0 i → AllWithin (λ y. stands y ≡ Greater) xs i (length xs) → list_any tied xs ≡ false
  no_tie xs i less greater = list_any_none tied xs (All-from_all_within (λ y. tied y ≡ false) xs apart)
    where
      apart : AllWithin (λ y. tied y ≡ false) xs 0 (length xs)
      apart j d low within = elim (cases_lt j i) [
        | inl before_it ↦ ap is_eq (less j d low before_it)
        | inr from_it ↦ ap is_eq (greater j d from_it within)
      ]

  tie_at : (xs : List A) (i : ℕ) → i < length xs → HoldsAt (λ y. stands y ≡ Equal) xs i → list_any tied xs ≡ true
  tie_at [] i within equal = absurd (omega (arith, within))
  tie_at (x ∷ xs) i within equal = list_any_at tied (x ∷ xs) i x within (ap is_eq (equal x))

  -- whether one is found
  pub found : (xs : List A) (r : Result ℕ ℕ) → ascends (on f R) xs ≡ true → IsSearchInRange r (length xs) → IsBinarySearchResult stands xs r →
      is_ok r ≡ list_any tied xs
  found xs (Ok i) up within equal = sym (tie_at xs i within equal)
  found xs (Err i) up within parted = let parts = parted (rises xs up) in sym (no_tie xs i parts.0 parts.1)

  -- which one is found
  found_at : (xs : List A) (i : ℕ) → ascends (on f R) xs ≡ true → i < length xs → HoldsAt (λ y. stands y ≡ Equal) xs i → slice_get xs i ≡ find tied xs
  found_at [] i up within equal = absurd (omega (arith, within))
  found_at (x ∷ xs) zero up within equal = rw (equal x) refl
  found_at (x ∷ xs) (suc i) up within equal =
      let inside : i < length xs = omega (arith, within) in
      rw (before x xs i up inside equal) (found_at xs i (tail_ascends (on f R) (on_total f o) x xs up) inside equal)

  pub found_one : (xs : List A) (r : Result ℕ ℕ) → ascends (on f R) xs ≡ true → IsSearchInRange r (length xs) → IsBinarySearchResult stands xs r →
      option_and_then (slice_get xs) (result_ok r) ≡ find tied xs
  found_one xs (Ok i) up within equal = found_at xs i up within equal
  found_one xs (Err i) up within parted =
      let parts = parted (rises xs up) in
      sym (none_found tied xs (no_tie xs i parts.0 parts.1))

module _ {A K : Type 0} (f : A → K) (R : K → K → Ordering) (o : IsTotalOrder R) (x : A) where
  abbrev standing : A → Ordering
  standing y = R (f y) (f x)

  -- an element in the place of the one that ties with it
  pub placed_found : (xs : List A) (i : ℕ) → ascends (on f R) xs ≡ true → i < length xs → HoldsAt (λ y. R (f y) (f x) ≡ Equal) xs i →
      placed (on f R) xs x ≡ set xs i x
  placed_found [] i up within equal = absurd (omega (arith, within))
  placed_found (y ∷ ys) zero up within equal = placed_at (on f R) (on_total f o) y x ys (equal y) (head_below (on f R) (on_total f o) y ys up)
  placed_found (y ∷ ys) (suc i) up within equal =
      let inside : i < length ys = omega (arith, within) in
      placed_after (on f R) (on_total f o) y x ys (ap is_lt (before f R o (f x) y ys i up inside equal)) ∙
      ap (λ zs. y ∷ zs) (placed_found ys i (tail_ascends (on f R) (on_total f o) y ys up) inside equal)

  all_after : (ys : List A) → AllWithin (λ y. R (f y) (f x) ≡ Greater) ys 0 (length ys) → list_all (below_by (on f R) x) ys ≡ true
  all_after [] greater = refl
  all_after (y ∷ ys) greater =
      and_from _ _ (ap is_lt (back R o (f y) (f x) Greater (greater 0 y (omega arith) (omega arith))))
      (all_after ys (λ j d low within. greater (suc j) d (omega arith) (omega (arith, within))))

  -- an element in the gap between those that are below it and those that it is below
  placed_in_gap : (xs : List A) (i : ℕ) → AllWithin (λ y. R (f y) (f x) ≡ Less) xs 0 i → AllWithin (λ y. R (f y) (f x) ≡ Greater) xs i (length xs) →
      placed (on f R) xs x ≡ insert xs i x
  placed_in_gap [] zero less greater = refl
  placed_in_gap [] (suc i) less greater = refl
  placed_in_gap (y ∷ ys) zero less greater = placed_first (on f R) (on_total f o) x (y ∷ ys) (all_after (y ∷ ys) greater)
  placed_in_gap (y ∷ ys) (suc i) less greater =
      placed_after (on f R) (on_total f o) y x ys (ap is_lt (less 0 y (omega arith) (omega arith))) ∙
      ap (λ zs. y ∷ zs) (placed_in_gap ys i
      (λ j d low within. less (suc j) d (omega arith) (omega (arith, within)))
      (λ j d low within. greater (suc j) d (omega (arith, low)) (omega (arith, within))))

  pub placed_at_gap : (xs : List A) (i : ℕ) → ascends (on f R) xs ≡ true → IsBinarySearchResult standing xs (Err i) → placed (on f R) xs x ≡ insert xs i x
  placed_at_gap xs i up parted = let parts = parted (rises f R o (f x) xs up) in placed_in_gap xs i parts.0 parts.1
