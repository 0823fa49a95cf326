-- What holds of each element of a list holds of each element of those that are made of it.
use Rattle.std.proofs.Common.{◌≡◌, ℕ, zero, suc, ◌+◌, ◌<◌, ◌≤◌, Bool, true, false, cond, Option, None, Some, List, [], ◌∷◌, ◌++◌, map, length, take, drop, refl, ap, subst, arith, le_refl}
use Rattle.std.specs.Prelude.{slice_get, slice_set, insert, remove, filter, filter_map, find, fold}
use Rattle.std.specs.List.{cons_option, enumerate_from}
use Rattle.std.specs.declared.cmp.Ordering.{Ordering}
use Rattle.chi_sets.specs.Ascending.{placed, in_order, below_by}
use Rattle.chi_core.specs.Kinds.{Every}
use Rattle.chi_core.proofs.Lists.{every_nil, every_cons}
use Rattle.chi_core_kinds.proofs.Composing.{every_append}

-- nothing is said
pub anything : {A : Type 0} (xs : List A) → Every (λ x. Unit {0}) xs
anything xs k x e = tt

module _ {A : Type 0} (P : A → Type 0) where
  pub every_tail : (x : A) (xs : List A) → Every P (x ∷ xs) → Every P xs
  every_tail x xs ps k y e = ps (suc k) y e

  pub every_take : (n : ℕ) (xs : List A) → Every P xs → Every P (take n xs)
  every_take zero xs ps = every_nil P
  every_take (suc n) [] ps = every_nil P
  every_take (suc n) (x ∷ xs) ps = every_cons P x (take n xs) (ps zero x refl) (every_take n xs (every_tail x xs ps))

  pub every_drop : (n : ℕ) (xs : List A) → Every P xs → Every P (drop n xs)
  every_drop zero xs ps = ps
  every_drop (suc n) [] ps = every_nil P
  every_drop (suc n) (x ∷ xs) ps = every_drop n xs (every_tail x xs ps)

  pub every_remove : (k : ℕ) (xs : List A) → Every P xs → Every P (remove xs k)
  every_remove k xs ps = every_append P (take k xs) (drop (suc k) xs) (every_take k xs ps) (every_drop (suc k) xs ps)

  pub every_insert : (k : ℕ) (x : A) (xs : List A) → P x → Every P xs → Every P (insert xs k x)
  every_insert k x xs p ps = every_append P (take k xs) (x ∷ drop k xs) (every_take k xs ps) (every_cons P x (drop k xs) p (every_drop k xs ps))

  pub every_set : (k : ℕ) (y : A) (xs : List A) → P y → Every P xs → Every P (slice_set xs k y)
  every_set k y [] p ps = every_nil P
  every_set zero y (x ∷ xs) p ps = every_cons P y xs p (every_tail x xs ps)
  every_set (suc k) y (x ∷ xs) p ps = every_cons P x (slice_set xs k y) (ps zero x refl) (every_set k y xs p (every_tail x xs ps))

  pub every_filter : (test : A → Bool) (xs : List A) → Every P xs → Every P (filter test xs)
  every_filter test [] ps = every_nil P
  every_filter test (x ∷ xs) ps = decided (test x) (every_filter test xs (every_tail x xs ps))
    where
      decided : (b : Bool) → Every P (filter test xs) → Every P (cond b (x ∷ filter test xs) (filter test xs))
      decided true rest = every_cons P x (filter test xs) (ps zero x refl) rest
      decided false rest = rest

  module _ (by : A → A → Ordering) where
    pub every_placed : (xs : List A) (x : A) → Every P xs → P x → Every P (placed by xs x)
    every_placed xs x ps p =
        every_append P (filter (λ y. below_by by y x) xs) (x ∷ filter (below_by by x) xs) (every_filter (λ y. below_by by y x) xs ps)
        (every_cons P x (filter (below_by by x) xs) p (every_filter (below_by by x) xs ps))

    every_folded : (ys xs : List A) → Every P ys → Every P xs → Every P (fold (placed by) ys xs)
    every_folded ys [] qs ps = qs
    every_folded ys (x ∷ xs) qs ps = every_folded (placed by ys x) xs (every_placed ys x qs (ps zero x refl)) (every_tail x xs ps)

    pub every_in_order : (xs : List A) → Every P xs → Every P (in_order by xs)
    every_in_order xs ps = every_folded [] xs (every_nil P) ps

  -- what is found is an element
  pub found_is : (test : A → Bool) (xs : List A) → Every P xs → (x : A) → find test xs ≡ Some x → P x
  found_is test [] ps x e = absurd (cc)
  found_is test (y ∷ ys) ps x e = decided (test y) (found_is test ys (every_tail y ys ps) x) e
    where
      decided : (b : Bool) → (find test ys ≡ Some x → P x) → cond b (Some y) (find test ys) ≡ Some x → P x
      decided true rest same = let is : y ≡ x = cc in subst P is (ps zero y refl)
      decided false rest other = rest other

module _ {A B : Type 0} (P : A → Type 0) (Q : B → Type 0) where
  pub every_map : (f : A → B) → ((x : A) → P x → Q (f x)) → (xs : List A) → Every P xs → Every Q (map f xs)
  every_map f h [] ps = every_nil Q
  every_map f h (x ∷ xs) ps = every_cons Q (f x) (map f xs) (h x (ps zero x refl)) (every_map f h xs (every_tail P x xs ps))

  pub every_chosen : (f : A → Option B) → ((x : A) (y : B) → P x → f x ≡ Some y → Q y) → (xs : List A) → Every P xs → Every Q (filter_map f xs)
  every_chosen f h [] ps = every_nil Q
  every_chosen f h (x ∷ xs) ps = decided (f x) (λ y. h x y (ps zero x refl)) (every_chosen f h xs (every_tail P x xs ps))
    where
      decided : (o : Option B) → ((y : B) → o ≡ Some y → Q y) → Every Q (filter_map f xs) → Every Q (cons_option o (filter_map f xs))
      decided None k rest = rest
      decided (Some y) k rest = every_cons Q y (filter_map f xs) (k y refl) rest

  pub every_numbered : (f : ℕ × A → B) → ((k : ℕ) (x : A) → P x → Q (f (k, x))) → (xs : List A) (k : ℕ) → Every P xs → Every Q (map f (enumerate_from k xs))
  every_numbered f h [] k ps = every_nil Q
  every_numbered f h (x ∷ xs) k ps = every_cons Q (f (k, x)) (map f (enumerate_from (k + 1) xs)) (h k x (ps zero x refl)) (every_numbered f h xs (k + 1) (every_tail P x xs ps))

pub length_filter : {A : Type 0} (test : A → Bool) (xs : List A) → length (filter test xs) ≤ length xs
length_filter test [] = le_refl 0
length_filter test (x ∷ xs) = decided (test x) (length_filter test xs)
  where
    decided : (b : Bool) → length (filter test xs) ≤ length xs → length (cond b (x ∷ filter test xs) (filter test xs)) ≤ suc (length xs)
    decided true rest = omega (arith, rest)
    decided false rest = omega (arith, rest)

module _ {A B : Type 0} (f : A → Option B) where
  pub length_chosen : (xs : List A) → length (filter_map f xs) ≤ length xs
  length_chosen [] = le_refl 0
  length_chosen (x ∷ xs) = decided (f x) (length_chosen xs)
    where
      decided : (o : Option B) → length (filter_map f xs) ≤ length xs → length (cons_option o (filter_map f xs)) ≤ suc (length xs)
      decided None rest = omega (arith, rest)
      decided (Some y) rest = omega (arith, rest)

pub length_remove : {A : Type 0} (k : ℕ) (xs : List A) → length (remove xs k) ≤ length xs
length_remove zero [] = le_refl 0
length_remove zero (x ∷ xs) = omega arith
length_remove (suc k) [] = le_refl 0
length_remove (suc k) (x ∷ xs) = let rest = length_remove k xs in omega (arith, rest)

pub length_changed : {A : Type 0} (k : ℕ) (y : A) (xs : List A) → length (slice_set xs k y) ≡ length xs
length_changed k y [] = refl
length_changed zero y (x ∷ xs) = refl
length_changed (suc k) y (x ∷ xs) = ap suc (length_changed k y xs)

-- within the length there is an element
pub there : {A : Type 0} (xs : List A) (k : ℕ) → k < length xs → (x : A) × (slice_get xs k ≡ Some x)
there [] k h = absurd (omega (arith, h))
there (x ∷ xs) zero h = (x, refl)
there (x ∷ xs) (suc k) h = there xs k (omega (arith, h))

pub there_last : {A : Type 0} (xs : List A) (x : A) → slice_get (xs ++ x ∷ []) (length xs) ≡ Some x
there_last [] x = refl
there_last (y ∷ xs) x = there_last xs x
