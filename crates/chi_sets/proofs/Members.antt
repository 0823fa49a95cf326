-- What is among the elements of a list in order, and which element ties with one.
use Rattle.std.proofs.Common.{◌≡◌, Bool, true, false, cond, not, ◌&&◌, ◌||◌, List, [], ◌∷◌, ◌++◌, reverse, filter, find, Option, Some, None, Ordering, Less, Equal, Greater, is_eq, is_lt, refl, sym, ap, ap₂, ◌∙◌}
use mathlib.Core.List.{reverse-append}
use Rattle.std.proofs.lemmas.Bool.{and_right}
use Rattle.std.proofs.lemmas.Cmp.{tied_itself, eq_by_cmp_equiv}
use Rattle.std.proofs.lemmas.List.Folds.{list_any-append, find-append}
use Rattle.std.proofs.lemmas.List.Sorted.{list_any-IsPermutation, IsPermutation-reverse}
use Rattle.std.proofs.lemmas.Map.Steps.{list_any_congr}
use Rattle.std.specs.Cmp.{IsTotalOrder}
use Rattle.std.specs.List.{list_any}
use Rattle.std.specs.Option.{option_or}
use Rattle.chi_sets.specs.Ascending.{ties_by, ascends, placed, in_order}
use Rattle.chi_sets.proofs.Ascending.{equal, in_order_ascending}
use Rattle.chi_sets.proofs.Repeats.{first_or, class_placed, class_in_order}

abbrev first : {A : Type 0} → List A → Option A
first [] = None
first (x ∷ xs) = Some x

abbrev is_some_element : {A : Type 0} → List A → Bool
is_some_element [] = false
is_some_element (x ∷ xs) = true

any_of_filter : {A : Type 0} (p : A → Bool) (xs : List A) → list_any p xs ≡ is_some_element (filter p xs)
any_of_filter p [] = refl
any_of_filter p (x ∷ xs) = split (p x) (any_of_filter p xs)
  where
    split : (b : Bool) → list_any p xs ≡ is_some_element (filter p xs) → (b || list_any p xs) ≡ is_some_element (cond b (x ∷ filter p xs) (filter p xs))
    split true rest = refl
    split false rest = rest

pub find_of_filter : {A : Type 0} (p : A → Bool) (xs : List A) → find p xs ≡ first (filter p xs)
find_of_filter p [] = refl
find_of_filter p (x ∷ xs) = split (p x) (find_of_filter p xs)
  where
    split : (b : Bool) → find p xs ≡ first (filter p xs) → cond b (Some x) (find p xs) ≡ first (cond b (x ∷ filter p xs) (filter p xs))
    split true rest = refl
    split false rest = rest

some_first : {A : Type 0} (us : List A) → is_some_element (first_or us []) ≡ is_some_element us
some_first [] = refl
some_first (u ∷ us) = refl

first_first : {A : Type 0} (us : List A) → first (first_or us []) ≡ first us
first_first [] = refl
first_first (u ∷ us) = refl

-- a filter whose test is the same of all that p holds of
pub any_filter : {A : Type 0} (p q : A → Bool) (c : Bool) (same : (y : A) → p y ≡ true → q y ≡ c) (xs : List A) → list_any p (filter q xs) ≡ (list_any p xs && c)
any_filter p q c same [] = refl
any_filter p q c same (x ∷ xs) = split (q x) (p x) refl refl (any_filter p q c same xs)
  where
    split : (b d : Bool) → q x ≡ b → p x ≡ d → list_any p (filter q xs) ≡ (list_any p xs && c) →
        list_any p (cond b (x ∷ filter q xs) (filter q xs)) ≡ ((p x || list_any p xs) && c)
    split true true e f rest = rw f (sym e ∙ same x f)
    split true false e f rest = rw f rest
    split false true e f rest = let c_false = sym (same x f) ∙ e in rw f (rest ∙ and_right (list_any p xs) c c_false ∙ sym c_false)
    split false false e f rest = rw f rest

module _ {A : Type 0} (R : A → A → Ordering) (o : IsTotalOrder R) where
  -- a list in order has those that it was made of
  pub among_in_order : (xs : List A) (x : A) → list_any (ties_by R x) (in_order R xs) ≡ list_any (ties_by R x) xs
  among_in_order xs x =
      any_of_filter (ties_by R x) (in_order R xs) ∙
      ap is_some_element (class_in_order R o x xs) ∙
      some_first (filter (ties_by R x) (reverse xs)) ∙
      sym (any_of_filter (ties_by R x) (reverse xs)) ∙
      sym (list_any-IsPermutation (ties_by R x) xs (reverse xs) (IsPermutation-reverse xs))

  pub among_both : (xs ys : List A) (x : A) → list_any (ties_by R x) (in_order R (xs ++ ys)) ≡ (list_any (ties_by R x) xs || list_any (ties_by R x) ys)
  among_both xs ys x = among_in_order (xs ++ ys) x ∙ list_any-append (ties_by R x) xs ys

  -- of those that tie, the last that was given
  pub find_in_order : (xs : List A) (x : A) → find (ties_by R x) (in_order R xs) ≡ find (ties_by R x) (reverse xs)
  find_in_order xs x =
      find_of_filter (ties_by R x) (in_order R xs) ∙
      ap first (class_in_order R o x xs) ∙
      first_first (filter (ties_by R x) (reverse xs)) ∙
      sym (find_of_filter (ties_by R x) (reverse xs))

  pub find_placed : (ws : List A) (x : A) → find (ties_by R x) (placed R ws x) ≡ Some x
  find_placed ws x =
      find_of_filter (ties_by R x) (placed R ws x) ∙
      ap first (class_placed R o x x ws ∙ ap (λ r. cond (is_eq r) (x ∷ []) (filter (ties_by R x) ws)) (tied_itself o x))

  pub find_others : (ws : List A) (x z : A) → ties_by R z x ≡ false → find (ties_by R z) (placed R ws x) ≡ find (ties_by R z) ws
  find_others ws x z apart =
      find_of_filter (ties_by R z) (placed R ws x) ∙
      ap first (class_placed R o z x ws ∙ ap (λ b. cond b (x ∷ []) (filter (ties_by R z) ws)) apart) ∙
      sym (find_of_filter (ties_by R z) ws)

  -- in an ascending list the first that ties is the last
  find_reverse : (xs : List A) (x : A) → ascends R xs ≡ true → find (ties_by R x) (reverse xs) ≡ find (ties_by R x) xs
  find_reverse xs x up = sym (find_in_order xs x) ∙ ap (find (ties_by R x)) (in_order_ascending R o xs up)

  pub find_both : (xs ys : List A) (x : A) → ascends R xs ≡ true → ascends R ys ≡ true →
      find (ties_by R x) (in_order R (xs ++ ys)) ≡ option_or (find (ties_by R x) ys) (find (ties_by R x) xs)
  find_both xs ys x up up' =
      find_in_order (xs ++ ys) x ∙
      ap (find (ties_by R x)) (reverse-append xs ys) ∙
      find-append (ties_by R x) (reverse ys) (reverse xs) ∙
      ap₂ option_or (find_reverse ys x up') (find_reverse xs x up)

  -- what is kept by whether it is among others
  pub among_kept : (test : Bool → Bool) (xs ys : List A) (x : A) →
      list_any (ties_by R x) (filter (λ y. test (list_any (ties_by R y) ys)) xs) ≡ (list_any (ties_by R x) xs && test (list_any (ties_by R x) ys))
  among_kept test xs ys x =
      any_filter (ties_by R x) (λ y. test (list_any (ties_by R y) ys)) (test (list_any (ties_by R x) ys))
      (λ y h. ap test (sym (list_any_congr (eq_by_cmp_equiv o) x y ys h))) xs
